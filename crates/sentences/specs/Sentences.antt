-- What is claimed of a reader and its grammar, whose sentences (document 01's word, not the standard's) are DC parts, events, lists, blocks or macroblocks (demand 3). Definitions only.
use Rattle.std.specs.Prelude.{◌≡◌, List, ◌↔◌, ℕ, ◌+◌, ◌*◌, ◌≤◌, length}
use Rattle.bits.specs.Bits.{Bits, bits_from}
use Rattle.bits.specs.Cursor.{cursor_at}
use Rattle.events.specs.Event.{◌▸◌}
use Rattle.fields.specs.Answer.{after}
use Rattle.fields.specs.Reader.{Res, ok}
use Rattle.sentences.specs.Compose.{Begins}

pub record Sentences {A : Type 0} (read : Bits → Res A) (bits : A → Bits) (Good : A → Type 0) : Type 0 where
  -- accepted exactly when the bits begin with a sentence
  pub accepted : (b : Bits) → ((a : A) × ((r : Bits) × (read b ≡ ok a r))) ↔ ((a : A) × Begins bits Good b a)
  -- what is accepted is a sentence, and its bits stand first
  pub begins : (b : Bits) (a : A) (r : Bits) → read b ≡ ok a r → Good a × (b ≡ bits a ▸ r)
  -- never with two
  pub alone : (a c : A) (r s : Bits) → Good a → Good c → bits a ▸ r ≡ bits c ▸ s → (a ≡ c) × (r ≡ s)
  -- what follows a sentence changes nothing
  pub own : (a : A) (r : Bits) → Good a → read (bits a ▸ r) ≡ ok a r
  -- the position moves on by the sentence's number of bits
  pub position : (d : List ℕ) (at : ℕ) → at ≤ 8 * length d → (a : A) (r : Bits) → read (bits_from d at) ≡ ok a r → after d r ≡ cursor_at (at + length (bits a))
