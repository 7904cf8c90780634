-- What it is for a reader to read a grammar, and how readers are put together. Definitions only.
use Rattle.std.specs.Prelude.{◌≡◌, Bool, true, false, List, [], ◌∷◌, Option, None, Some}
use Rattle.bits.specs.Bits.{Bits}
use Rattle.events.specs.Event.{◌▸◌}
use Rattle.fields.specs.Reader.{Res, ok, bind}
use Rattle.fields.specs.Stopped.{Stops}
use Rattle.sentences.specs.Compose.{BreaksOff}

-- the reader accepts only what begins with a sentence, and every sentence, and gives it back with the bits after it
pub record Reads {A : Type 0} (read : Bits → Res A) (bits : A → Bits) (Good : A → Type 0) : Type 0 where
  pub sound : (b : Bits) (a : A) (r : Bits) → read b ≡ ok a r → Good a × (b ≡ bits a ▸ r)
  pub complete : (a : A) (r : Bits) → Good a → read (bits a ▸ r) ≡ ok a r

-- bits that break off inside a sentence are refused by 1 or 17 and by nothing else: a good clip, cut anywhere, is never told as bad
abbrev pub CutSentence : {A : Type 0} → (Bits → Res A) → (A → Bits) → (A → Type 0) → Type 0
CutSentence {A} read bits Good = (b : Bits) (a : A) → BreaksOff bits Good b a → Stops (read b)

-- one after the other
abbrev pub read_pair : {A B : Type 0} → (Bits → Res A) → (Bits → Res B) → Bits → Res (A × B)
read_pair p q b = bind (p b) (λ a r. bind (q r) (λ c r. ok (a, c) r))

-- one after the other, the second as what the first says asks for it
abbrev pub read_then : {A B : Type 0} → (Bits → Res A) → (A → Bits → Res B) → Bits → Res (A × B)
read_then p q b = bind (p b) (λ a r. bind (q a r) (λ c r. ok (a, c) r))

-- there if the flag is set
abbrev pub read_opt : {A : Type 0} → Bool → (Bits → Res A) → Bits → Res (Option A)
read_opt true p b = bind (p b) (λ a r. ok (Some a) r)
read_opt false p b = ok None b

-- one for each of a list
abbrev pub read_each : {S A : Type 0} → (S → Bits → Res A) → List S → Bits → Res (List A)
read_each p [] b = ok [] b
read_each p (s ∷ ss) b = bind (p s b) (λ a r. bind (read_each p ss r) (λ xs r. ok (a ∷ xs) r))
