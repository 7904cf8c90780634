-- The answers to a reading of blocks by number are what is due. Assumes nothing.
use mathlib.Core.Bool.{Bool, cond}
use mathlib.Core.List.{List}
use mathlib.Core.Path.{◌≡◌, ap, refl, ◌∙◌}
use Prim.Native.Nat.{ℕ}
use lib.ListN.{length}
use Rattle.numbers.proofs.OutcomeLaws.{one_test}
use Rattle.numbers.specs.Outcome.{Outcome, refused}
use Rattle.bits.specs.Bits.{bits_from}
use Rattle.bits.specs.Cursor.{in_data}
use Rattle.codes.specs.declared.dc_size.DcComponent.{DcComponent}
use Rattle.events.specs.Spellings.{spellings_of}
use Rattle.events.specs.declared.spelling.Spellings.{Spellings}
use Rattle.sentences.specs.Macroblock.{Parts, events_in, events_of}
use Rattle.sentences.specs.MacroblockReader.{read_block, read_macroblock}
use Rattle.texture.specs.Outcomes.{list_outcome}
use Rattle.fields.specs.Outcomes.{read_as}
use Rattle.fields.specs.Reader.{Res, no, ok}
use Rattle.block_reader.specs.Outcomes.{blocks_due, places_due}
use Rattle.block_reader.specs.Reading.{parts_read, places_answer}
use Rattle.block_reader.specs.Rows.{blocks_answer, blocks_told}
use Rattle.block_reader.specs.declared.read.PlacesRead.{PlacesRead}

-- an answer beside its places
abbrev pub places_outcome : PlacesRead → Outcome (ℕ × Spellings)
places_outcome one = list_outcome one.answer

module _ (d : List ℕ) where
  parts_said : (c : DcComponent) (dc_coded : Bool) (y : Res Parts) → places_outcome (parts_read d c dc_coded y) ≡ read_as (λ s position. (position, spellings_of (events_of s.1))) d y
  parts_said c dc_coded (ok s r) = refl
  parts_said c dc_coded (no e) = refl

  blocks_said : (y : Res (List Parts)) → list_outcome (blocks_told d y) ≡ read_as (λ s position. (position, spellings_of (events_in s))) d y
  blocks_said (ok s r) = refl
  blocks_said (no e) = refl

pub places_due_lem : (d : List ℕ) (at : ℕ) (c : DcComponent) (coded dc_coded rev : Bool) → list_outcome (places_answer d at c coded dc_coded rev).answer ≡ places_due d at c coded dc_coded rev
places_due_lem d at c coded dc_coded rev =
    one_test places_outcome (in_data (length d) at) _ _
    ∙ ap (λ (o : Outcome (ℕ × Spellings)). cond (in_data (length d) at) o (refused 11 0)) (parts_said d c dc_coded (read_block dc_coded rev (c, coded) (bits_from d at)))

pub blocks_due_lem : (d : List ℕ) (at : ℕ) (pattern : List Bool) (dc_coded rev : Bool) → list_outcome (blocks_answer d at pattern dc_coded rev) ≡ blocks_due d at pattern dc_coded rev
unfolding blocks_answer
blocks_due_lem d at pattern dc_coded rev =
    one_test list_outcome (in_data (length d) at) _ _
    ∙ ap (λ (o : Outcome (ℕ × Spellings)). cond (in_data (length d) at) o (refused 11 0)) (blocks_said d (read_macroblock dc_coded rev pattern (bits_from d at)))
