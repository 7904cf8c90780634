-- The answer to a list by number is what is due. Assumes nothing.
use mathlib.Core.Bool.{Bool}
use mathlib.Core.List.{List}
use mathlib.Core.Path.{◌≡◌, refl}
use Prim.Native.Nat.{ℕ}
use lib.ListN.{length}
use Rattle.bits.specs.Bits.{bits_from}
use Rattle.bits.specs.Cursor.{in_data}
use Rattle.codes.specs.declared.tcoef_tables.TcoefTable.{TcoefTable}
use Rattle.events.specs.Spellings.{spellings_of}
use Rattle.fields.proofs.OutcomeLaws.{after_test}
use Rattle.fields.specs.Outcomes.{read_as}
use Rattle.fields.specs.Reader.{Res, no, ok}
use Rattle.texture.specs.Answer.{list_answer, list_told}
use Rattle.texture.specs.Events.{Events, first_place, listed}
use Rattle.texture.specs.EventsReader.{list}
use Rattle.texture.specs.Outcomes.{list_due, list_outcome}
use Rattle.std.specs.Prelude.{Err}

module _ (d : List ℕ) where
  list-said : (m : Res Events) → list_outcome (list_told d m) ≡ read_as (λ (es : Events) (position : ℕ). (position, spellings_of (listed es))) d m
  list-said (ok es r) = refl
  list-said (no e) = refl

  pub list_due_lem : (at : ℕ) (rev : Bool) (t : TcoefTable) (dc_coded : Bool) → list_outcome (list_answer d at rev t dc_coded) ≡ list_due d at rev t dc_coded
  list_due_lem at rev t dc_coded = after_test list_outcome Err (λ e. refl) (in_data (length d) at) _ (list-said (list rev t (first_place dc_coded) (bits_from d at)))
