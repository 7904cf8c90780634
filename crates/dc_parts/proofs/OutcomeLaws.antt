-- The answer to a DC part by number is what is due. Assumes nothing.
use mathlib.Core.List.{List}
use mathlib.Core.Path.{◌≡◌, refl}
use Prim.Native.Nat.{ℕ}
use lib.ListN.{length}
use Rattle.bits.specs.Bits.{bits_from}
use Rattle.bits.specs.Cursor.{in_data}
use Rattle.codes.specs.declared.dc_size.DcComponent.{DcComponent}
use Rattle.dc_parts.specs.Answer.{dc_answer, dc_told, dc_value}
use Rattle.dc_parts.specs.Dc.{Dc, dc}
use Rattle.dc_parts.specs.DcReader.{read_dc}
use Rattle.dc_parts.specs.Outcomes.{dc_due, dc_outcome, dc_said}
use Rattle.fields.proofs.OutcomeLaws.{after_test}
use Rattle.fields.specs.Outcomes.{read_as}
use Rattle.fields.specs.Reader.{Res, mapped, no, ok}
use Rattle.std.specs.Prelude.{Err}

module _ (d : List ℕ) where
  dc-said : (c : DcComponent) (m : Res Dc) → dc_outcome (dc_told d (mapped (dc_value c) m)) ≡ read_as (dc_said c) d m
  dc-said c (ok (dc i a) r) = refl
  dc-said c (no e) = refl

  pub dc_due_lem : (at : ℕ) (c : DcComponent) → dc_outcome (dc_answer d at c) ≡ dc_due d at c
  dc_due_lem at c = after_test dc_outcome Err (λ e. refl) (in_data (length d) at) _ (dc-said c (read_dc c (bits_from d at)))
