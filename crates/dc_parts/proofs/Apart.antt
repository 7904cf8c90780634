-- The outcome of a DC part tells its answer. Assumes nothing.
use mathlib.Core.Path.{◌≡◌, ap, refl, sym, ◌∙◌}
use Prim.Native.Nat.{ℕ}
use lib.IntN.{ℤ}
use Rattle.bits.specs.Cursor.{cursor_at}
use Rattle.dc_parts.specs.Outcomes.{dc_outcome}
use Rattle.fields.proofs.Apart.{answer_by, error_by_lem}
use Rattle.numbers.specs.Outcome.{Outcome}
use Rattle.std.specs.Prelude.{Err, Ok, Result}
use Rattle.dc_parts.specs.declared.dc.IntraDcDifferential.{IntraDcDifferential}
use Rattle.bits.specs.declared.cursor.Cursor.{Cursor}
use Rattle.fields.specs.declared.error.TextureParseError.{TextureParseError}

abbrev dc_by : Outcome ((ℕ × ℤ) × ℕ) → Result (IntraDcDifferential × Cursor) TextureParseError
dc_by = answer_by (λ (p : (ℕ × ℤ) × ℕ). Ok (record { size = p.0.0; differential = p.0.1 }, cursor_at p.1)) Err

dc_by_lem : (r : Result (IntraDcDifferential × Cursor) TextureParseError) → r ≡ dc_by (dc_outcome r)
dc_by_lem (Ok (v, c)) = refl
dc_by_lem (Err e) = ap Err (error_by_lem e)

pub dc-apart : (r s : Result (IntraDcDifferential × Cursor) TextureParseError) → dc_outcome r ≡ dc_outcome s → r ≡ s
dc-apart r s h = dc_by_lem r ∙ ap dc_by h ∙ sym (dc_by_lem s)
