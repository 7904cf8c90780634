-- The outcome of a list tells its answer. Assumes nothing.
use mathlib.Core.Path.{◌≡◌, ap, refl, sym, ◌∙◌}
use Prim.Native.Nat.{ℕ}
use Rattle.bits.specs.Cursor.{cursor_at}
use Rattle.events.specs.declared.spelling.Spellings.{Spellings}
use Rattle.fields.proofs.Apart.{answer_by, error_by_lem}
use Rattle.numbers.specs.Outcome.{Outcome}
use Rattle.texture.specs.Outcomes.{list_outcome}
use Rattle.std.specs.Prelude.{Err, Ok, Result}
use Rattle.bits.specs.declared.cursor.Cursor.{Cursor}
use Rattle.fields.specs.declared.error.TextureParseError.{TextureParseError}

abbrev list_by : Outcome (ℕ × Spellings) → Result (Cursor × Spellings) TextureParseError
list_by = answer_by (λ (p : ℕ × Spellings). Ok (cursor_at p.0, p.1)) Err

list_by_lem : (r : Result (Cursor × Spellings) TextureParseError) → r ≡ list_by (list_outcome r)
list_by_lem (Ok (c, n)) = refl
list_by_lem (Err e) = ap Err (error_by_lem e)

pub list-apart : (r s : Result (Cursor × Spellings) TextureParseError) → list_outcome r ≡ list_outcome s → r ≡ s
list-apart r s h = list_by_lem r ∙ ap list_by h ∙ sym (list_by_lem s)
