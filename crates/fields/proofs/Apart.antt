-- Number and figure tell the refusals of reading apart, and the outcome of a number tells it. Assumes nothing.
use mathlib.Core.Bool.{cond}
use mathlib.Core.Path.{◌≡◌, ap, ap₂, refl, sym, ◌∙◌}
use Prim.Native.Nat.{ℕ}
use lib.Dec.{eqb}
use Rattle.bits.specs.Cursor.{cursor_at}
use Rattle.fields.specs.Outcomes.{got_outcome}
use Rattle.fields.specs.Refusal.{figure_of, number_of}
use Rattle.fields.specs.declared.error.TextureParseError.{TextureParseError}
use Rattle.fields.specs.declared.error.TextureParseError.TheVariants.{Truncated, InvalidDcSize, MarkerBitMissing, InvalidTcoef, EscapeMarkerBitMissing, ReservedEscapeLevel, RvlcEscapeDelimiterMissing, Overflow, OutOfRange, EndedInsideCode, InvalidHeader}
use Rattle.numbers.specs.Outcome.{Outcome, accepted, refused}
use Rattle.std.specs.Prelude.{Err, Ok, Result}
use Rattle.bits.specs.declared.cursor.Cursor.{Cursor}

-- ---- refusals

-- a refusal out of its number and figure
abbrev pub error_by : ℕ → ℕ → TextureParseError
error_by n f =
    cond (eqb n 1) Truncated
    (cond (eqb n 2) (InvalidDcSize f)
    (cond (eqb n 3) MarkerBitMissing
    (cond (eqb n 4) (InvalidTcoef f)
    (cond (eqb n 5) EscapeMarkerBitMissing
    (cond (eqb n 6) ReservedEscapeLevel
    (cond (eqb n 7) (RvlcEscapeDelimiterMissing f)
    (cond (eqb n 8) (Overflow f)
    (cond (eqb n 16) InvalidHeader
    (cond (eqb n 17) EndedInsideCode OutOfRange)))))))))

pub error_by_lem : (e : TextureParseError) → e ≡ error_by (number_of e) (figure_of e)
error_by_lem Truncated = refl
error_by_lem (InvalidDcSize w) = refl
error_by_lem MarkerBitMissing = refl
error_by_lem (InvalidTcoef w) = refl
error_by_lem EscapeMarkerBitMissing = refl
error_by_lem ReservedEscapeLevel = refl
error_by_lem (RvlcEscapeDelimiterMissing w) = refl
error_by_lem (Overflow p) = refl
error_by_lem OutOfRange = refl
error_by_lem EndedInsideCode = refl
error_by_lem InvalidHeader = refl

pub error_apart : (e f : TextureParseError) → number_of e ≡ number_of f → figure_of e ≡ figure_of f → e ≡ f
error_apart e f n g = error_by_lem e ∙ ap₂ error_by n g ∙ sym (error_by_lem f)

-- ---- answers

-- an answer out of its outcome
abbrev pub answer_by : {A R : Type 0} → (A → R) → (TextureParseError → R) → Outcome A → R
answer_by took fails (accepted a) = took a
answer_by took fails (refused n f) = fails (error_by n f)

abbrev got_by : Outcome (ℕ × ℕ) → Result (ℕ × Cursor) TextureParseError
got_by = answer_by (λ (p : ℕ × ℕ). Ok (p.0, cursor_at p.1)) Err

got_by_lem : (r : Result (ℕ × Cursor) TextureParseError) → r ≡ got_by (got_outcome r)
got_by_lem (Ok (v, c)) = refl
got_by_lem (Err e) = ap Err (error_by_lem e)

pub got_apart : (r s : Result (ℕ × Cursor) TextureParseError) → got_outcome r ≡ got_outcome s → r ≡ s
got_apart r s h = got_by_lem r ∙ ap got_by h ∙ sym (got_by_lem s)
