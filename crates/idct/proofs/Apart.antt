-- An outcome tells its answer. Assumes nothing.
use mathlib.Core.Bool.{cond}
use mathlib.Core.Path.{◌≡◌, ap, refl, sym, ◌∙◌}
use lib.Dec.{eqb}
use lib.IntN.{ℤ}
use Rattle.numbers.specs.Outcome.{Outcome, accepted, refused}
use Rattle.idct.specs.Limits.{idct_outcome, sample_outcome}
use Rattle.std.specs.Prelude.{Err, None, Ok, Option, Result, Some, ⊤}
use Rattle.idct.specs.declared.limits.IdctError.{IdctError}
use Rattle.idct.specs.declared.limits.IdctError.TheVariants.{DepthOutOfRange}
use Rattle.idct.specs.declared.limits.IdctError.TheVariants.{ValueOutOfLimits}

-- ---- a transform

abbrev answer_by : Outcome (Unit {0}) → Result ⊤ IdctError
answer_by (accepted u) = Ok tt
answer_by (refused n f) = cond (eqb n 12) (Err DepthOutOfRange) (Err ValueOutOfLimits)

answer_by_lem : (r : Result ⊤ IdctError) → r ≡ answer_by (idct_outcome r)
answer_by_lem (Ok tt) = refl
answer_by_lem (Err DepthOutOfRange) = refl
answer_by_lem (Err ValueOutOfLimits) = refl

pub answers-apart : (r s : Result ⊤ IdctError) → idct_outcome r ≡ idct_outcome s → r ≡ s
answers-apart r s e = answer_by_lem r ∙ ap answer_by e ∙ sym (answer_by_lem s)

-- ---- a sample

abbrev sample_by : Outcome ℤ → Option ℤ
sample_by (accepted z) = Some z
sample_by (refused n f) = None

sample_by_lem : (r : Option ℤ) → r ≡ sample_by (sample_outcome r)
sample_by_lem (Some z) = refl
sample_by_lem None = refl

pub samples-apart : (r s : Option ℤ) → sample_outcome r ≡ sample_outcome s → r ≡ s
samples-apart r s e = sample_by_lem r ∙ ap sample_by e ∙ sym (sample_by_lem s)
