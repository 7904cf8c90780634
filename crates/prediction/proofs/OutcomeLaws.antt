-- The answers of the stages by number are what is due, and the numbers tell the answers apart. Assumes nothing.
use mathlib.Core.Bool.{Bool, cond, false, true, ◌&&◌}
use mathlib.Core.List.{List}
use mathlib.Core.Path.{◌≡◌, ap, refl, sym, ◌∙◌}
use Prim.Native.Nat.{ℕ}
use lib.Dec.{eqb}
use lib.IntN.{ℤ}
use Rattle.numbers.proofs.OutcomeLaws.{one_test}
use Rattle.numbers.specs.Every.{every}
use Rattle.numbers.specs.Outcome.{Outcome, accepted, done, refused}
use Rattle.ranges.specs.Range.{dc_fine, depth_fine, difference_fine, level_fine, quantiser_fine}
use Rattle.codes.specs.declared.dc_size.DcComponent.{DcComponent}
use Rattle.prediction.specs.Outcomes.{ac_due, dc_due, default_due, direction_due, direction_outcome, scaler_due, scaler_outcome, seven_due, stage_outcome, value_outcome}
use Rattle.prediction.specs.Refusal.{first_bad, number_of, values_fine}
use Rattle.prediction.specs.Stages.{ac_answer, dc_answer, default_answer, direction_answer, scaler_answer, seven_answer, value_unless}
use Rattle.prediction.specs.declared.refusal.CoefficientError.{CoefficientError}
use Rattle.prediction.specs.declared.refusal.CoefficientError.TheVariants.{Context, HandedIn}
use Rattle.scan.specs.declared.DcPredictionDirection.{DcPredictionDirection}
use Rattle.std.specs.Prelude.{Err, Ok, Result, ⊤}

-- ---- 12, then 13

pub stage_due : (context values : Bool) → stage_outcome (first_bad context values) ≡ cond context (cond values done (refused 13 0)) (refused 12 0)
stage_due true true = refl
stage_due true false = refl
stage_due false values = refl

pub value_due : (context values : Bool) (z : ℤ) → value_outcome (value_unless context values z) ≡ cond context (cond values (accepted z) (refused 13 0)) (refused 12 0)
value_due true true z = refl
value_due true false z = refl
value_due false values z = refl

-- ---- of each function

pub scaler_due_lem : (c : DcComponent) (q : ℕ) → scaler_outcome (scaler_answer c q) ≡ scaler_due c q
scaler_due_lem c q = one_test scaler_outcome (quantiser_fine q) _ _

pub direction_due_lem : (fa fb fc : ℤ) → direction_outcome (direction_answer fa fb fc) ≡ direction_due fa fb fc
direction_due_lem fa fb fc = one_test direction_outcome (dc_fine fa && (dc_fine fb && dc_fine fc)) _ _

pub default_due_lem : (depth : ℕ) → value_outcome (default_answer depth) ≡ default_due depth
default_due_lem depth = value_due (depth_fine depth) true _

pub dc_due_lem : (z : ℤ) (d : DcPredictionDirection) (fa fc : ℤ) (scaler : ℕ) → value_outcome (dc_answer z d fa fc scaler) ≡ dc_due z d fa fc scaler
dc_due_lem z d fa fc scaler = value_due true (difference_fine z && (dc_fine fa && dc_fine fc)) _

pub ac_due_lem : (pqf : List ℤ) (has : Bool) (qf : List ℤ) (qp q : ℕ) → stage_outcome (ac_answer pqf has qf qp q) ≡ ac_due pqf has qf qp q
ac_due_lem pqf has qf qp q = stage_due (quantiser_fine q) (every level_fine pqf && (quantiser_fine qp && values_fine has qf))

pub seven_due_lem : (values : List ℤ) (qp q : ℕ) → stage_outcome (seven_answer values qp q) ≡ seven_due values qp q
seven_due_lem values qp q = stage_due (quantiser_fine q) (quantiser_fine qp && every level_fine values)

-- ---- the numbers tell the answers apart

abbrev error_by : ℕ → CoefficientError
error_by n = cond (eqb n 12) Context HandedIn

error_by_lem : (e : CoefficientError) → e ≡ error_by (number_of e)
error_by_lem Context = refl
error_by_lem HandedIn = refl

pub number-apart : (e f : CoefficientError) → number_of e ≡ number_of f → e ≡ f
number-apart e f h = error_by_lem e ∙ ap error_by h ∙ sym (error_by_lem f)

abbrev answer_by : {A R : Type 0} → (A → R) → (CoefficientError → R) → Outcome A → R
answer_by took fails (accepted a) = took a
answer_by took fails (refused n f) = fails (error_by n)

stage_by : (r : Result ⊤ CoefficientError) → r ≡ answer_by (λ (u : Unit {0}). (Ok tt)) Err (stage_outcome r)
stage_by (Ok tt) = refl
stage_by (Err e) = ap Err (error_by_lem e)

pub stage_apart : (r s : Result ⊤ CoefficientError) → stage_outcome r ≡ stage_outcome s → r ≡ s
stage_apart r s h = stage_by r ∙ ap (answer_by (λ (u : Unit {0}). (Ok tt)) Err) h ∙ sym (stage_by s)

value_by : (r : Result ℤ CoefficientError) → r ≡ answer_by Ok Err (value_outcome r)
value_by (Ok z) = refl
value_by (Err e) = ap Err (error_by_lem e)

pub value_apart : (r s : Result ℤ CoefficientError) → value_outcome r ≡ value_outcome s → r ≡ s
value_apart r s h = value_by r ∙ ap (answer_by Ok Err) h ∙ sym (value_by s)

scaler_by : (r : Result ℕ CoefficientError) → r ≡ answer_by Ok Err (scaler_outcome r)
scaler_by (Ok n) = refl
scaler_by (Err e) = ap Err (error_by_lem e)

pub scaler_apart : (r s : Result ℕ CoefficientError) → scaler_outcome r ≡ scaler_outcome s → r ≡ s
scaler_apart r s h = scaler_by r ∙ ap (answer_by Ok Err) h ∙ sym (scaler_by s)

direction_by_lem : (r : Result DcPredictionDirection CoefficientError) → r ≡ answer_by Ok Err (direction_outcome r)
direction_by_lem (Ok d) = refl
direction_by_lem (Err e) = ap Err (error_by_lem e)

pub direction_apart : (r s : Result DcPredictionDirection CoefficientError) → direction_outcome r ≡ direction_outcome s → r ≡ s
direction_apart r s h = direction_by_lem r ∙ ap (answer_by Ok Err) h ∙ sym (direction_by_lem s)
