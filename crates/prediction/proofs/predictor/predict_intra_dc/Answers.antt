-- `prediction::predictor::predict_intra_dc` meets its contract: the difference and the prediction, of numbers that pass. Assumes nothing.
use mathlib.Core.Bool.{true}
use mathlib.Core.Path.{◌≡◌, ap, sym, ◌∙◌}
use Prim.Native.Nat.{ℕ, ◌≤◌}
use lib.IntN.{ℤ, nat_abs, ◌+ℤ◌}
use mir.Syntax.{w32}
use mir.Val.{of_z, to_z}
use Rattle.std.proofs.Common.{rules, tests, Ok, Result}
use Rattle.numbers.proofs.Expressions.{loc, ◌⊞◌, back}
use Rattle.ranges.proofs.RangeLaws.{difference-abs}
use Rattle.ranges.specs.Range.{dc_fine, difference_fine}
use Rattle.scan.specs.declared.DcPredictionDirection.{DcPredictionDirection}
use Rattle.prediction.specs.Outcomes.{value_outcome}
use Rattle.prediction.specs.Prediction.{dc_prediction}
use Rattle.prediction.specs.Stages.{dc_answer}
use Rattle.prediction.specs.declared.refusal.CoefficientError.{CoefficientError}
use Rattle.prediction.proofs.OutcomeLaws.{dc_due_lem}
use Rattle.prediction.proofs.RefusalLaws.{dc-given}
use Rattle.prediction.proofs.predictor.predict_intra_dc.Goals as goal

-- the sum fits
told : (z : ℤ) (d : DcPredictionDirection) (fa fc : ℤ) (s : ℕ) (p : ℤ) → difference_fine z ≡ true → dc_fine fa ≡ true → dc_fine fc ≡ true → nat_abs p ≤ 65536 → p ≡ dc_prediction d fa fc s
    → ◌≡◌ {A = Result ℤ CoefficientError} (Ok (to_z w32 (of_z w32 (to_z w32 (of_z w32 z) +ℤ to_z w32 (of_z w32 p))))) (dc_answer z d fa fc s)
told z d fa fc s p h k l b e = ap Ok (back {w = w32} (loc z 4095 (difference-abs z h) ⊞ loc p 65536 b) tt ∙ ap (λ (x : ℤ). z +ℤ x) e) ∙ sym (dc-given z d fa fc s h k l)

pub returns-clause-value : goal.returns-clause-value
returns-clause-value c =
    let a = c.args in
    let h : difference_fine a.pqfx_dc ≡ true = search (rules, tests) in
    let k : dc_fine a.fa_dc ≡ true = search (rules, tests) in
    let l : dc_fine a.fc_dc ≡ true = search (rules, tests) in
    let p : c.dc_prediction.result ≡ dc_prediction a.direction a.fa_dc a.fc_dc a.dc_scaler_x = search rules in
    told a.pqfx_dc a.direction a.fa_dc a.fc_dc a.dc_scaler_x c.dc_prediction.result h k l c.dc_prediction.ensures.1 p

pub returns-clause-outcome : goal.returns-clause-outcome
returns-clause-outcome c =
    let a = c.args in
    ap value_outcome (returns-clause-value c) ∙ dc_due_lem a.pqfx_dc a.direction a.fa_dc a.fc_dc a.dc_scaler_x
