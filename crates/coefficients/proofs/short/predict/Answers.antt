-- `coefficients::short::predict` meets its contract: the seven predictions of the side that the direction names, which are not refused. Assumes nothing.
use mathlib.Core.Bool.{Bool}
use mathlib.Core.List.{List}
use mathlib.Core.Path.{◌≡◌, ap, refl, sym, ◌∙◌}
use Prim.Native.Nat.{ℕ, ◌≤◌, ◌<◌}
use native.Mathlib.Omega.{arith}
use lib.IntN.{ℤ, nat_abs, pos}
use lib.ListN.{get_or}
use borrow.Author.Rules.{rules}
use Rattle.numbers.specs.Every.{every}
use Rattle.numbers.proofs.Words.{held}
use Rattle.ranges.specs.Range.{level_fine, quantiser_fine}
use Rattle.ranges.proofs.RangeLaws.{quantiser_range}
use Rattle.prediction.specs.Stages.{seven_predicted}
use Rattle.prediction.proofs.PredictionLaws.{seven-abs}
use Rattle.prediction.proofs.RefusalLaws.{levels-good, seven-given}
use Rattle.coefficients.specs.Needed.{numbered, seven_in}
use Rattle.coefficients.specs.Short.{ac_predicted, column_added, row_added}
use Rattle.coefficients.proofs.RefusalLaws.{numbers_passing}
use Rattle.coefficients.proofs.SideLaws.{above_added, left_added, off_added}
use Rattle.coefficients.proofs.short.predict.Goals as goal
use Rattle.coefficients.proofs.short.predict.Goals.{After-predict_seven}

pub returns-then-not-ac_pred_flag : goal.returns-then-not-ac_pred_flag
returns-then-not-ac_pred_flag c =
    let a = c.args in
    off_added a.qf.now c.requires.2 (numbered a.n.now) a.q a.direction
    ∙ ap (λ (t : Bool). ac_predicted t a.direction (numbered a.n.now) a.q a.qf.now) (sym c.if-not-ac_pred_flag.true)

-- the quantiser of the values
quantiser-is : (c : After-predict_seven) → c.unsigned_abs.result ≡ nat_abs (get_or c.args.n.now 3 (pos 0))
quantiser-is c = c.unsigned_abs.ensures.value ∙ ap nat_abs (held (get_or c.args.n.now 3 (pos 0)) (search rules))

-- the seven predictions
predictions_are : (c : After-predict_seven) → let n = c.args.n.now in c.predict_seven.new.more ≡ seven_predicted (seven_in n) (nat_abs (get_or n 3 (pos 0))) c.args.q
predictions_are c =
    let p = numbers_passing c.args.n.now c.requires.1 in
    c.predict_seven.ensures.value.1
    ∙ seven-given c.seven_in.result c.unsigned_abs.result c.args.q _ c.requires.0 (ap quantiser_fine (quantiser-is c) ∙ p.quantiser) (ap (every level_fine) c.seven_in.ensures ∙ p.values)
    ∙ (λ i. seven_predicted (c.seven_in.ensures i) (quantiser-is c i) c.args.q)

predictions_small : (c : After-predict_seven) (k : ℕ) → k < 7 → nat_abs (get_or c.predict_seven.new.more k (pos 0)) ≤ 1046528
predictions_small c =
    let n = c.args.n.now in
    let p = numbers_passing n c.requires.1 in
    let r = quantiser_range (nat_abs (get_or n 3 (pos 0))) p.quantiser in
    seven-abs (seven_in n) (nat_abs (get_or n 3 (pos 0))) c.args.q (λ k h. levels-good (seven_in n) p.values k) (omega arith) c.predict_seven.new.more (predictions_are c)

pub add_column-requires : goal.add_column-requires
add_column-requires c = (c.requires.2, predictions_small (goal.at.add_column-requires c).After-predict_seven)

pub add_row-requires : goal.add_row-requires
add_row-requires c = (c.requires.2, predictions_small (goal.at.add_row-requires c).After-predict_seven)

pub returns-in-FromLeft : goal.returns-in-FromLeft
returns-in-FromLeft c =
    let a = c.args in
    let p = numbered a.n.now in
    c.add_column.ensures
    ∙ ap (λ (more : List ℤ). column_added 7 more a.qf.now) (predictions_are (goal.at.returns-in-FromLeft c).After-predict_seven)
    ∙ left_added a.qf.now c.requires.2 p a.q refl
    ∙ (λ i. ac_predicted (sym c.if-not-ac_pred_flag.false i) (sym c.in-FromLeft.is i) p a.q a.qf.now)

pub returns-in-FromAbove : goal.returns-in-FromAbove
returns-in-FromAbove c =
    let a = c.args in
    let p = numbered a.n.now in
    c.add_row.ensures
    ∙ ap (λ (more : List ℤ). row_added 7 more a.qf.now) (predictions_are (goal.at.returns-in-FromAbove c).After-predict_seven)
    ∙ above_added a.qf.now c.requires.2 p a.q refl
    ∙ (λ i. ac_predicted (sym c.if-not-ac_pred_flag.false i) (sym c.in-FromAbove.is i) p a.q a.qf.now)
