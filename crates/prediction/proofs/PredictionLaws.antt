-- How large a prediction can be: rounding makes no number larger; and what needs no rounding. Assumes nothing.
use mathlib.Core.List.{List}
use mathlib.Core.Path.{◌≡◌}
use Prim.Native.Nat.{ℕ, zero, suc, ◌≤◌, ◌<◌}
use native.Mathlib.Nat.{le_refl}
use native.Mathlib.Omega.{arith}
use lib.IntN.{ℤ, pos, negsuc, nat_abs, ◌-ℤ◌, ◌*ℤ◌}
use lib.ListN.{get_or}
use Rattle.numbers.specs.Rounding.{div_away}
use Rattle.numbers.proofs.Fill.{get_or-build}
use Rattle.numbers.proofs.Integers.{diff_is, halves}
use Rattle.numbers.proofs.Magnitudes.{abs_neg, abs-mul-le}
use Rattle.numbers.proofs.Rounding.{by_zero, half_up, half-up-le, nearest, only}
use Rattle.scan.specs.declared.DcPredictionDirection.{DcPredictionDirection}
use Rattle.scan.specs.declared.DcPredictionDirection.TheVariants.{FromLeft, FromAbove}
use Rattle.prediction.specs.Prediction.{dc_prediction, ac_prediction}
use Rattle.prediction.specs.Stages.{seven_predicted}

pub away-abs : (n : ℤ) (d : ℕ) → nat_abs (div_away n d) ≤ nat_abs n
away-abs n zero = rw (by_zero n) (omega arith)
away-abs (pos a) (suc d) = rw (← half_up a (suc d) (omega arith)) (half-up-le a (suc d) (omega arith))
away-abs (negsuc a) (suc d) = rw (abs_neg, ← half_up (suc a) (suc d) (omega arith)) (half-up-le (suc a) (suc d) (omega arith))

pub dc_prediction_abs : (d : DcPredictionDirection) (fa fc : ℤ) (s B : ℕ) → nat_abs fa ≤ B → nat_abs fc ≤ B → nat_abs (dc_prediction d fa fc s) ≤ B
dc_prediction_abs FromLeft fa fc s B h k = omega (arith, away-abs fa s)
dc_prediction_abs FromAbove fa fc s B h k = omega (arith, away-abs fc s)

pub ac_prediction_abs : (qf : ℤ) (qp q : ℕ) → nat_abs qf ≤ 2048 → qp ≤ 511 → nat_abs (ac_prediction qf qp q) ≤ 1046528
ac_prediction_abs qf qp q h k = omega (arith, away-abs (qf *ℤ pos qp) q, abs-mul-le qf (pos qp) 2048 511 h k)

-- and so of seven that are so predicted
pub seven-abs : (values : List ℤ) (qp q : ℕ) → ((k : ℕ) → k < 7 → nat_abs (get_or values k (pos 0)) ≤ 2048) → qp ≤ 511 → (more : List ℤ)
    → more ≡ seven_predicted values qp q → (k : ℕ) → k < 7 → nat_abs (get_or more k (pos 0)) ≤ 1046528
seven-abs values qp q g h more e k l =
    rw (e, get_or-build 7 (λ (k : ℕ). ac_prediction (get_or values k (pos 0)) qp q) k (pos 0) l) (ac_prediction_abs (get_or values k (pos 0)) qp q (g k l) h)

-- under one quantiser an AC level predicts itself
pub same-quantiser : (z : ℤ) (q : ℕ) → 0 < q → ac_prediction z q q ≡ z
same-quantiser z q h =
    let n = z *ℤ pos q in
    let d = n -ℤ n in
    only n (div_away n q) z q h (nearest n q h)
    (record { near = omega (arith, halves d, diff_is n n); away = λ e. le_refl (nat_abs n) })
