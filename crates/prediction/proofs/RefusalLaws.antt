-- What passes the tests of 12 and 13 is not refused, and seven values that pass are small. Assumes nothing.
use mathlib.Core.Bool.{Bool, true, false}
use mathlib.Core.List.{List}
use mathlib.Core.Path.{◌≡◌, refl}
use Prim.Native.Nat.{ℕ, ◌≤◌}
use lib.Dec.{T}
use lib.IntN.{ℤ, pos, nat_abs, ◌+ℤ◌}
use lib.ListN.{get_or}
use Rattle.numbers.specs.Every.{every}
use Rattle.numbers.proofs.Every.{every_get}
use Rattle.ranges.specs.Range.{dc_fine, difference_fine, level_fine, quantiser_fine}
use Rattle.ranges.proofs.RangeLaws.{level-abs}
use Rattle.scan.specs.declared.DcPredictionDirection.{DcPredictionDirection}
use Rattle.prediction.specs.Prediction.{dc_prediction, direction_of}
use Rattle.prediction.specs.Refusal.{after, values_fine}
use Rattle.prediction.specs.Stages.{dc_answer, direction_answer, seven_answer, seven_predicted}
use Rattle.std.specs.Prelude.{Ok}

-- ---- values

pub levels-good : (xs : List ℤ) → every level_fine xs ≡ true → (k : ℕ) → nat_abs (get_or xs k (pos 0)) ≤ 2048
levels-good xs e k = level-abs (get_or xs k (pos 0)) (every_get level_fine (pos 0) refl xs e k)

-- a neighbour's, where it is there
pub values-good : (has : Bool) (xs : List ℤ) → values_fine has xs ≡ true → T has → (k : ℕ) → nat_abs (get_or xs k (pos 0)) ≤ 2048
values-good true xs e t k = levels-good xs e k
values-good false xs e t k = absurd t

-- ---- the answers

pub direction_given : (fa fb fc : ℤ) → dc_fine fa ≡ true → dc_fine fb ≡ true → dc_fine fc ≡ true → direction_answer fa fb fc ≡ Ok (direction_of fa fb fc)
direction_given fa fb fc a b c = rw (a, b, c)

pub dc-given : (z : ℤ) (d : DcPredictionDirection) (fa fc : ℤ) (scaler : ℕ) → difference_fine z ≡ true → dc_fine fa ≡ true → dc_fine fc ≡ true
    → dc_answer z d fa fc scaler ≡ Ok (z +ℤ dc_prediction d fa fc scaler)
dc-given z d fa fc scaler e a c = rw (e, a, c)

-- and so seven predictions are left in lent memory
pub seven-given : (values : List ℤ) (qp q : ℕ) (old : List ℤ) → quantiser_fine q ≡ true → quantiser_fine qp ≡ true → every level_fine values ≡ true
    → after (seven_answer values qp q) (seven_predicted values qp q) old ≡ seven_predicted values qp q
seven-given values qp q old e a v = rw (e, a, v)
