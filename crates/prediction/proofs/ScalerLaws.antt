-- The scalers of Table 7-1: how large they are, and that a quantiser's is never refused. Assumes nothing.
use mathlib.Core.Bool.{Bool, cond, false, true}
use mathlib.Core.Path.{◌≡◌, ap}
use Prim.Native.Nat.{ℕ, ◌+◌, ◌*◌, ◌-◌, ◌/◌, ◌≤◌}
use native.Mathlib.Omega.{arith}
use lib.Dec.{leb}
use Rattle.codes.specs.declared.dc_size.DcComponent.{DcComponent}
use Rattle.codes.specs.declared.dc_size.DcComponent.TheVariants.{Chrominance, Luminance}
use Rattle.ranges.proofs.RangeLaws.{range_quantiser}
use Rattle.prediction.specs.Prediction.{dc_scaler}
use Rattle.prediction.specs.Stages.{scaler_answer}
use Rattle.prediction.specs.declared.refusal.CoefficientError.TheVariants.{Context}
use Rattle.std.specs.Prelude.{Err, Ok}

-- of a quantiser up to 511
pub scaler_small : (c : DcComponent) (q : ℕ) → q ≤ 511 → dc_scaler c q ≤ 1022
scaler_small Luminance q h = go (leb q 4) (leb q 8) (leb q 24)
  where
    go : (x y z : Bool) → cond x 8 (cond y (2 * q) (cond z (q + 8) (2 * q - 16))) ≤ 1022
    go true y z = omega arith
    go false true z = omega (arith, h)
    go false false true = omega (arith, h)
    go false false false = omega (arith, h)
scaler_small Chrominance q h = go (leb q 4) (leb q 24)
  where
    go : (x y : Bool) → cond x 8 (cond y ((q + 13) / 2) (q - 6)) ≤ 1022
    go true y = omega arith
    go false true = omega (arith, h)
    go false false = omega (arith, h)

pub scaler_given : (c : DcComponent) (q : ℕ) → 1 ≤ q → q ≤ 31 → scaler_answer c q ≡ Ok (dc_scaler c q)
scaler_given c q l h = ap (λ (t : Bool). cond t (Ok (dc_scaler c q)) (Err Context)) (range_quantiser q l h)
