-- The levels of an intra block are levels: each lies in -2048 .. 2047, and the limit leaves a level as it is; and what is due of them. Assumes nothing.
use mathlib.Core.Bool.{Bool, true, ◌&&◌}
use mathlib.Core.List.{List}
use mathlib.Core.Path.{◌≡◌}
use Prim.Native.Nat.{ℕ}
use native.Mathlib.Omega.{arith}
use lib.IntN.{ℤ, pos, negsuc, ◌+ℤ◌}
use lib.Signed.{le_z}
use Rattle.numbers.specs.Grid.{block, cell}
use Rattle.numbers.proofs.Integers.{le_in, le-true}
use Rattle.numbers.proofs.Limits.{clamp_high, clamp_inside, clamp_low}
use Rattle.numbers.proofs.Tests.{both_true}
use Rattle.codes.specs.declared.dc_size.DcComponent.{DcComponent}
use Rattle.ranges.specs.Range.{level_fine, quantiser_fine}
use Rattle.prediction.specs.declared.predictor.BlockPredictors.{BlockPredictors}
use Rattle.scan.specs.Scan.{scanned}
use Rattle.prediction.specs.Prediction.{direction_by, predicted}
use Rattle.coefficients.specs.Level.{block_fine, intra_scan, levels, levels_answer, levels_due, places_fine, predictors_fine, saturated}
use Rattle.prediction.specs.Outcomes.{stage_outcome}
use Rattle.prediction.proofs.OutcomeLaws.{stage_due}
use Rattle.ranges.proofs.RangeLaws.{within_of}
use Rattle.coefficients.proofs.BlockTests.{test_block}

pub saturated-fine : (z : ℤ) → level_fine (saturated z) ≡ true
saturated-fine z =
    within_of (negsuc 2047) (pos 2047) (saturated z) (clamp_low z (negsuc 2047) (pos 2047) (le_in (omega arith)))
    (clamp_high z (negsuc 2047) (pos 2047) (le_in (omega arith)))

pub level-kept : (z : ℤ) → level_fine z ≡ true → saturated z ≡ z
level-kept z e =
    let w = both_true (le_z (negsuc 2047) z) (le_z z (pos 2047)) e in
    clamp_inside z (negsuc 2047) (pos 2047) (le-true (negsuc 2047) z w.0) (le-true z (pos 2047) w.1)

module _ (c : DcComponent) (q : ℕ) (ac_pred alternate : Bool) (p : BlockPredictors) (qfs : List ℤ) where
  pub levels-fine : block_fine (levels c q ac_pred alternate p qfs) ≡ true
  unfolding levels
  levels-fine =
      let pqf = scanned qfs (intra_scan alternate ac_pred (direction_by p)) in
      let prediction = block (predicted c q ac_pred p) in
      test_block level_fine (λ (v u : ℕ). saturated (cell pqf v u +ℤ cell prediction v u)) (λ v u m n. saturated-fine (cell pqf v u +ℤ cell prediction v u))

-- the answer by number is what is due
pub levels_due_lem : (q : ℕ) (p : BlockPredictors) (qfs : List ℤ) → stage_outcome (levels_answer q p qfs) ≡ levels_due q p qfs
levels_due_lem q p qfs = stage_due (quantiser_fine q) (predictors_fine p && places_fine qfs)
