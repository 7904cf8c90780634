-- The levels QF of an intra block (7.4.3.2 to 7.4.3.4): what the bits gave, in the scan's order, with the prediction added and limited. Definitions only.
use Rattle.std.specs.Prelude.{Bool, true, cond, ◌&&◌, List, [], ◌∷◌, ℕ, ◌≤◌, get_or, drop, ℤ, pos, negsuc, nat_abs, ◌+ℤ◌, Result, ⊤}
use Rattle.numbers.specs.Grid.{block, cell}
use Rattle.numbers.specs.Limit.{clamp_z}
use Rattle.numbers.specs.Outcome.{Outcome, checked, done}
use Rattle.codes.specs.declared.dc_size.DcComponent.{DcComponent}
use Rattle.prediction.specs.declared.predictor.BlockPredictors.{BlockPredictors}
use Rattle.scan.specs.declared.ScanType.{ScanType}
use Rattle.scan.specs.declared.ScanType.TheVariants.{AlternateVertical}
use Rattle.ranges.specs.Range.{quantiser_fine, level_fine, difference_fine, dc_fine}
use Rattle.prediction.specs.Refusal.{first_bad, values_fine}
use Rattle.numbers.specs.Every.{every}
use Rattle.scan.specs.declared.DcPredictionDirection.{DcPredictionDirection}
use Rattle.scan.specs.Scan.{scan_of, scanned}
use Rattle.prediction.specs.Prediction.{predicted, direction_by}
use Rattle.prediction.specs.declared.refusal.CoefficientError.{CoefficientError}

-- 7.4.3.4: limited to -2048 .. 2047
abbrev pub saturated : ℤ → ℤ
saturated z = clamp_z z (negsuc 2047) (pos 2047)

abbrev pub saturated_block : List (List ℤ) → List (List ℤ)
saturated_block b = block (λ (v u : ℕ). saturated (cell b v u))

-- the scan of an intra block: alternate_vertical_scan_flag overrides 7.4.2's choice (6.3.5)
abbrev pub intra_scan : Bool → Bool → DcPredictionDirection → ScanType
intra_scan alternate ac_pred d = cond alternate AlternateVertical (scan_of true ac_pred d)

-- each level: what the bits gave, with its prediction, limited
abbrev pub limited_sum : List (List ℤ) → List (List ℤ) → List (List ℤ)
limited_sum pqf prediction = block (λ (v u : ℕ). saturated (cell pqf v u +ℤ cell prediction v u))

-- QF
unfoldable pub levels : DcComponent → ℕ → Bool → Bool → BlockPredictors → List ℤ → List (List ℤ)
levels c q ac_pred alternate p qfs =
    limited_sum (scanned qfs (intra_scan alternate ac_pred (direction_by p))) (block (predicted c q ac_pred p))

-- ---- what is refused

-- predictors: DCs, quantisers, and the AC values of a neighbour that is there
abbrev pub predictors_fine : BlockPredictors → Bool
predictors_fine p =
    dc_fine p.fa_dc && (dc_fine p.fb_dc && (dc_fine p.fc_dc && (quantiser_fine p.qp_a && (quantiser_fine p.qp_c
    && (values_fine p.a_has_column p.a_first_column && values_fine p.c_has_row p.c_first_row)))))

-- the place of the DC holds a difference, the others levels
abbrev pub places_fine : List ℤ → Bool
places_fine qfs = difference_fine (get_or qfs 0 (pos 0)) && every level_fine (drop 1 qfs)

abbrev pub levels_answer : ℕ → BlockPredictors → List ℤ → Result ⊤ CoefficientError
levels_answer q p qfs = first_bad (quantiser_fine q) (predictors_fine p && places_fine qfs)

abbrev pub levels_due : ℕ → BlockPredictors → List ℤ → Outcome (Unit {0})
levels_due q p qfs = checked ((quantiser_fine q, 12) ∷ (predictors_fine p && places_fine qfs, 13) ∷ []) done

-- every value of a block is a level
abbrev pub block_fine : List (List ℤ) → Bool
block_fine qf = every (every level_fine) qf

-- levels, as magnitudes
abbrev pub LevelsGood : List (List ℤ) → Type 0
LevelsGood qf = (v u : ℕ) → nat_abs (cell qf v u) ≤ 2048
