-- Inside the crate: levels with the predictions of their first column or row, step by step. Definitions only.
use Rattle.std.specs.Prelude.{Bool, true, cond, List, ◌≡◌, ℕ, zero, suc, ltb, ℤ, pos, get_or}
use Rattle.numbers.specs.Grid.{block, cell}
use Rattle.ranges.specs.Range.{level_fine}
use Rattle.coefficients.specs.Level.{limited_sum}
use Rattle.prediction.specs.Prediction.{column_prediction, row_prediction}
use Rattle.prediction.specs.declared.predictor.BlockPredictors.{BlockPredictors}
use Rattle.scan.specs.declared.DcPredictionDirection.{DcPredictionDirection}

-- eight rows of eight levels
pub record Levelled (b : List (List ℤ)) : Type 0 where
  pub square : b ≡ block (cell b)
  pub fine : (v u : ℕ) → level_fine (cell b v u) ≡ true

-- no prediction but of the rest of the first column and of the first row
unfoldable pub beside : (ℕ → ℤ) → (ℕ → ℤ) → ℕ → ℕ → ℤ
beside column row zero zero = pos 0
beside column row (suc v) zero = column v
beside column row zero (suc u) = row u
beside column row (suc v) (suc u) = pos 0

-- the first n of seven values, the others 0
abbrev pub seven : ℕ → List ℤ → ℕ → ℤ
seven n more k = cond (ltb k n) (get_or more k (pos 0)) (pos 0)

-- no values
abbrev pub none : ℕ → ℤ
none k = pos 0

-- with n values of the first column predicted, or of the first row
abbrev pub column_added : ℕ → List ℤ → List (List ℤ) → List (List ℤ)
column_added n more b = limited_sum b (block (beside (seven n more) none))

abbrev pub row_added : ℕ → List ℤ → List (List ℤ) → List (List ℤ)
row_added n more b = limited_sum b (block (beside none (seven n more)))

-- with all AC predictions
abbrev pub ac_predicted : Bool → DcPredictionDirection → BlockPredictors → ℕ → List (List ℤ) → List (List ℤ)
ac_predicted ac_pred d p q b =
    limited_sum b (block (beside (λ (v : ℕ). cond ac_pred (column_prediction p q d v) (pos 0)) (λ (u : ℕ). cond ac_pred (row_prediction p q d u) (pos 0))))
