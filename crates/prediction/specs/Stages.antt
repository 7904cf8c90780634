-- What each public function of prediction answers by itself, refusals included. Definitions only.
use Rattle.std.specs.Prelude.{Bool, true, cond, ◌&&◌, List, ℕ, get_or, ℤ, pos, ◌+ℤ◌, Err, Ok, Result, ⊤}
use Rattle.numbers.specs.Grid.{build}
use Rattle.codes.specs.declared.dc_size.DcComponent.{DcComponent}
use Rattle.prediction.specs.declared.refusal.CoefficientError.TheVariants.{Context, HandedIn}
use Rattle.scan.specs.declared.DcPredictionDirection.{DcPredictionDirection}
use Rattle.ranges.specs.Range.{quantiser_fine, depth_fine, level_fine, difference_fine, dc_fine}
use Rattle.prediction.specs.Refusal.{first_bad, values_fine}
use Rattle.numbers.specs.Every.{every}
use Rattle.prediction.specs.Prediction.{dc_scaler, direction_of, default_dc, dc_prediction, ac_prediction}
use Rattle.prediction.specs.declared.refusal.CoefficientError.{CoefficientError}

-- 12 unless the context is fine, then 13 unless the values are, else the value
abbrev pub value_unless : Bool → Bool → ℤ → Result ℤ CoefficientError
value_unless context values z = cond context (cond values (Ok z) (Err HandedIn)) (Err Context)

abbrev pub scaler_answer : DcComponent → ℕ → Result ℕ CoefficientError
scaler_answer c q = cond (quantiser_fine q) (Ok (dc_scaler c q)) (Err Context)

abbrev pub direction_answer : ℤ → ℤ → ℤ → Result DcPredictionDirection CoefficientError
direction_answer fa fb fc = cond (dc_fine fa && (dc_fine fb && dc_fine fc)) (Ok (direction_of fa fb fc)) (Err HandedIn)

abbrev pub default_answer : ℕ → Result ℤ CoefficientError
default_answer depth = value_unless (depth_fine depth) true (default_dc depth)

-- the DC level before limiting: the difference and the prediction
abbrev pub dc_answer : ℤ → DcPredictionDirection → ℤ → ℤ → ℕ → Result ℤ CoefficientError
dc_answer z d fa fc scaler =
    value_unless true (difference_fine z && (dc_fine fa && dc_fine fc)) (z +ℤ dc_prediction d fa fc scaler)

-- seven AC levels before limiting: a missing neighbour's values are 0
abbrev pub ac_added : List ℤ → Bool → List ℤ → ℕ → ℕ → List ℤ
ac_added pqf has qf qp q = build 7 (λ (k : ℕ). get_or pqf k (pos 0) +ℤ cond has (ac_prediction (get_or qf k (pos 0)) qp q) (pos 0))

abbrev pub ac_answer : List ℤ → Bool → List ℤ → ℕ → ℕ → Result ⊤ CoefficientError
ac_answer pqf has qf qp q = first_bad (quantiser_fine q) (every level_fine pqf && (quantiser_fine qp && values_fine has qf))

-- the predictions of seven AC levels, of a neighbour's values
abbrev pub seven_predicted : List ℤ → ℕ → ℕ → List ℤ
seven_predicted values qp q = build 7 (λ (k : ℕ). ac_prediction (get_or values k (pos 0)) qp q)

abbrev pub seven_answer : List ℤ → ℕ → ℕ → Result ⊤ CoefficientError
seven_answer values qp q = first_bad (quantiser_fine q) (quantiser_fine qp && every level_fine values)
