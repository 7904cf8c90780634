-- What the answers of the stages say in document 01's numbers, and what is due of prediction. Definitions only.
use Rattle.std.specs.Prelude.{Bool, ◌&&◌, List, [], ◌∷◌, ℕ, ℤ, ◌+ℤ◌, Err, Ok, Result, ⊤}
use Rattle.numbers.specs.Every.{every}
use Rattle.numbers.specs.Outcome.{Outcome, accepted, checked, done, refused}
use Rattle.ranges.specs.Range.{dc_fine, depth_fine, difference_fine, level_fine, quantiser_fine}
use Rattle.codes.specs.declared.dc_size.DcComponent.{DcComponent}
use Rattle.prediction.specs.Prediction.{dc_prediction, dc_scaler, default_dc, direction_of}
use Rattle.prediction.specs.Refusal.{number_of, values_fine}
use Rattle.scan.specs.declared.DcPredictionDirection.{DcPredictionDirection}
use Rattle.prediction.specs.declared.refusal.CoefficientError.{CoefficientError}

-- ---- the answers

abbrev pub stage_outcome : Result ⊤ CoefficientError → Outcome (Unit {0})
stage_outcome (Ok tt) = done
stage_outcome (Err e) = refused (number_of e) 0

abbrev pub value_outcome : Result ℤ CoefficientError → Outcome ℤ
value_outcome (Ok z) = accepted z
value_outcome (Err e) = refused (number_of e) 0

abbrev pub scaler_outcome : Result ℕ CoefficientError → Outcome ℕ
scaler_outcome (Ok n) = accepted n
scaler_outcome (Err e) = refused (number_of e) 0

abbrev pub direction_outcome : Result DcPredictionDirection CoefficientError → Outcome DcPredictionDirection
direction_outcome (Ok d) = accepted d
direction_outcome (Err e) = refused (number_of e) 0

-- ---- what is due

abbrev pub scaler_due : DcComponent → ℕ → Outcome ℕ
scaler_due c q = checked ((quantiser_fine q, 12) ∷ []) (accepted (dc_scaler c q))

abbrev pub default_due : ℕ → Outcome ℤ
default_due depth = checked ((depth_fine depth, 12) ∷ []) (accepted (default_dc depth))

abbrev pub direction_due : ℤ → ℤ → ℤ → Outcome DcPredictionDirection
direction_due fa fb fc = checked ((dc_fine fa && (dc_fine fb && dc_fine fc), 13) ∷ []) (accepted (direction_of fa fb fc))

abbrev pub dc_due : ℤ → DcPredictionDirection → ℤ → ℤ → ℕ → Outcome ℤ
dc_due z d fa fc scaler = checked ((difference_fine z && (dc_fine fa && dc_fine fc), 13) ∷ []) (accepted (z +ℤ dc_prediction d fa fc scaler))

abbrev pub ac_due : List ℤ → Bool → List ℤ → ℕ → ℕ → Outcome (Unit {0})
ac_due pqf has qf qp q = checked ((quantiser_fine q, 12) ∷ (every level_fine pqf && (quantiser_fine qp && values_fine has qf), 13) ∷ []) done

abbrev pub seven_due : List ℤ → ℕ → ℕ → Outcome (Unit {0})
seven_due values qp q = checked ((quantiser_fine q, 12) ∷ (quantiser_fine qp && every level_fine values, 13) ∷ []) done
