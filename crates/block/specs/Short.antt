-- Inside the crate: what is handed over of predictors, and a block with a DC alone, as its level, its value and its values. Definitions only.
use Rattle.std.specs.Prelude.{Bool, cond, false, not, ◌&&◌, List, ℕ, ℤ, pos, ◌+ℤ◌, replicate}
use Rattle.codes.specs.declared.dc_size.DcComponent.{DcComponent}
use Rattle.coefficients.specs.Level.{predictors_fine, saturated}
use Rattle.coefficients.specs.Needed.{needed_of, seven_in, some_value}
use Rattle.prediction.specs.Prediction.{dc_prediction, dc_scaler, direction_by}
use Rattle.prediction.specs.declared.predictor.BlockPredictors.{BlockPredictors}
use Rattle.idct.specs.Clipped.{dc_and_last, dc_block}
use Rattle.mismatch.specs.Mismatch.{even}
use Rattle.dequantise.specs.Methods.{intra_dc}
use Rattle.dequantise.specs.Methods.{limited_f}
use Rattle.assembly.specs.declared.context.MacroblockTextureContext.{MacroblockTextureContext}

-- what the levels need of fine predictors; of others zeros, which 13 refuses too
abbrev pub handed_of : MacroblockTextureContext → BlockPredictors → List ℤ
handed_of x p = cond (predictors_fine p) (needed_of x.quantiser_scale x.ac_pred_flag p) (replicate 11 (pos 0))

-- AC values of a neighbour are added: AC prediction is set, and of the values that are needed some is not 0
abbrev pub adds : Bool → List ℤ → Bool
adds ac_pred ns = ac_pred && some_value (seven_in ns)

-- the level of a difference (7.4.3.2, 7.4.3.4) and its dequantised value (7.4.4.1.1, 7.4.4.4)
abbrev pub dc_level : DcComponent → ℕ → BlockPredictors → ℤ → ℤ
dc_level c q p z = saturated (z +ℤ dc_prediction (direction_by p) p.fa_dc p.fc_dc (dc_scaler c q))

abbrev pub dc_value : DcComponent → MacroblockTextureContext → ℤ → ℤ
dc_value c x level = limited_f x.bits_per_pixel (intra_dc level c x.quantiser_scale false)

-- its values: mismatch control puts 1 at (7, 7) beside an even DC (7.4.4.5)
abbrev pub dc_values : MacroblockTextureContext → ℤ → List (List ℤ)
dc_values x dc = cond (x.quant_type && (not x.intra_mismatch_exempt && even dc)) (dc_and_last dc) (dc_block dc)
