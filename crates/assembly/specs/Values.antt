-- From the 64 places of a block to its levels, dequantised values and samples (7.4.2 to 7.4.5). Definitions only.
use Rattle.std.specs.Prelude.{Bool, cond, false, not, true, ◌&&◌, List, ℕ, ℤ, pos}
use Rattle.numbers.specs.Every.{every}
use Rattle.numbers.specs.Grid.{block}
use Rattle.numbers.specs.Limit.{clamp_z}
use Rattle.ranges.specs.Range.{depth_fine, highest, quantiser_fine}
use Rattle.codes.specs.declared.dc_size.DcComponent.{DcComponent}
use Rattle.dequantise.specs.declared.context.InverseQuantContext.{InverseQuantContext}
use Rattle.prediction.specs.declared.predictor.BlockPredictors.{BlockPredictors}
use Rattle.inverse_quant.specs.Dequantised.{dequantised1, dequantised2}
use Rattle.dequantise.specs.Methods.{non_zero}
use Rattle.coefficients.specs.Level.{levels}
use Rattle.exact_transform.specs.Transform.{whole}
use Rattle.assembly.specs.declared.context.MacroblockTextureContext.{MacroblockTextureContext}

-- the levels QF of the places
abbrev pub levels_of : DcComponent → MacroblockTextureContext → BlockPredictors → List ℤ → List (List ℤ)
levels_of c x p qfs = levels c x.quantiser_scale x.ac_pred_flag x.alternate_vertical_scan p qfs

-- an intra block under inverse quantisation
abbrev pub quant_of : DcComponent → MacroblockTextureContext → InverseQuantContext
quant_of c x =
    record {
      macroblock_intra = true;
      component = c;
      quantiser_scale = x.quantiser_scale;
      bits_per_pixel = x.bits_per_pixel;
      short_video_header = false;
    }

-- the dequantised values of the levels: method 1 where quant_type is set, with mismatch control unless exempt, else method 2
abbrev pub values_of : DcComponent → MacroblockTextureContext → List (List ℕ) → List (List ℤ) → List (List ℤ)
values_of c x w qf = cond x.quant_type (dequantised1 (not x.intra_mismatch_exempt) (quant_of c x) w qf) (dequantised2 (quant_of c x) qf)

-- the samples of the values: whole numbers limited to 0 .. 2 ^ depth - 1
abbrev pub samples_of : MacroblockTextureContext → List (List ℤ) → List (List ℤ)
samples_of x f = block (λ (y u : ℕ). clamp_z (whole x.idct_rounding f y u) (pos 0) (highest x.bits_per_pixel))

-- what 12 asks of the context: a quantiser and a depth in range, and under method 1 no zero in the matrix
abbrev pub context_fine : MacroblockTextureContext → List (List ℕ) → Bool
context_fine x w = quantiser_fine x.quantiser_scale && (depth_fine x.bits_per_pixel && cond x.quant_type (every (every non_zero) w) true)
