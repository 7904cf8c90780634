-- A picture, its opening, and the context of a macroblock in it. Definitions only.
use Rattle.std.specs.Prelude.{Bool, cond, ◌&&◌, ℕ, ◌+◌, leb, Err, Ok, Result}
use Rattle.ranges.specs.Range.{depth_fine}
use Rattle.assembly.specs.declared.context.MacroblockTextureContext.{MacroblockTextureContext}
use Rattle.assembly.specs.declared.error.BlockAssemblyError.TheVariants.{Context, OutOfRange}
use Rattle.picture_state.specs.declared.picture.MacroblockContext.{MacroblockContext}
use Rattle.picture_state.specs.declared.picture.Picture.{Picture}
use Rattle.assembly.specs.declared.error.BlockAssemblyError.{BlockAssemblyError}

-- 1 to 45 by 1 to 36 macroblocks
abbrev pub size_fine : ℕ → ℕ → Bool
size_fine w h = leb 1 w && (leb w 45 && (leb 1 h && leb h 36))

-- a picture of which n macroblocks were accepted
abbrev pub picture_of : ℕ → ℕ → ℕ → Bool → ℕ → Picture
picture_of w h depth method n = record { width = w; height = h; bits_per_pixel = depth; quant_type = method; accepted = n }

-- opening: 11, then 12
abbrev pub open_of : ℕ → ℕ → ℕ → Bool → Result Picture BlockAssemblyError
open_of w h depth method = cond (size_fine w h) (cond (depth_fine depth) (Ok (picture_of w h depth method 0)) (Err Context)) (Err OutOfRange)

-- one more accepted
abbrev pub onward : Picture → Picture
onward p = picture_of p.width p.height p.bits_per_pixel p.quant_type (p.accepted + 1)

-- depth and method are the picture's, the other fields the call's
abbrev pub context_of : Picture → MacroblockContext → MacroblockTextureContext
context_of p m =
    record {
      quantiser_scale = m.quantiser_scale;
      bits_per_pixel = p.bits_per_pixel;
      quant_type = p.quant_type;
      ac_pred_flag = m.ac_pred_flag;
      alternate_vertical_scan = m.alternate_vertical_scan;
      intra_mismatch_exempt = m.intra_mismatch_exempt;
      idct_rounding = m.idct_rounding;
    }
