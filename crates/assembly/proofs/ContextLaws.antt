-- What a context that is fine says of its quantiser, its depth and its matrix. Assumes nothing.
use mathlib.Core.Bool.{cond, true}
use mathlib.Core.List.{List}
use mathlib.Core.Path.{◌≡◌}
use Prim.Native.Nat.{ℕ}
use Rattle.numbers.proofs.Tests.{both_true}
use Rattle.numbers.specs.Every.{every}
use Rattle.ranges.specs.Range.{depth_fine, quantiser_fine}
use Rattle.dequantise.specs.Methods.{non_zero}
use Rattle.assembly.specs.Values.{context_fine}
use Rattle.assembly.specs.declared.context.MacroblockTextureContext.{MacroblockTextureContext}

module _ (x : MacroblockTextureContext) (w : List (List ℕ)) (h : context_fine x w ≡ true) where
  pub quantiser-fine : quantiser_fine x.quantiser_scale ≡ true
  quantiser-fine = (both_true _ _ h).0

  pub depth-fine : depth_fine x.bits_per_pixel ≡ true
  depth-fine = (both_true _ _ (both_true (quantiser_fine x.quantiser_scale) _ h).1).0

  pub matrix-fine : cond x.quant_type (every (every non_zero) w) true ≡ true
  matrix-fine = (both_true (depth_fine x.bits_per_pixel) _ (both_true (quantiser_fine x.quantiser_scale) _ h).1).1
