-- The values of levels under a context that is fine: neither method refuses. Assumes nothing.
use mathlib.Core.Bool.{Bool, cond, false, not, true, ◌&&◌}
use mathlib.Core.List.{List}
use mathlib.Core.Path.{◌≡◌, ap, ap₂, refl, sym, ◌∙◌}
use Prim.Native.Nat.{ℕ}
use lib.IntN.{ℤ}
use Rattle.codes.specs.declared.dc_size.DcComponent.{DcComponent}
use Rattle.dequantise.specs.Methods.{non_zero}
use Rattle.inverse_quant.specs.Either.{answer_by, dequantised_by}
use Rattle.dequantise.specs.declared.context.InverseQuantContext.{InverseQuantContext}
use Rattle.coefficients.specs.Level.{block_fine}
use Rattle.prediction.specs.Refusal.{after, first_bad}
use Rattle.prediction.specs.declared.refusal.CoefficientError.{CoefficientError}
use Rattle.numbers.proofs.Tests.{true_both}
use Rattle.numbers.specs.Every.{every}
use Rattle.ranges.specs.Range.{depth_fine, quantiser_fine}
use Rattle.assembly.proofs.ContextLaws.{depth-fine, matrix-fine, quantiser-fine}
use Rattle.assembly.specs.Values.{context_fine, quant_of, values_of}
use Rattle.assembly.specs.declared.context.MacroblockTextureContext.{MacroblockTextureContext}
use Rattle.std.specs.Prelude.{Err, Ok, Result, ⊤}

-- a stage that is done leaves its block
pub done_leaves : {A : Type 0} (s : Result ⊤ CoefficientError) (new old : A) → s ≡ Ok tt → after s new old ≡ new
done_leaves s new old e = ap (λ (x : Result ⊤ CoefficientError). after x new old) e

-- and one that is refused the block as it was
pub refused_leaves : {A : Type 0} (s : Result ⊤ CoefficientError) (n : CoefficientError) (new old : A) → s ≡ Err n → after s new old ≡ old
refused_leaves s n new old e = ap (λ (x : Result ⊤ CoefficientError). after x new old) e

module _ (x : MacroblockTextureContext) (w : List (List ℕ)) (h : context_fine x w ≡ true) where
  both : (quantiser_fine x.quantiser_scale && depth_fine x.bits_per_pixel) ≡ true
  both = true_both (quantiser-fine x w h) (depth-fine x w h)

  module _ (c : DcComponent) (qf : List (List ℤ)) (g : block_fine qf ≡ true) where
    -- the matrix, by the method that is asked for
    matrix_by : (t : Bool) → x.quant_type ≡ t → cond t (every (every non_zero) w) true ≡ true
    matrix_by t e = sym (ap (λ (s : Bool). cond s (every (every non_zero) w) true) e) ∙ matrix-fine x w h

    module _ (k : InverseQuantContext) (is : k ≡ quant_of c x) where
      -- by either method it is done
      pub rows-done : (s : Result ⊤ CoefficientError) → s ≡ answer_by x.quant_type k w qf → s ≡ Ok tt
      rows-done s e = e ∙ ap (λ (y : InverseQuantContext). answer_by x.quant_type y w qf) is ∙ go x.quant_type refl
        where
          go : (t : Bool) → x.quant_type ≡ t → answer_by t (quant_of c x) w qf ≡ Ok tt
          go true f = ap₂ first_bad (true_both both (matrix_by true f)) g
          go false f = ap₂ first_bad both g

      pub by_rows : (s : Result ⊤ CoefficientError) (r old : List (List ℤ)) → s ≡ answer_by x.quant_type k w qf
          → r ≡ after (answer_by x.quant_type k w qf) (dequantised_by x.quant_type (not x.intra_mismatch_exempt) k w qf) old → r ≡ values_of c x w qf
      by_rows s r old e q =
          q ∙ done_leaves (answer_by x.quant_type k w qf) _ old (sym e ∙ rows-done s e)
          ∙ ap (λ (y : InverseQuantContext). dequantised_by x.quant_type (not x.intra_mismatch_exempt) y w qf) is
