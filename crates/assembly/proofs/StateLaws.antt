-- The checks of the state, test by test, and what a state that passes is. Assumes nothing.
use mathlib.Core.Bool.{Bool, cond, true, ◌&&◌}
use mathlib.Core.List.{List}
use mathlib.Core.Path.{◌≡◌, ap, ap₂, ◌∙◌}
use Prim.Native.Nat.{ℕ}
use lib.ListN.{length}
use Rattle.bits.specs.Cursor.{in_data}
use Rattle.dequantise.specs.Methods.{non_zero}
use Rattle.coefficients.specs.Level.{predictors_fine}
use Rattle.prediction.specs.declared.predictor.BlockPredictors.{BlockPredictors}
use Rattle.numbers.specs.Every.{every}
use Rattle.ranges.specs.Range.{depth_fine, quantiser_fine}
use Rattle.assembly.proofs.TestLaws.{all_pass}
use Rattle.assembly.specs.Answer.{check_of, tests_of}
use Rattle.assembly.specs.Values.{context_fine}
use Rattle.assembly.specs.declared.context.MacroblockTextureContext.{MacroblockTextureContext}
use Rattle.assembly.specs.declared.error.BlockAssemblyError.TheVariants.{Context, OutOfRange, Predictor}
use Rattle.std.specs.Prelude.{Err, Ok, Result, ⊤}
use Rattle.assembly.specs.declared.error.BlockAssemblyError.{BlockAssemblyError}

module _ (x : MacroblockTextureContext) (w : List (List ℕ)) where
  pub context_by_lem : (a b t : Bool) → quantiser_fine x.quantiser_scale ≡ a → depth_fine x.bits_per_pixel ≡ b → x.quant_type ≡ t
      → context_fine x w ≡ (a && (b && cond t (every (every non_zero) w) true))
  context_by_lem a b t e f g =
      ap₂ (λ (y z : Bool). y && z) e (ap₂ (λ (y z : Bool). y && cond z (every (every non_zero) w) true) f g)

module _ (d : List ℕ) (at : ℕ) (x : MacroblockTextureContext) (p : BlockPredictors) (w : List (List ℕ)) where
  abbrev answered : Bool → Bool → Bool → Result ⊤ BlockAssemblyError
  answered a b t = cond a (cond b (cond t (Ok tt) (Err Predictor)) (Err Context)) (Err OutOfRange)

  pub check_by : (a b t : Bool) → in_data (length d) at ≡ a → context_fine x w ≡ b → predictors_fine p ≡ t → check_of d at x p w ≡ answered a b t
  check_by a b t e f g = ap (λ (y : Bool). answered y (context_fine x w) (predictors_fine p)) e ∙ ap₂ (λ (y z : Bool). answered a y z) f g

  -- a state that passes
  pub all_fine : check_of d at x p w ≡ Ok tt → (in_data (length d) at ≡ true) × (context_fine x w ≡ true) × (predictors_fine p ≡ true)
  all_fine q = let t = all_pass (tests_of d at x p w) q in (t.0, t.1.0, t.1.1.0)
