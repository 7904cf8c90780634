-- Which side is needed, by the direction that the DCs give, and a value that is 0, by its bits. Assumes nothing.
use mathlib.Core.Bool.{Bool, true, false, cond, ◌&&◌}
use mathlib.Core.Path.{◌≡◌, refl, sym, ap, ◌∙◌}
use Prim.Native.Nat.{ℕ}
use native.Mathlib.Omega.{arith}
use lib.Dec.{eqb}
use lib.IntN.{ℤ, nat_abs, negsuc, pos}
use mir.Syntax.{w32}
use mir.Val.{SFits, of_z}
use borrow.Author.Tests.{ne_eqb}
use Rattle.numbers.proofs.Words.{zero-abs}
use Rattle.ranges.specs.Range.{dc_fine}
use Rattle.coefficients.specs.Needed.{dcs_only, needed_of, with_side}
use Rattle.prediction.specs.Prediction.{direction_by}
use Rattle.prediction.specs.Stages.{direction_answer}
use Rattle.prediction.specs.declared.predictor.BlockPredictors.{BlockPredictors}
use Rattle.prediction.specs.declared.refusal.CoefficientError.{CoefficientError}
use Rattle.prediction.specs.declared.refusal.CoefficientError.TheVariants.{HandedIn}
use Rattle.scan.specs.declared.DcPredictionDirection.{DcPredictionDirection}
use Rattle.std.specs.Prelude.{Err, Ok, Result}

pub zero_bits : (z : ℤ) → SFits w32 z → eqb (of_z w32 z) 0 ≡ eqb (nat_abs z) 0
zero_bits (pos n) f = refl
zero_bits (negsuc n) f =
    ne_eqb (of_z w32 (negsuc n)) 0 (λ (h : of_z w32 (negsuc n) ≡ 0). let e = zero-abs f h in omega arith)
    ∙ sym (ne_eqb (nat_abs (negsuc n)) 0 (λ (e : nat_abs (negsuc n) ≡ 0). omega arith))

module _ (q : ℕ) (p : BlockPredictors) where
  abbrev chosen : Result DcPredictionDirection CoefficientError
  chosen = direction_answer p.fa_dc p.fb_dc p.fc_dc

  abbrev dcs-fine : Bool
  dcs-fine = dc_fine p.fa_dc && (dc_fine p.fb_dc && dc_fine p.fc_dc)

  none : (t : Bool) (d : DcPredictionDirection) (e : CoefficientError) → cond t (Ok d) (Err HandedIn) ≡ Err e → cond t (with_side q p d) (dcs_only q p) ≡ dcs_only q p
  none true d e h = cc
  none false d e h = refl

  side : (t : Bool) (d f : DcPredictionDirection) → cond t (Ok d) (Err HandedIn) ≡ Ok f → cond t (with_side q p d) (dcs_only q p) ≡ with_side q p f
  side true d f h = let e : d ≡ f = cc in ap (with_side q p) e
  side false d f h = cc

  -- no AC prediction; DCs that give no direction; and the direction that they give
  pub needed_dcs : {ac_pred : Bool} → ac_pred ≡ false → needed_of q ac_pred p ≡ dcs_only q p
  unfolding needed_of
  needed_dcs a = rw a

  pub needed_none : {ac_pred : Bool} (e : CoefficientError) → ac_pred ≡ true → chosen ≡ Err e → needed_of q ac_pred p ≡ dcs_only q p
  unfolding needed_of
  needed_none e a h = rw a (none dcs-fine (direction_by p) e h)

  pub needed_side : {ac_pred : Bool} (d : DcPredictionDirection) → ac_pred ≡ true → chosen ≡ Ok d → needed_of q ac_pred p ≡ with_side q p d
  unfolding needed_of
  needed_side d a h = rw a (side dcs-fine (direction_by p) d h)
