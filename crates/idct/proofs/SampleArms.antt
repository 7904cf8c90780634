-- A number saturated to any depth: what each arm of a match on its limits gives. Assumes nothing.
use mathlib.Core.Bool.{Bool, cond, false, true}
use mathlib.Core.Path.{◌≡◌, ap, refl, sym, ◌∙◌}
use Prim.Native.Nat.{ℕ}
use native.Mathlib.Omega.{arith}
use lib.IntN.{ℤ}
use Rattle.numbers.specs.Limit.{clamp_z}
use Rattle.numbers.specs.Outcome.{Outcome, accepted, refused}
use Rattle.ranges.proofs.DepthLaws.{samples-are}
use Rattle.ranges.specs.Range.{depth_fine, highest, limits_outcome, lowest, saturation_limits}
use Rattle.idct.specs.Limits.{sample_outcome, saturated}
use Rattle.std.specs.Prelude.{None, Option, Some}

module _ (d : ℕ) (v : ℤ) (r : Option (ℤ × ℤ)) (e : limits_outcome r ≡ saturation_limits d) where
  pub sample_is : (lo hi z : ℤ) → r ≡ Some (lo, hi) → z ≡ clamp_z v lo hi → sample_outcome (Some z) ≡ cond (depth_fine d) (accepted (saturated d v)) (refused 12 0)
  unfolding saturated
  sample_is lo hi z g h = go (depth_fine d) refl (sym (ap limits_outcome g) ∙ e)
    where
      go : (b : Bool) → depth_fine d ≡ b → ◌≡◌ {A = Outcome (ℤ × ℤ)} (accepted (lo, hi)) (cond b (accepted (lowest d, highest d)) (refused 12 0))
          → accepted z ≡ cond b (accepted (clamp_z v (lowest d) (highest d))) (refused 12 0)
      go true f k = let p = samples-are d r f e lo hi g in ap accepted (h ∙ (λ i. clamp_z v (p.0 i) (p.1 i)))
      go false f k = let n : ◌≡◌ {A = ℕ} 0 1 = cc in absurd (omega arith)

  pub sample_refused : r ≡ None → sample_outcome None ≡ cond (depth_fine d) (accepted (saturated d v)) (refused 12 0)
  sample_refused g = go (depth_fine d) (sym (ap limits_outcome g) ∙ e)
    where
      go : (b : Bool) → ◌≡◌ {A = Outcome (ℤ × ℤ)} (refused 12 0) (cond b (accepted (lowest d, highest d)) (refused 12 0)) → refused 12 0 ≡ cond b (accepted (saturated d v)) (refused 12 0)
      go true k = let n : ◌≡◌ {A = ℕ} 0 1 = cc in absurd (omega arith)
      go false k = refl
