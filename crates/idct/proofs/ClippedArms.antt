-- Samples at any depth: what each arm of a match on the depth's limits knows, what is due, and what a test within the limits tells. Assumes nothing.
use mathlib.Core.Bool.{Bool, cond, false, true}
use mathlib.Core.List.{List, [], ◌∷◌}
use mathlib.Core.Path.{◌≡◌, ap, refl, sym, ◌∙◌}
use Prim.Native.Nat.{ℕ, ◌+◌, ◌^◌, ◌<◌}
use native.Mathlib.Omega.{arith}
use lib.IntN.{ℤ, pos}
use lib.Signed.{mag}
use mir.Syntax.{w32}
use mir.Val.{hbits, of_z, to_z}
use Rattle.numbers.proofs.Words.{held}
use Rattle.numbers.specs.Every.{every}
use Rattle.numbers.specs.Outcome.{Outcome, accepted, checked, refused}
use Rattle.ranges.proofs.DepthLaws.{samples-are, values-are}
use Rattle.ranges.specs.Range.{depth_fine, highest, limits_outcome, lowest, saturation_limits, value_limits, within}
use Rattle.rounding.specs.declared.HalfIntegerRounding.{HalfIntegerRounding}
use Rattle.exact_transform.specs.Exact.{Modest}
use Rattle.idct.specs.Limits.{idct_outcome, in_bounds, values_fine}
use Rattle.idct.specs.ShortWays.{samples_in}
use Rattle.idct.proofs.Refusals.{modest, zero-inside}
use Rattle.std.specs.Prelude.{Err, None, Ok, Option, Some}
use Rattle.idct.specs.declared.limits.IdctError.TheVariants.{DepthOutOfRange}
use Rattle.idct.specs.declared.limits.IdctError.TheVariants.{ValueOutOfLimits}

-- ---- the arms

module _ (d : ℕ) (r : Option (ℤ × ℤ)) (e : limits_outcome r ≡ value_limits d) where
  depth-found : (lo hi : ℤ) → r ≡ Some (lo, hi) → depth_fine d ≡ true
  depth-found lo hi g = go (depth_fine d) (sym (ap limits_outcome g) ∙ e)
    where
      go : (b : Bool) → ◌≡◌ {A = Outcome (ℤ × ℤ)} (accepted (lo, hi)) (cond b (accepted (lowest (d + 3), highest (d + 3))) (refused 12 0)) → b ≡ true
      go true k = refl
      go false k = let n : ◌≡◌ {A = ℕ} 0 1 = cc in absurd (omega arith)

  pub depth_lost : r ≡ None → depth_fine d ≡ false
  depth_lost g = go (depth_fine d) (sym (ap limits_outcome g) ∙ e)
    where
      go : (b : Bool) → ◌≡◌ {A = Outcome (ℤ × ℤ)} (refused 12 0) (cond b (accepted (lowest (d + 3), highest (d + 3))) (refused 12 0)) → b ≡ false
      go true k = let n : ◌≡◌ {A = ℕ} 0 1 = cc in absurd (omega arith)
      go false k = refl

  -- the limits, as the machine reads them back
  pub limits_told : (lo hi : ℤ) → r ≡ Some (lo, hi) → mag lo < 2 ^ hbits w32 → mag hi < 2 ^ hbits w32
      → (depth_fine d ≡ true) × (to_z w32 (of_z w32 lo) ≡ lowest (d + 3)) × (to_z w32 (of_z w32 hi) ≡ highest (d + 3))
  limits_told lo hi g a b =
      let f = depth-found lo hi g in
      let k = values-are d r f e lo hi g in
      (f, held lo a ∙ k.0, held hi b ∙ k.1)

-- the least and the greatest sample
module _ (d : ℕ) (r : Option (ℤ × ℤ)) (f : depth_fine d ≡ true) (e : limits_outcome r ≡ saturation_limits d) (lo hi : ℤ) (g : r ≡ Some (lo, hi)) where
  pub bottom_told : mag lo < 2 ^ hbits w32 → to_z w32 (of_z w32 lo) ≡ lowest d
  bottom_told b = held lo b ∙ (samples-are d r f e lo hi g).0

  pub top_told : mag hi < 2 ^ hbits w32 → to_z w32 (of_z w32 hi) ≡ highest d
  top_told b = held hi b ∙ (samples-are d r f e lo hi g).1

-- ---- what is due: by the depth first, then by the values

module _ (d : ℕ) (b : Bool) where
  abbrev due : Outcome (Unit {0})
  due = checked ((depth_fine d, 12) ∷ (b, 13) ∷ []) (accepted tt)

  pub no-depth : depth_fine d ≡ false → idct_outcome (Err DepthOutOfRange) ≡ due
  no-depth e = simp e

  pub no_value : depth_fine d ≡ true → b ≡ false → idct_outcome (Err ValueOutOfLimits) ≡ due
  no_value e g = simp (e, g)

  pub all_taken : depth_fine d ≡ true → b ≡ true → idct_outcome (Ok tt) ≡ due
  all_taken e g = simp (e, g)

-- ---- tests within the limits of values

module _ (d : ℕ) (lo hi : ℤ) (a : lo ≡ lowest (d + 3)) (b : hi ≡ highest (d + 3)) where
  pub value_test : (z w : ℤ) → w ≡ z → within lo hi w ≡ in_bounds (d + 3) z
  value_test z w h = λ i. within (a i) (b i) (h i)

  values_test : (l : List (List ℤ)) → every (every (within lo hi)) l ≡ values_fine d l
  values_test l = λ i. every (every (within (a i) (b i))) l

  pub values-told : (l : List (List ℤ)) (r t : Bool) → r ≡ every (every (within lo hi)) l → r ≡ t → values_fine d l ≡ t
  values-told l r t e g = sym (values_test l) ∙ sym e ∙ g

  pub zero-taken : within lo hi (pos 0) ≡ true
  zero-taken = value_test (pos 0) (pos 0) refl ∙ zero-inside (d + 3)

  pub modest_taken : depth_fine d ≡ true → (l : List (List ℤ)) → every (every (within lo hi)) l ≡ true → Modest l
  modest_taken f l e = modest d l f (sym (values_test l) ∙ e)

-- ---- what the block holds afterwards

module _ (r : Bool) (new old out : List (List ℤ)) (e : out ≡ cond r new old) where
  pub left_old : r ≡ false → out ≡ old
  left_old g = e ∙ ap (λ (b : Bool). cond b new old) g

  has_new : r ≡ true → out ≡ new
  has_new g = e ∙ ap (λ (b : Bool). cond b new old) g

-- a block whose values are all within the limits
module _ (d : ℕ) (m : HalfIntegerRounding) (lo hi bottom top least : ℤ) (l : List (List ℤ)) (r : Bool) (old out : List (List ℤ)) where
  pub taken-samples : values_fine d l ≡ true → lo ≡ lowest (d + 3) → hi ≡ highest (d + 3) → bottom ≡ least → top ≡ highest d → r ≡ every (every (within lo hi)) l → out ≡ cond r (samples_in m bottom top l) old → out ≡ samples_in m least (highest d) l
  taken-samples f a b k h e g = has_new r (samples_in m bottom top l) old out g (e ∙ values_test d lo hi a b l ∙ f) ∙ (λ i. samples_in m (k i) (h i) l)
