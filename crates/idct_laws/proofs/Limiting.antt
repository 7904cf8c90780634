-- Where two blocks of values differ, how far their whole numbers are apart once limited, to what the transform writes and to samples. Assumes nothing.
use mathlib.Core.Bool.{true}
use mathlib.Core.List.{List}
use mathlib.Core.Path.{◌≡◌, subst}
use Prim.Native.Nat.{ℕ, ◌^◌, ◌≤◌, ◌<◌}
use native.Mathlib.Nat.{le_trans, mul-le-mul_right}
use lib.IntN.{ℤ, pos, nat_abs, ◌-ℤ◌}
use Rattle.numbers.proofs.Limits.{clamp_near}
use Rattle.numbers.specs.Grid.{cell}
use Rattle.numbers.specs.Limit.{clamp_z}
use Rattle.ranges.proofs.RangeLaws.{highest-not-negative, lowest-highest}
use Rattle.ranges.specs.Range.{depth_fine, highest, lowest}
use Rattle.idct.specs.Limits.{saturated, values_fine}
use Rattle.exact_transform.specs.Transform.{whole}
use Rattle.rounding.specs.declared.HalfIntegerRounding.{HalfIntegerRounding}
use Rattle.idct_laws.specs.Changes.{changed, Pushed, OnePlace}
use Rattle.idct_laws.proofs.Pushes.{changed-one, push}

saturated-near : (b : ℕ) (p q : ℤ) → nat_abs (saturated b p -ℤ saturated b q) ≤ nat_abs (p -ℤ q)
unfolding saturated
saturated-near b p q = clamp_near p q (lowest b) (highest b) (lowest-highest b)

closer : (d : ℕ) (p q r s : ℤ) → nat_abs (r -ℤ s) ≤ nat_abs (p -ℤ q) → Pushed d p q → Pushed d r s
closer d p q r s l h = le_trans (mul-le-mul_right (2 ^ 25) l) h

module _ (depth : ℕ) (a b : List (List ℤ)) (fine : depth_fine depth ≡ true) (taken-a : values_fine depth a ≡ true) (taken-b : values_fine depth b ≡ true) where
  module _ (m n : HalfIntegerRounding) (y x : ℕ) (ly : y < 8) (lx : x < 8) where
    abbrev p : ℤ
    p = whole m a y x

    abbrev q : ℤ
    q = whole n b y x

    -- to -2 ^ depth .. 2 ^ depth - 1: the cells of `idct8x8`
    pub push_saturated : Pushed (changed a b) (saturated depth p) (saturated depth q)
    push_saturated = closer (changed a b) p q (saturated depth p) (saturated depth q) (saturated-near depth p q) (push depth a b fine taken-a taken-b m n y x ly lx)

    -- to 0 .. 2 ^ depth - 1: the samples
    abbrev limited : ℤ → ℤ
    limited z = clamp_z z (pos 0) (highest depth)

    pub push_limited : Pushed (changed a b) (limited p) (limited q)
    push_limited = closer (changed a b) p q (limited p) (limited q) (clamp_near p q (pos 0) (highest depth) (highest-not-negative depth)) (push depth a b fine taken-a taken-b m n y x ly lx)

    -- where one place alone differs
    module _ (v u : ℕ) (lv : v < 8) (lu : u < 8) (h : OnePlace a b v u) where
      pub push_one_saturated : Pushed (nat_abs (cell a v u -ℤ cell b v u)) (saturated depth p) (saturated depth q)
      push_one_saturated = subst (λ (d : ℕ). Pushed d (saturated depth p) (saturated depth q)) (changed-one a b v u lv lu h) push_saturated

      pub push_one_limited : Pushed (nat_abs (cell a v u -ℤ cell b v u)) (limited p) (limited q)
      push_one_limited = subst (λ (d : ℕ). Pushed d (limited p) (limited q)) (changed-one a b v u lv lu h) push_limited
