-- Two fractions near one nested root, or near one cosine, are near each other. Assumes nothing.
use mathlib.Core.Bool.{Bool, true, false, cond}
use mathlib.Core.Path.{ap, ◌∙◌, subst}
use Prim.Native.Nat.{ℕ, ◌+◌, ◌*◌, ◌^◌, ◌≤◌, ◌<◌}
use native.Mathlib.Nat.{le_of_mul-le-mul_right}
use native.Mathlib.Omega.{arith}
use lib.Dec.{T, lit<}
use lib.IntN.{ℤ, pos, neg_ℤ, nat_abs, ◌+ℤ◌, ◌-ℤ◌, ◌*ℤ◌}
use lib.Signed.{◌≤ℤ◌}
use mir.Facts.{and_yes}
use Rattle.numbers.proofs.Integers.{var, nat, neg, ◌⊕◌, ◌⊝◌, ◌⊗◌, ring, told, up, dn, halves, diff_is}
use Rattle.numbers.proofs.Magnitudes.{abs_neg}
use Rattle.f64_error.proofs.FromIntegers.{times_up, times_dn}
use Rattle.idct_laws.specs.Roots.{Root, at_most, at_least, double_cosine, quarter, negative, near_root, near_cosine}
use Rattle.idct_laws.proofs.RootLaws.{cut}

-- c / d and a / g are within (e + f) / 2 ^ 55 of each other
abbrev pub Apart : (e f d g : ℕ) (c a : ℤ) → Type 0
Apart e f d g c a = nat_abs (c *ℤ pos g -ℤ a *ℤ pos d) * 2 ^ 55 ≤ d * g * (e + f)

-- c / d, less e / P, is at most a / g with f / P more, each taken twice; P is 2 S
one_side : (P S d g e f : ℕ) (c a : ℤ) → 0 < S → ((c *ℤ pos P -ℤ pos (d * e)) *ℤ pos (g * S)) ≤ℤ ((a *ℤ pos P +ℤ pos (g * f)) *ℤ pos (d * S))
    → (up c * g + dn a * d) * P ≤ (dn c * g + up a * d) * P + d * g * (e + f)
one_side P S d g e f c a s h =
    let t = told ((var c ⊗ nat P ⊝ nat (d * e)) ⊗ nat (g * S)) ((var a ⊗ nat P ⊕ nat (g * f)) ⊗ nat (d * S)) h in
    le_of_mul-le-mul_right (omega arith) s

both_sides : (d g e f : ℕ) (c a : ℤ) → (up c * g + dn a * d) * 2 ^ 55 ≤ (dn c * g + up a * d) * 2 ^ 55 + d * g * (e + f)
    → (up a * d + dn c * g) * 2 ^ 55 ≤ (dn a * d + up c * g) * 2 ^ 55 + g * d * (f + e) → Apart e f d g c a
both_sides d g e f c a h k =
    let z = c *ℤ pos g -ℤ a *ℤ pos d in
    omega (arith, halves z, diff_is (c *ℤ pos g) (a *ℤ pos d), times_up c g, times_dn c g, times_up a d, times_dn a d)

roots_apart : (e f d g : ℕ) (c a : ℤ) (r : Root) → T (near_root e c d r) → T (near_root f a g r) → Apart e f d g c a
roots_apart e f d g c a r p q =
    let c₀ = c *ℤ pos (2 ^ 55) -ℤ pos (d * e) in
    let c₁ = c *ℤ pos (2 ^ 55) +ℤ pos (d * e) in
    let a₀ = a *ℤ pos (2 ^ 55) -ℤ pos (g * f) in
    let a₁ = a *ℤ pos (2 ^ 55) +ℤ pos (g * f) in
    let s = d * 2 ^ 54 in
    let t = g * 2 ^ 54 in
    let i = and_yes (at_most c₀ s r) (at_least c₁ s r) p in
    let j = and_yes (at_most a₀ t r) (at_least a₁ t r) q in
    both_sides d g e f c a (one_side (2 ^ 55) (2 ^ 54) d g e f c a (lit< tt) (cut r c₀ a₁ s t i.0 j.1))
    (one_side (2 ^ 55) (2 ^ 54) g d f e a c (lit< tt) (cut r a₀ c₁ t s j.0 i.1))

-- of cosines: where both are turned to the other sign, so is their difference
pub cosines-apart : (e f d g : ℕ) (c a : ℤ) (m : ℕ) → T (near_cosine e c d m) → T (near_cosine f a g m) → Apart e f d g c a
cosines-apart e f d g c a m = by_sign (negative m)
  where
    by_sign : (b : Bool) → T (near_root e (cond b (neg_ℤ c) c) d (double_cosine (quarter m))) → T (near_root f (cond b (neg_ℤ a) a) g (double_cosine (quarter m))) → Apart e f d g c a
    by_sign true p q =
        subst (λ (i : ℕ). i * 2 ^ 55 ≤ d * g * (e + f))
        (ap nat_abs (ring (neg (var c) ⊗ nat g ⊝ neg (var a) ⊗ nat d) (neg (var c ⊗ nat g ⊝ var a ⊗ nat d)) (omega arith)) ∙ abs_neg (c *ℤ pos g -ℤ a *ℤ pos d))
        (roots_apart e f d g (neg_ℤ c) (neg_ℤ a) (double_cosine (quarter m)) p q)
    by_sign false p q = roots_apart e f d g c a (double_cosine (quarter m)) p q
