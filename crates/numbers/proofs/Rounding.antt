-- The operator `//`: `div_away` is the nearest, and no other number is. Assumes nothing.
use mathlib.Core.Bool.{Bool, false, true}
use mathlib.Core.Path.{◌≡◌, ap, refl}
use Prim.Native.Nat.{suc, ◌+◌, ◌/◌, ◌≤◌, ◌<◌, ◌*◌, ℕ, zero}
use native.Mathlib.Nat.{mul-le-mul_right, mul-pos, div-eq_of_lt-le, lt-div-mul-add, div-mul-le_self, div-zero, div-lt_iff_lt-mul, div-le_of_le-mul}
use native.Mathlib.Omega.{arith}
use lib.Dec.{ltb→lt}
use lib.IntN.{neg_ℤ, pos, negsuc, nat_abs, ◌-ℤ◌, ◌*ℤ◌, ℤ}
use lib.Signed.{lt_z, ◌<ℤ◌, ◌≤ℤ◌}
use Rattle.numbers.proofs.Integers.{neg, nat, lt-true, var, halves, zarith, one-half, abs_is, sound, ◌⊗◌, ◌⊝◌, lt_out}
use Rattle.numbers.proofs.Magnitudes.{abs_neg, abs-mul}
use Rattle.numbers.specs.Rounding.{div_away, Nearest}

-- where the division stands: Q is (2a + d) / 2d
module _ (a d : ℕ) (h : 0 < d) where
  below : (2 * a + d) / (2 * d) * (2 * d) ≤ 2 * a + d
  below = div-mul-le_self (2 * a + d) (2 * d)

  above : 2 * a + d < (2 * a + d) / (2 * d) * (2 * d) + 2 * d
  above = lt-div-mul-add (mul-pos {m = 2} (omega arith) h)

  -- as the code has it
  pub half_up : (a + d / 2) / d ≡ (2 * a + d) / (2 * d)
  half_up = div-eq_of_lt-le d (omega (arith, below)) (omega (arith, above))

-- by 0
pub by_zero : (n : ℤ) → div_away n 0 ≡ pos 0
by_zero (pos a) = ap pos (div-zero (2 * a + 0))
by_zero (negsuc a) = ap (λ (q : ℕ). neg_ℤ (pos q)) (div-zero (2 * suc a + 0))

-- as the code has it, of either sign
pub div-pos : (n : ℤ) (d : ℕ) → 0 < d → pos 0 ≤ℤ n → pos ((nat_abs n + d / 2) / d) ≡ div_away n d
div-pos (pos a) d h l = ap pos (half_up a d h)
div-pos (negsuc a) d h l = absurd l.le

pub div-neg : (n : ℤ) (d : ℕ) → 0 < d → n <ℤ pos 0 → neg_ℤ (pos ((nat_abs n + d / 2) / d)) ≡ div_away n d
div-neg (pos a) d h l = let m = lt_out l in absurd (omega arith)
div-neg (negsuc a) d h l = ap (λ (q : ℕ). neg_ℤ (pos q)) (half_up (suc a) d h)

-- d of them are at least d
the-more : (d a : ℕ) → 1 * d ≤ suc a * d
the-more d a = mul-le-mul_right d (omega arith)

-- the quotient is no larger than the magnitude
pub half-up-le : (a d : ℕ) → 0 < d → (a + d / 2) / d ≤ a
half-up-le zero d h = let l = (div-lt_iff_lt-mul {x = 0 + d / 2} {y = 1} h).1 (omega arith) in omega arith
half-up-le (suc a) (suc d) h = div-le_of_le-mul (suc d) (omega (arith, the-more d a))
half-up-le (suc a) zero h = absurd (omega arith)

pub nearest : (n : ℤ) (d : ℕ) → 0 < d → Nearest n d (div_away n d)
nearest (pos a) d h =
    let q = (2 * a + d) / (2 * d) in
    let z = pos a -ℤ pos q *ℤ pos d in
    let s = sound (nat a ⊝ nat q ⊗ nat d) in
    record {
      near = omega (arith, abs_is z, one-half z, s, below a d h, above a d h);
      away = λ e. omega (arith, abs_is z, one-half z, s, below a d h, above a d h);
    }
nearest (negsuc a) d h =
    let q = (2 * suc a + d) / (2 * d) in
    let z = negsuc a -ℤ neg_ℤ (pos q) *ℤ pos d in
    let s = sound (neg (nat (suc a)) ⊝ neg (nat q) ⊗ nat d) in
    record {
      near = omega (arith, abs_is z, one-half z, s, below (suc a) d h, above (suc a) d h);
      away = λ e. omega (arith, abs_is z, one-half z, s, below (suc a) d h, above (suc a) d h, abs-mul (neg_ℤ (pos q)) (pos d), ap (λ (x : ℕ). x * d) (abs_neg (pos q)));
    }

-- two neighbours r < s cannot both be the nearest: each would be at just half, and one of them is not the farther from zero
apart : (n r s : ℤ) (d : ℕ) → 0 < d → Nearest n d r → Nearest n d s → r <ℤ s → ⊥
apart n (pos a) (pos b) d h p q l =
    let x = sound (var n ⊝ nat a ⊗ nat d) in
    let y = sound (var n ⊝ nat b ⊗ nat d) in
    let zx = n -ℤ pos a *ℤ pos d in
    let zy = n -ℤ pos b *ℤ pos d in
    let m = mul-le-mul_right d (ltb→lt a b l.lt) in
    let t : 2 * nat_abs zx ≡ d = omega (arith, halves zx, halves zy, x, y, m, p.near, q.near) in
    omega (arith, halves n, halves zx, halves zy, x, y, m, q.near, p.away t)
apart n (negsuc a) (pos b) d h p q l =
    let x = sound (var n ⊝ neg (nat (suc a)) ⊗ nat d) in
    let y = sound (var n ⊝ nat b ⊗ nat d) in
    let zx = n -ℤ negsuc a *ℤ pos d in
    let zy = n -ℤ pos b *ℤ pos d in
    let t : 2 * nat_abs zy ≡ d = omega (arith, halves zx, halves zy, x, y, p.near, q.near) in
    omega (arith, halves n, halves zx, halves zy, x, y, p.near, q.away t)
apart n (negsuc a) (negsuc b) d h p q l =
    let x = sound (var n ⊝ neg (nat (suc a)) ⊗ nat d) in
    let y = sound (var n ⊝ neg (nat (suc b)) ⊗ nat d) in
    let zx = n -ℤ negsuc a *ℤ pos d in
    let zy = n -ℤ negsuc b *ℤ pos d in
    let m = mul-le-mul_right d (ltb→lt b a l.lt) in
    let t : 2 * nat_abs zy ≡ d = omega (arith, halves zx, halves zy, x, y, m, p.near, q.near) in
    omega (arith, halves n, halves zx, halves zy, x, y, m, p.near, q.away t, abs-mul (negsuc b) (pos d))
apart n (pos a) (negsuc b) d h p q l = l.lt

pub only : (n r s : ℤ) (d : ℕ) → 0 < d → Nearest n d r → Nearest n d s → r ≡ s
only n r s d h p q = go (lt_z r s) (lt_z s r) refl refl
  where
    go : (x y : Bool) → lt_z r s ≡ x → lt_z s r ≡ y → r ≡ s
    go true y e f = absurd (apart n r s d h p q (lt-true r s e))
    go false true e f = absurd (apart n s r d h q p (lt-true s r f))
    go false false e f = omega zarith

-- clause 4.1's own examples: 3 // 2 is 2 and -3 // 2 is -2
three_halves : div_away (pos 3) 2 ≡ pos 2
three_halves = refl

minus_three_halves : div_away (negsuc 2) 2 ≡ negsuc 1
minus_three_halves = refl
