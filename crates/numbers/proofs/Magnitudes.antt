-- Magnitudes of integers: of sums, products, quotients and remainders. Assumes nothing.
use mathlib.Core.Path.{◌≡◌, sym, refl, ◌∙◌}
use Prim.Native.Nat.{suc-le-suc, zero, suc, ◌+◌, ◌/◌, ◌≤◌, ◌*◌, ◌%◌, ℕ}
use native.Mathlib.Nat.{mul-le-mul, zero-lt-suc, zero-div, div-mul-le_self, div-zero, le_refl, div-le_self, le-div_iff_mul-le, le_trans}
use native.Mathlib.Omega.{arith}
use lib.IntN.{neg_ℤ, pos, negsuc, nat_abs, +ℤ_idl, ◌-ℤ◌, ◌+ℤ◌, ◌*ℤ◌, ℤ}
use lib.Signed.{shr_z, quot_z, rem_z, ◌<ℤ◌, ◌≤ℤ◌}
use Rattle.numbers.proofs.Integers.{add_is, neg-up, le_out, eq_in, neg-dn, halves, lt_out, one-half, abs_is, dn, up}

pub abs_neg : (z : ℤ) → nat_abs (neg_ℤ z) ≡ nat_abs z
abs_neg z = omega (arith, abs_is z, abs_is (neg_ℤ z), neg-up z, neg-dn z)

-- the code's `-z`
pub abs-minus : (z : ℤ) → nat_abs (pos 0 -ℤ z) ≡ nat_abs z
abs-minus z = simp +ℤ_idl (abs_neg z)

pub abs-add : (a b : ℤ) → nat_abs (a +ℤ b) ≤ nat_abs a + nat_abs b
abs-add a b = omega (arith, abs_is a, abs_is b, abs_is (a +ℤ b), one-half (a +ℤ b), add_is a b)

pub abs-sub : (a b : ℤ) → nat_abs (a -ℤ b) ≤ nat_abs a + nat_abs b
abs-sub a b = omega (arith, abs-add a (neg_ℤ b), abs_neg b)

pub abs-mul : (a b : ℤ) → nat_abs (a *ℤ b) ≡ nat_abs a * nat_abs b
abs-mul (pos a) (pos b) = refl
abs-mul (pos a) (negsuc b) = abs_neg (pos (a * suc b))
abs-mul (negsuc a) (pos b) = abs_neg (pos (suc a * b))
abs-mul (negsuc a) (negsuc b) = refl

pub abs-quot : (a b : ℤ) → nat_abs (quot_z a b) ≡ nat_abs a / nat_abs b
abs-quot (pos a) (pos b) = refl
abs-quot (pos a) (negsuc b) = abs_neg (pos (a / suc b))
abs-quot (negsuc a) (pos b) = abs_neg (pos (suc a / b))
abs-quot (negsuc a) (negsuc b) = refl

-- a quotient is no larger, whatever the divisor
pub abs-quot-le : (a b : ℤ) → nat_abs (quot_z a b) ≤ nat_abs a
abs-quot-le a b = omega (arith, abs-quot a b, div-le_self (nat_abs a) (nat_abs b))

pub abs-shr-le : (a : ℤ) (m : ℕ) → nat_abs (shr_z a m) ≤ nat_abs a
abs-shr-le (pos a) m = div-le_self a m
abs-shr-le (negsuc a) m = suc-le-suc (div-le_self a m)

pub abs-mul-le : (a b : ℤ) (A B : ℕ) → nat_abs a ≤ A → nat_abs b ≤ B → nat_abs (a *ℤ b) ≤ A * B
abs-mul-le a b A B ha hb = rw abs-mul (mul-le-mul ha hb)

-- the same of two naturals, whose bounds are numbers
pub mul_bound : (a b A B : ℕ) → a ≤ A → b ≤ B → a * b ≤ A * B
mul_bound a b A B ha hb = mul-le-mul ha hb

-- a quotient grows with its dividend
pub div_mono : {a b : ℕ} (n : ℕ) → a ≤ b → a / n ≤ b / n
div_mono {a} {b} zero h = simp div-zero (le_refl 0)
div_mono {a} {b} (suc n) h = (le-div_iff_mul-le (zero-lt-suc n)).1 (le_trans (div-mul-le_self a (suc n)) h)

-- ---- quotients and remainders by a positive number, half by half

pub quot-up : (a : ℤ) (n : ℕ) → up (quot_z a (pos n)) ≡ up a / n
quot-up (pos a) n = refl
quot-up (negsuc a) n = neg-up (pos (suc a / n)) ∙ sym (zero-div n)

pub quot-dn : (a : ℤ) (n : ℕ) → dn (quot_z a (pos n)) ≡ dn a / n
quot-dn (pos a) n = sym (zero-div n)
quot-dn (negsuc a) n = neg-dn (pos (suc a / n))

pub quot-neg : (a : ℤ) (n : ℕ) → quot_z (neg_ℤ a) (pos n) ≡ neg_ℤ (quot_z a (pos n))
quot-neg a n = eq_in (simp (quot-up, quot-dn, neg-up, neg-dn) (omega arith))

pub rem-abs : (a d : ℤ) → nat_abs (rem_z a d) ≡ nat_abs a % nat_abs d
rem-abs (pos a) d = refl
rem-abs (negsuc a) d = abs_neg (pos (suc a % nat_abs d))

-- a positive number is `pos` of its magnitude
pub pos-abs : {z : ℤ} → pos 0 ≤ℤ z → pos (nat_abs z) ≡ z
pos-abs {z = pos n} h = refl
pos-abs {z = negsuc n} h = absurd h.le

-- a negative one is minus its magnitude
pub neg-abs : {z : ℤ} → z <ℤ pos 0 → z ≡ neg_ℤ (pos (nat_abs z))
neg-abs {z} h = eq_in (omega (arith, halves z, lt_out h, neg-up (pos (nat_abs z)), neg-dn (pos (nat_abs z))))

pub zero_of_abs : (z : ℤ) → nat_abs z ≡ 0 → z ≡ pos 0
zero_of_abs z e = eq_in (omega (arith, halves z))

-- a range whose two ends are B at most, as a magnitude
pub abs-within : (z : ℤ) (B : ℕ) → neg_ℤ (pos B) ≤ℤ z → z ≤ℤ pos B → nat_abs z ≤ B
abs-within z B l h = omega (arith, abs_is z, one-half z, le_out l, le_out h, neg-up (pos B), neg-dn (pos B))
