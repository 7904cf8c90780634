-- Binary64's operations on values: each bound is a numeral of few digits times a power of two that stays shut. Assumes nothing.
use mathlib.Core.Bool.{Bool, true, false}
use mathlib.Core.Path.{◌≡◌, refl, sym, ap, ◌∙◌, subst}
use Prim.Native.Nat.{ℕ, zero, suc, ◌+◌, ◌*◌, ◌^◌, ◌≤◌, ◌<◌}
use native.Mathlib.Nat.{mul_right_comm, mul-one, eq_of_mul-eq-mul_right}
use native.Mathlib.Omega.{arith}
use lib.Dec.{T, ltb→lt, lit<, leb→le}
use lib.Ieee.{Float, nan, inf, fin, low, up as numer, down as denom, round, add, mul, neg, lt, binary64, sub, of_int, in_float}
use lib.Ieee.Back.{round_whole}
use lib.Ieee.Exact.{HasValue}
use lib.Ieee.Fits.{down_pos}
use lib.IntN.{ℤ, pos, neg_ℤ, nat_abs, ◌+ℤ◌, negsuc, ◌*ℤ◌}
use lib.Pow.{pow-add, pow-lt}
use Rattle.numbers.proofs.Integers.{dn, up}
use Rattle.f64_error.proofs.Operations.{Close, Times, add-val, mul_val, neg-val, val_of}
use Rattle.f64_error.proofs.Order.{Le, Lt, lt_holds, lt_no, lt_yes}
use Rattle.f64_error.proofs.Grains.{grain, mesh}
use Rattle.f64_error.specs.Units.{Is, one, sgn}

pub one-is : one ≡ 2 ^ 60 * grain
unfolding one grain
one-is = refl

pub grain_pos : 0 < grain
unfolding grain
grain_pos = lit< tt

pub one-pos : 0 < one
unfolding one
one-pos = lit< tt

-- an operation whose exact result is below 2 ^ j is off by at most 2 ^ (j - 54)
abbrev pub below : ℕ → ℕ
below j = 2 ^ (60 + j) * grain

abbrev pub off : ℕ → ℕ
off j = 2 ^ (6 + j) * grain

below-is : (j : ℕ) → 2 ^ (60 + j) * grain ≡ 2 ^ (53 + suc (1020 + j))
unfolding grain
below-is j = sym (pow-add 2 (60 + j) 1014) ∙ ap (λ (x : ℕ). 2 ^ x) (line j)
  where
    line : (j : ℕ) → 60 + j + 1014 ≡ 53 + suc (1020 + j)
    line j = omega arith

off_is : (j : ℕ) → 2 ^ (6 + j) * grain ≡ 2 ^ (1020 + j)
unfolding grain
off_is j = sym (pow-add 2 (6 + j) 1014) ∙ ap (λ (x : ℕ). 2 ^ x) (line j)
  where
    line : (j : ℕ) → 6 + j + 1014 ≡ 1020 + j
    line j = omega arith

fine : (j : ℕ) → j ≤ 900 → 2 ^ (53 + suc (1020 + j)) < 2 ^ (1074 + suc 1023)
fine j h = pow-lt (line j h)
  where
    line : (j : ℕ) → j ≤ 900 → 53 + suc (1020 + j) < 1074 + suc 1023
    line j h = omega arith

pub add_off : (j : ℕ) (x y : Float) (a b : ℤ) → j ≤ 900 → Is x a → Is y b → nat_abs a + nat_abs b < below j → (v : ℤ) × Is (add binary64 x y) v × Close v (a +ℤ b) (off j)
unfolding Is
add_off j x y a b h p q s =
    let r = add-val binary64 (1020 + j) (fine j h) x y a b p q (subst (λ (z : ℕ). nat_abs a + nat_abs b < z) (below-is j) s) in
    (r.0, r.1, subst (λ (z : ℕ). Close r.0 (a +ℤ b) z) (sym (off_is j)) r.2)

pub mul_off : (j : ℕ) (x y : Float) (a b : ℤ) → j ≤ 900 → Is x a → Is y b → nat_abs a * nat_abs b < below j * one → (v : ℤ) × Is (mul binary64 x y) v × Times v a b one (off j)
unfolding Is one
mul_off j x y a b h p q s =
    let r = mul_val binary64 (1020 + j) (fine j h) x y a b p q (subst (λ (z : ℕ). nat_abs a * nat_abs b < z * 2 ^ 1074) (below-is j) s) in
    (r.0, r.1, subst (λ (z : ℕ). Times r.0 a b (2 ^ 1074) z) (sym (off_is j)) r.2)

pub neg_is : (x : Float) (a : ℤ) → Is x a → Is (neg x) (neg_ℤ a)
unfolding Is
neg_is x a h = neg-val binary64 x a h

-- ---- an integer up to 2 ^ 53 is a value exactly
scale-up : (x : Float) (s : Bool) (n : ℕ) → HasValue x s n 1 → HasValue x s (n * one) (2 ^ low binary64)
unfolding one
scale-up nan s n h = h
scale-up (inf t) s n h = h
scale-up (fin t m e) s n h = (h.0, ap (λ (z : ℕ). z * 2 ^ 1074) (sym (mul-one (m * numer e)) ∙ h.1) ∙ mul_right_comm n (denom e) (2 ^ 1074))

pub int_is : (z : ℤ) → T (in_float binary64 z) → Is (of_int binary64 z) (z *ℤ pos one)
unfolding Is of_int in_float
int_is (pos n) t = val_of binary64 (round binary64 false n 1) false (n * one) (scale-up (round binary64 false n 1) false n (round_whole binary64 false n (leb→le n (2 ^ 53) t)))
int_is (negsuc n) t = val_of binary64 (round binary64 true (suc n) 1) true (suc n * one) (scale-up (round binary64 true (suc n) 1) true (suc n) (round_whole binary64 true (suc n) (ltb→lt n (2 ^ 53) t)))

pub zero_is : Is (fin false 0 (pos 0)) (pos 0)
unfolding Is
zero_is = (0, refl, refl)

-- ---- a value is one integer only
pub is_unique : (x : Float) (a b : ℤ) → Is x a → Is x b → a ≡ b
unfolding Is
is_unique nan a b h g = absurd h
is_unique (inf s) a b h g = absurd h
is_unique (fin s m e) a b h g = h.2 ∙ ap (λ (n : ℕ). sgn s n) (eq_of_mul-eq-mul_right (denom e) (down_pos e) h.0 g.0 (sym h.1 ∙ g.1)) ∙ sym g.2

-- ---- order, and the cast to an `i64`
pub lt-is : (x y : Float) (a b : ℤ) → Is x a → Is y b → lt x y ≡ true → Lt a b
unfolding Is
lt-is x y a b h g e = lt_yes binary64 x y a b h g e

pub nlt_is : (x y : Float) (a b : ℤ) → Is x a → Is y b → lt x y ≡ false → Le b a
unfolding Is
nlt_is x y a b h g e = lt_no binary64 x y a b h g e

-- t is less than 1 from v
pub record Part (v t : ℤ) : Type 0 where
  pub over : up v + dn t * one < dn v + up t * one + one
  pub under : dn v + up t * one < up v + dn t * one + one

pub lt_shown : (x y : Float) (a b : ℤ) → Is x a → Is y b → Lt a b → T (lt x y)
unfolding Is
lt_shown x y a b h g l = lt_holds binary64 x y a b h g l

-- ---- some powers of two
pub half_is : Is (fin false 1 (negsuc 0)) (pos (2 ^ 59 * grain))
unfolding Is grain
half_is = (2 ^ 1073, refl, refl)

-- ---- a difference
pub sub_off : (j : ℕ) (x y : Float) (a b : ℤ) → j ≤ 900 → Is x a → Is y b → nat_abs a + nat_abs b < below j → (v : ℤ) × Is (sub binary64 x y) v × Close v (a +ℤ neg_ℤ b) (off j)
unfolding sub
sub_off j x y a b h p q s = add_off j x (neg y) a (neg_ℤ b) h p (neg_is y b q) (subst (λ (z : ℕ). nat_abs a + z < below j) (sym (abs_neg b)) s)
  where
    abs_neg : (b : ℤ) → nat_abs (neg_ℤ b) ≡ nat_abs b
    abs_neg (pos zero) = refl
    abs_neg (pos (suc n)) = refl
    abs_neg (negsuc n) = refl

pub mesh_pos : 0 < mesh
unfolding mesh
mesh_pos = lit< tt

pub one_factors : mesh * 2 * 2 ^ 55 * 2 ^ 55 * 2 * 2 ^ 55 * 2 ^ 55 ≡ one
unfolding mesh one
one_factors = refl

pub one_mesh : one ≡ 2 ^ 222 * mesh
unfolding mesh one
one_mesh = refl

pub grain_mesh : grain ≡ 2 ^ 162 * mesh
unfolding mesh grain
grain_mesh = refl
