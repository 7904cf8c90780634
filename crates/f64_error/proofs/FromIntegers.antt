-- An integer up to 2 ^ 53 is an f64 exactly. Assumes nothing.
use mathlib.Core.Path.{◌≡◌, sym, ap, ◌∙◌}
use Prim.Native.Nat.{ℕ, suc, ◌+◌, ◌*◌, ◌^◌, ◌≤◌}
use native.Mathlib.Nat.{le_trans, le_of_eq, mul-le-mul_right, mul-zero, add-zero, zero-add}
use native.Mathlib.Omega.{arith}
use lib.Dec.{T, le→leb}
use lib.Ieee.{binary64, of_int, in_float, size}
use lib.IntN.{ℤ, pos, negsuc, nat_abs, ◌*ℤ◌}
use Rattle.numbers.proofs.Integers.{abs_is, dn, mul-dn, mul-up, up}
use Rattle.f64_error.proofs.Binary64.{int_is}
use Rattle.f64_error.proofs.Approx.{Approx}
use Rattle.f64_error.specs.Units.{one}

pub in_float_lem : (z : ℤ) → nat_abs z ≤ 2 ^ 53 → T (in_float binary64 z)
unfolding in_float
in_float_lem (pos n) l = le→leb n (2 ^ 53) l
in_float_lem (negsuc n) l = le→leb (suc n) (2 ^ 53) l

-- z * n, for a natural number n
pub times_up : (z : ℤ) (n : ℕ) → up (z *ℤ pos n) ≡ up z * n
times_up z n = mul-up z (pos n) ∙ ap (λ (x : ℕ). up z * n + x) (mul-zero (dn z)) ∙ add-zero (up z * n)

pub times_dn : (z : ℤ) (n : ℕ) → dn (z *ℤ pos n) ≡ dn z * n
times_dn z n = mul-dn z (pos n) ∙ ap (λ (x : ℕ). x + dn z * n) (mul-zero (up z)) ∙ zero-add (dn z * n)

pub approx_int : (z : ℤ) (b : ℕ) → nat_abs z ≤ b → b ≤ 2 ^ 53 → Approx (of_int binary64 z) one z 0 (b * one)
approx_int z b h k =
    let l : (up z + dn z) * one ≤ b * one = mul-le-mul_right one (le_trans (le_of_eq (sym (abs_is z))) h) in
    record { v = z *ℤ pos one; is = int_is z (in_float_lem z (le_trans h k)); over = omega (arith, times_up z one, times_dn z one); under = omega (arith, times_up z one, times_dn z one); size = omega (arith, times_up z one, times_dn z one) }
