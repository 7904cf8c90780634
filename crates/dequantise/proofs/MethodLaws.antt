-- A sign is -1, 0 or 1, and with it each method is one formula that gives 0 at 0. Assumes nothing.
use mathlib.Core.Bool.{Bool, true, false, cond}
use mathlib.Core.Path.{◌≡◌, refl, ap, ◌∙◌}
use Prim.Native.Nat.{ℕ, min, zero, suc, ◌+◌, ◌-◌, ◌*◌, ◌/◌, ◌%◌, ◌≤◌}
use native.Mathlib.Omega.{arith}
use lib.Dec.{eqb}
use lib.IntN.{ℤ, pos, negsuc, neg_ℤ, nat_abs, ◌+ℤ◌, ◌-ℤ◌, ◌*ℤ◌}
use lib.Signed.{quot_z}
use borrow.Author.Tests.{eqb-true, eqb-false, ne_eqb}
use Rattle.numbers.proofs.Integers.{dn, le_in, le_lt_z, nat, neg, ring, up, var, ◌⊕◌, ◌⊗◌, ◌⊝◌}
use Rattle.std.specs.Int.{int_signum}
use Rattle.dequantise.specs.Methods.{method1, method1_intra, method2, signum}

-- ---- the sign

pub sign-abs : (z : ℤ) → nat_abs (signum z) ≤ 1
sign-abs (pos zero) = omega arith
sign-abs (pos (suc n)) = omega arith
sign-abs (negsuc n) = omega arith

-- the sign of std is that of the definitions
pub signum_is : (z : ℤ) → int_signum z ≡ signum z
signum_is (pos zero) = refl
signum_is (pos (suc n)) = let e : min (suc n) 1 ≡ 1 = omega arith in ap pos e
signum_is (negsuc n) = refl

-- ---- method 1

not-zero : (n : ℕ) → eqb (suc n) 0 ≡ false
not-zero n = ne_eqb (suc n) 0 (λ e. omega arith)

pub method1_intra_lem : (z : ℤ) (w q : ℕ) → method1_intra z w q ≡ method1 true z w q
method1_intra_lem (pos zero) w q = ap (λ (x : ℤ). quot_z x (pos 16)) (ring (nat 0 ⊗ nat w ⊗ nat q ⊗ nat 2) (nat 0) (omega arith))
method1_intra_lem (pos (suc n)) w q = rw (not-zero n)
method1_intra_lem (negsuc n) w q = rw (not-zero n)

-- an eighth is two sixteenths
eighth : (z : ℤ) → quot_z z (pos 8) ≡ quot_z (z *ℤ pos 2) (pos 16)
eighth (pos n) = let e : n / 8 ≡ n * 2 / 16 = omega arith in ap pos e
eighth (negsuc n) =
    let e : suc n / 8 ≡ suc (suc (n * 2)) / 16 = omega arith in
    let t : suc (suc (n * 2)) ≡ suc n * 2 = omega arith in
    ap (λ (x : ℕ). neg_ℤ (pos x)) e ∙ ap (λ (x : ℕ). quot_z (neg_ℤ (pos x)) (pos 16)) t

pub method1_eighth : (z : ℤ) (w q : ℕ) → quot_z (z *ℤ pos w *ℤ pos q) (pos 8) ≡ method1 true z w q
method1_eighth z w q = eighth (z *ℤ pos w *ℤ pos q) ∙ method1_intra_lem z w q

pub method1_inter_lem : (z : ℤ) (w q : ℕ) → quot_z ((pos 2 *ℤ z +ℤ signum z) *ℤ pos w *ℤ pos q) (pos 16) ≡ method1 false z w q
method1_inter_lem (pos zero) w q = ap (λ (x : ℤ). quot_z x (pos 16)) (ring ((nat 2 ⊗ nat 0 ⊕ nat 0) ⊗ nat w ⊗ nat q) (nat 0) (omega arith))
method1_inter_lem (pos (suc n)) w q = rw (not-zero n, le_lt_z (pos (suc n)) (pos 0) (le_in (omega arith)))
method1_inter_lem (negsuc n) w q = rw (not-zero n)

-- ---- method 2

-- of a magnitude that is not 0
module _ (n q : ℕ) (h : 1 ≤ q) where
  above : (t : Bool) → eqb (q % 2) 1 ≡ t
      → ((pos 2 *ℤ pos (suc n) +ℤ pos 1) *ℤ pos q -ℤ pos 1 *ℤ (pos 1 -ℤ pos (q % 2))) ≡ pos (cond t ((2 * suc n + 1) * q) ((2 * suc n + 1) * q - 1))
  above true e =
      let p : q % 2 ≡ 1 = eqb-true (q % 2) 1 e in
      ring ((nat 2 ⊗ nat (suc n) ⊕ nat 1) ⊗ nat q ⊝ nat 1 ⊗ (nat 1 ⊝ nat (q % 2))) (nat ((2 * suc n + 1) * q)) (omega arith)
  above false e =
      let p : q % 2 ≡ 0 = let f = eqb-false (q % 2) 1 e in omega arith in
      ring ((nat 2 ⊗ nat (suc n) ⊕ nat 1) ⊗ nat q ⊝ nat 1 ⊗ (nat 1 ⊝ nat (q % 2))) (nat ((2 * suc n + 1) * q - 1)) (omega arith)

  below : ((pos 2 *ℤ negsuc n +ℤ negsuc 0) *ℤ pos q -ℤ negsuc 0 *ℤ (pos 1 -ℤ pos (q % 2))) ≡ neg_ℤ ((pos 2 *ℤ pos (suc n) +ℤ pos 1) *ℤ pos q -ℤ pos 1 *ℤ (pos 1 -ℤ pos (q % 2)))
  below =
      ring ((nat 2 ⊗ var (negsuc n) ⊕ var (negsuc 0)) ⊗ nat q ⊝ var (negsuc 0) ⊗ (nat 1 ⊝ nat (q % 2)))
      (neg ((nat 2 ⊗ nat (suc n) ⊕ nat 1) ⊗ nat q ⊝ nat 1 ⊗ (nat 1 ⊝ nat (q % 2)))) (omega arith)

pub method2-is : (z : ℤ) (q : ℕ) → 1 ≤ q → ((pos 2 *ℤ z +ℤ signum z) *ℤ pos q -ℤ signum z *ℤ (pos 1 -ℤ pos (q % 2))) ≡ method2 z q
method2-is (pos zero) q h =
    ring ((nat 2 ⊗ nat 0 ⊕ nat 0) ⊗ nat q ⊝ nat 0 ⊗ (nat 1 ⊝ nat (q % 2))) (nat 0) (omega arith)
method2-is (pos (suc n)) q h = rw (not-zero n) (above n q h (eqb (q % 2) 1) refl)
method2-is (negsuc n) q h = below n q h ∙ rw (above n q h (eqb (q % 2) 1) refl)

-- the product of twice the level and the quantiser, and with the sign the greatest odd number up to the quantiser
pub method2-odd : (z : ℤ) (q : ℕ) → 1 ≤ q → (z *ℤ pos 2 *ℤ pos q +ℤ signum z *ℤ pos (q - 1 + q % 2)) ≡ method2 z q
method2-odd z q h =
    let s = signum z in
    let e : q - 1 + q % 2 + 1 ≡ q + q % 2 = omega arith in
    ring (var z ⊗ nat 2 ⊗ nat q ⊕ var s ⊗ nat (q - 1 + q % 2)) ((nat 2 ⊗ var z ⊕ var s) ⊗ nat q ⊝ var s ⊗ (nat 1 ⊝ nat (q % 2)))
    (omega (arith, ap (λ (t : ℕ). up s * t) e, ap (λ (t : ℕ). dn s * t) e))
    ∙ method2-is z q h
