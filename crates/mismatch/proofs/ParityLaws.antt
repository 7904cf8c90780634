-- Even and odd numbers: the remainder by 2 tells them, and one more than an even i32, or one less than an odd one, is an i32. Assumes nothing.
use mathlib.Core.Bool.{Bool, true, false, not}
use mathlib.Core.Path.{◌≡◌, refl, ap, sym}
use Prim.Native.Nat.{◌%◌}
use native.Mathlib.Omega.{arith}
use lib.Dec.{eqb}
use lib.IntN.{ℤ, pos, nat_abs, ◌+ℤ◌, ◌-ℤ◌}
use lib.Signed.{rem_z}
use mir.Syntax.{w32}
use mir.Val.{SFits, of_z}
use borrow.Author.Tests.{eq-eqb, eqb-true, eqb-false, ne_eqb}
use Rattle.numbers.proofs.Integers.{add_is, diff_is, halves}
use Rattle.numbers.proofs.Magnitudes.{rem-abs, zero_of_abs}
use Rattle.numbers.proofs.Words.{bits-eq, cast_us, fits_abs, fits_dn, fits_half, fits_up}
use Rattle.mismatch.specs.Mismatch.{even, odd}

-- ---- the test of a number by its remainder

rem-even : (z : ℤ) → rem_z z (pos 2) ≡ pos 0 → even z ≡ true
rem-even z e = eq-eqb (nat_abs z % 2) 0 (omega (arith, rem-abs z (pos 2), ap nat_abs e))

rem-odd : (z : ℤ) → (rem_z z (pos 2) ≡ pos 0 → ⊥) → even z ≡ false
rem-odd z n = ne_eqb (nat_abs z % 2) 0 (λ e. n (zero_of_abs (rem_z z (pos 2)) (omega (arith, rem-abs z (pos 2)))))

-- and by the remainder's bits
pub rem_tells : (z : ℤ) → eqb (of_z w32 (rem_z z (pos 2))) 0 ≡ even z
rem_tells z = go (eqb (of_z w32 (rem_z z (pos 2))) 0) refl
  where
    small : SFits w32 (rem_z z (pos 2))
    small = fits_abs w32 (rem_z z (pos 2)) (omega (arith, rem-abs z (pos 2)))

    go : (t : Bool) → eqb (of_z w32 (rem_z z (pos 2))) 0 ≡ t → t ≡ even z
    go true e = sym (rem-even z (bits-eq small (cast_us (omega arith)) (eqb-true (of_z w32 (rem_z z (pos 2))) 0 e)))
    go false e = sym (rem-odd z (λ q. eqb-false (of_z w32 (rem_z z (pos 2))) 0 e (ap (of_z w32) q)))

-- ---- what the test tells

pub even-rem : (z : ℤ) → even z ≡ true → nat_abs z % 2 ≡ 0
even-rem z e = eqb-true (nat_abs z % 2) 0 e

pub odd-rem : (z : ℤ) → even z ≡ false → nat_abs z % 2 ≡ 1
odd-rem z e = let n = eqb-false (nat_abs z % 2) 0 e in omega arith

-- ---- the neighbours of an i32: the greatest is odd, and the least is even

pub above_fits : (z : ℤ) → SFits w32 z → even z ≡ true → SFits w32 (z +ℤ pos 1)
above_fits z f e =
    let p : nat_abs z % 2 ≡ 0 = even-rem z e in
    let y = z +ℤ pos 1 in
    let s = add_is z (pos 1) in
    fits_half w32 y (omega (arith, s, halves z, halves y, fits_up f)) (omega (arith, s, halves z, halves y, fits_dn f))

pub below_fits : (z : ℤ) → SFits w32 z → even z ≡ false → SFits w32 (z -ℤ pos 1)
below_fits z f e =
    let p : nat_abs z % 2 ≡ 1 = odd-rem z e in
    let y = z -ℤ pos 1 in
    let d = diff_is z (pos 1) in
    fits_half w32 y (omega (arith, d, halves z, halves y, fits_up f)) (omega (arith, d, halves z, halves y, fits_dn f))
