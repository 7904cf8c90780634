-- The flip of mismatch control (7.4.4.5) changes the lowest bit alone: of an i32 it is the original's `^ 1`. Assumes nothing.
use mathlib.Core.Bool.{Bool, true, false, cond}
use mathlib.Core.Path.{◌≡◌, refl, ap, ◌∙◌}
use Prim.Native.Nat.{ℕ, zero, suc, ◌+◌, ◌*◌, ◌%◌}
use native.Mathlib.Omega.{arith}
use lib.Bits.{bit_xor, and_mask, xor_add_and}
use lib.IntN.{ℤ, pos, negsuc, nat_abs, ◌+ℤ◌, ◌-ℤ◌}
use mir.Facts.{to_z-of_z}
use mir.Syntax.{w32}
use mir.Val.{SFits, of_z, to_z}
use Rattle.numbers.proofs.Integers.{add_is, diff_is, zarith}
use Rattle.mismatch.specs.Mismatch.{even, flipped}
use Rattle.mismatch.proofs.ParityLaws.{above_fits, below_fits, even-rem, odd-rem}

-- what holds of one more than an even number and of one less than an odd one holds of the flip
by_parity : (P : ℤ → Type 0) (z : ℤ) → (even z ≡ true → P (z +ℤ pos 1)) → (even z ≡ false → P (z -ℤ pos 1)) → P (flipped z)
by_parity P z above below = go (even z) refl
  where
    go : (t : Bool) → even z ≡ t → P (cond t (z +ℤ pos 1) (z -ℤ pos 1))
    go true e = above e
    go false e = below e

xor_one : (n : ℕ) → bit_xor n 1 + n % 2 * 2 ≡ n + 1
xor_one n = omega (arith, xor_add_and n 1, and_mask n 1)

-- the bits of a number are even where it is, and of a neighbour they are the neighbour
bits_parity : (z : ℤ) → SFits w32 z → of_z w32 z % 2 ≡ nat_abs z % 2
bits_parity (pos n) f = refl
bits_parity (negsuc n) f = omega (arith, f.sfits)

bits_above : (z : ℤ) → SFits w32 z → nat_abs z % 2 ≡ 0 → of_z w32 (z +ℤ pos 1) ≡ of_z w32 z + 1
bits_above (pos n) f p = refl
bits_above (negsuc zero) f p = absurd (omega arith)
bits_above (negsuc (suc n)) f p =
    let e : (negsuc (suc n) +ℤ pos 1) ≡ negsuc n = omega (zarith, add_is (negsuc (suc n)) (pos 1)) in rw e (omega (arith, f.sfits))

bits_below : (z : ℤ) → SFits w32 z → nat_abs z % 2 ≡ 1 → of_z w32 (z -ℤ pos 1) + 1 ≡ of_z w32 z
bits_below (pos zero) f p = absurd (omega arith)
bits_below (pos (suc n)) f p =
    let e : (pos (suc n) -ℤ pos 1) ≡ pos n = omega (zarith, diff_is (pos (suc n)) (pos 1)) in rw e (omega arith)
bits_below (negsuc n) f p = omega (arith, f.sfits)

-- the greatest i32 is odd and goes down, the least is even and goes up
flip_fits : (z : ℤ) → SFits w32 z → SFits w32 (flipped z)
flip_fits z f = by_parity (SFits w32) z (above_fits z f) (below_fits z f)

flip_bits : (z : ℤ) → SFits w32 z → bit_xor (of_z w32 z) 1 ≡ of_z w32 (flipped z)
flip_bits z f =
    by_parity (λ (y : ℤ). bit_xor (of_z w32 z) 1 ≡ of_z w32 y) z
    (λ e. omega (arith, xor_one (of_z w32 z), bits_parity z f, even-rem z e, bits_above z f (even-rem z e)))
    (λ e. omega (arith, xor_one (of_z w32 z), bits_parity z f, odd-rem z e, bits_below z f (odd-rem z e)))

pub flip_is_xor : (z : ℤ) → SFits w32 z → to_z w32 (bit_xor (of_z w32 z) 1) ≡ flipped z
flip_is_xor z f = ap (to_z w32) (flip_bits z f) ∙ to_z-of_z (flip_fits z f)
