-- A range's test as bounds, and back; and where the limits of a depth lie. Assumes nothing.
use mathlib.Core.Bool.{true, ◌&&◌}
use mathlib.Core.Path.{◌≡◌}
use Prim.Native.Nat.{ℕ, ◌+◌, ◌^◌, ◌≤◌, ◌<◌}
use native.Mathlib.Omega.{arith}
use lib.Dec.{leb}
use lib.IntN.{ℤ, pos, negsuc, nat_abs}
use lib.Pow.{pow_pos}
use lib.Signed.{le_z, ◌<ℤ◌, ◌≤ℤ◌}
use borrow.Author.Tests.{leb-true, le-leb}
use Rattle.numbers.proofs.Integers.{<ℤ-≤ℤ, diff_is, halves, le_in, le_le_z, le_out, le_yes, lt_in, neg-dn, neg-up, ≤ℤ-trans}
use Rattle.numbers.proofs.Limits.{clamp_high, clamp_low}
use Rattle.numbers.specs.Limit.{clamp_z}
use Rattle.ranges.specs.Range.{within, depth_fine, limited_quantiser, quantiser_fine, level_fine, difference_fine, dc_fine, highest, lowest}
use Rattle.numbers.proofs.Tests.{both_true, true_both}

pub within_of : (lo hi z : ℤ) → lo ≤ℤ z → z ≤ℤ hi → within lo hi z ≡ true
within_of lo hi z l h = true_both (le_le_z lo z l) (le_le_z z hi h)

-- ---- signed ranges by the magnitude: -(n + 1) .. m

module _ (n m : ℕ) (z : ℤ) where
  within-abs : (B : ℕ) → n < B → m ≤ B → within (negsuc n) (pos m) z ≡ true → nat_abs z ≤ B
  within-abs B h k e =
      let w = both_true (le_z (negsuc n) z) (le_z z (pos m)) e in
      omega (arith, halves z, le_yes (negsuc n) z w.0, le_yes z (pos m) w.1)

  abs-within : (B : ℕ) → B ≤ n + 1 → B ≤ m → nat_abs z ≤ B → within (negsuc n) (pos m) z ≡ true
  abs-within B h k l = within_of (negsuc n) (pos m) z (le_in (omega (arith, halves z))) (le_in (omega (arith, halves z)))

pub level-abs : (z : ℤ) → level_fine z ≡ true → nat_abs z ≤ 2048
level-abs z = within-abs 2047 2047 z 2048 (omega arith) (omega arith)

pub abs-level : (z : ℤ) → nat_abs z ≤ 2047 → level_fine z ≡ true
abs-level z = abs-within 2047 2047 z 2047 (omega arith) (omega arith)

pub difference-abs : (z : ℤ) → difference_fine z ≡ true → nat_abs z ≤ 4095
difference-abs z = within-abs 4094 4095 z 4095 (omega arith) (omega arith)

pub abs-difference : (z : ℤ) → nat_abs z ≤ 4095 → difference_fine z ≡ true
abs-difference z = abs-within 4094 4095 z 4095 (omega arith) (omega arith)

pub dc-abs : (z : ℤ) → dc_fine z ≡ true → nat_abs z ≤ 65536
dc-abs z = within-abs 65535 65536 z 65536 (omega arith) (omega arith)

pub abs-dc : (z : ℤ) → nat_abs z ≤ 65536 → dc_fine z ≡ true
abs-dc z = abs-within 65535 65536 z 65536 (omega arith) (omega arith)

-- ---- quantiser and depth

module _ (lo hi n : ℕ) where
  leb_range : (leb lo n && leb n hi) ≡ true → (lo ≤ n) × (n ≤ hi)
  leb_range e = let b = both_true (leb lo n) (leb n hi) e in (leb-true lo n b.0, leb-true n hi b.1)

  range_leb : lo ≤ n → n ≤ hi → (leb lo n && leb n hi) ≡ true
  range_leb l h = true_both (le-leb lo n l) (le-leb n hi h)

pub quantiser_range : (q : ℕ) → quantiser_fine q ≡ true → (1 ≤ q) × (q ≤ 31)
quantiser_range = leb_range 1 31

pub range_quantiser : (q : ℕ) → 1 ≤ q → q ≤ 31 → quantiser_fine q ≡ true
range_quantiser = range_leb 1 31

-- a limited one is fine
pub limited-fine : (z : ℤ) → quantiser_fine (limited_quantiser z) ≡ true
limited-fine z =
    let c : ℤ = clamp_z z (pos 1) (pos 31) in
    let l = le_out (clamp_low z (pos 1) (pos 31) (le_in (omega arith))) in
    let h = le_out (clamp_high z (pos 1) (pos 31) (le_in (omega arith))) in
    range_quantiser (nat_abs c) (omega (arith, halves c)) (omega (arith, halves c))

pub depth_range : (d : ℕ) → depth_fine d ≡ true → (4 ≤ d) × (d ≤ 12)
depth_range = leb_range 4 12

pub range_depth : (d : ℕ) → 4 ≤ d → d ≤ 12 → depth_fine d ≡ true
range_depth = range_leb 4 12

-- ---- the limits of b bits, on either side of 0

pub lowest-negative : (b : ℕ) → lowest b <ℤ pos 0
lowest-negative b = lt_in (omega (arith, pow_pos b, neg-up (pos (2 ^ b)), neg-dn (pos (2 ^ b))))

pub highest-not-negative : (b : ℕ) → pos 0 ≤ℤ highest b
highest-not-negative b = le_in (omega (arith, pow_pos b, diff_is (pos (2 ^ b)) (pos 1)))

pub lowest-highest : (b : ℕ) → lowest b ≤ℤ highest b
lowest-highest b = ≤ℤ-trans (<ℤ-≤ℤ (lowest-negative b)) (highest-not-negative b)
