-- Every dequantised value lies within the depth's limits, mismatch control included, and so within 2 ^ 15. Assumes nothing.
use mathlib.Core.Bool.{Bool, true, false, cond, ◌&&◌}
use mathlib.Core.List.{List}
use mathlib.Core.Path.{◌≡◌, refl}
use Prim.Native.Nat.{ℕ, ◌+◌, ◌^◌, ◌%◌, ◌≤◌, ◌<◌}
use native.Mathlib.Omega.{arith}
use lib.IntN.{ℤ, pos, neg_ℤ, nat_abs, ◌+ℤ◌, ◌-ℤ◌}
use lib.Pow.{pow-add, pow_mono, pow_pos}
use lib.Signed.{◌≤ℤ◌}
use borrow.Author.Tests.{eqb-true, eqb-false}
use Rattle.numbers.specs.Grid.{block, cell, cell_n}
use Rattle.numbers.proofs.Fill.{cell-block}
use Rattle.numbers.proofs.Integers.{add_is, diff_is, halves, nat, neg, neg-dn, neg-up, order, zarith, ◌⊝◌}
use Rattle.numbers.proofs.Limits.{clamp_high, clamp_low}
use Rattle.dequantise.specs.declared.context.InverseQuantContext.{InverseQuantContext}
use Rattle.dequantise.specs.Methods.{intra_dc, limited_f, method1, method2}
use Rattle.mismatch.specs.Mismatch.{even, flipped, is_last, mismatched, sum_of}
use Rattle.inverse_quant.specs.Dequantised.{dequantised1, dequantised2, f_prime1, is_dc, value_of1, value_of2}
use Rattle.scan.proofs.BlockLaws.{Square, square-block, each_cell}

-- -2 ^ (depth + 3) ≤ z ≤ 2 ^ (depth + 3) - 1
pub record Limited (depth : ℕ) (z : ℤ) : Type 0 where
  pub low : neg_ℤ (pos (2 ^ (depth + 3))) ≤ℤ z
  pub high : z ≤ℤ (pos (2 ^ (depth + 3)) -ℤ pos 1)

-- 2 ^ (depth + 3) is even, and not 0
top_even : (d : ℕ) → (2 ^ (d + 3) % 2 ≡ 0) × (0 < 2 ^ (d + 3))
top_even d = (omega (arith, pow-add 2 d 3), pow_pos (d + 3))

-- up to depth 12 it is within 2 ^ 15
pub top_small : (d : ℕ) → d ≤ 12 → 2 ^ (d + 3) ≤ 32768
top_small d h = pow_mono {i = d + 3} {j = 15} (omega arith)

pub limited-is : (d : ℕ) (z : ℤ) → Limited d (limited_f d z)
limited-is d z =
    let n : ℕ = 2 ^ (d + 3) in
    let h : neg_ℤ (pos n) ≤ℤ (pos n -ℤ pos 1) = order (neg (nat n)) (nat n ⊝ nat 1) (omega (arith, top_even d)) in
    record { low = clamp_low z (neg_ℤ (pos n)) (pos n -ℤ pos 1) h; high = clamp_high z (neg_ℤ (pos n)) (pos n -ℤ pos 1) h }

-- flipping the lowest bit stays within: the greatest is odd and goes down, the least is even and goes up
limited_flip : (d : ℕ) (z : ℤ) → Limited d z → Limited d (flipped z)
limited_flip d z l = go (even z) refl
  where
    n : ℕ
    n = 2 ^ (d + 3)

    go : (t : Bool) → even z ≡ t → Limited d (cond t (z +ℤ pos 1) (z -ℤ pos 1))
    go true e =
        let p : nat_abs z % 2 ≡ 0 = eqb-true (nat_abs z % 2) 0 e in
        record {
          low = omega (zarith, l.low, add_is z (pos 1));
          high = omega (zarith, l.high, add_is z (pos 1), diff_is (pos n) (pos 1), halves z, halves (pos n -ℤ pos 1), top_even d);
        }
    go false e =
        let p : nat_abs z % 2 ≡ 1 = let f = eqb-false (nat_abs z % 2) 0 e in omega arith in
        record {
          low = omega (zarith, l.low, diff_is z (pos 1), halves z, neg-up (pos n), neg-dn (pos n), top_even d);
          high = omega (zarith, l.high, diff_is z (pos 1));
        }

pub limited-abs : (d : ℕ) (z : ℤ) → d ≤ 12 → Limited d z → nat_abs z ≤ 32768
limited-abs d z h l =
    let n : ℕ = 2 ^ (d + 3) in
    omega (zarith, l.low, l.high, top_small d h, halves z, diff_is (pos n) (pos 1), neg-up (pos n), neg-dn (pos n))

-- ---- every value of F' and of F

-- the cells of F', by method 1 and by method 2
abbrev cells1 : InverseQuantContext → List (List ℕ) → List (List ℤ) → ℕ → ℕ → ℤ
cells1 ctx w qf v u = value_of1 ctx v u (cell qf v u) (cell_n w v u)

abbrev cells2 : InverseQuantContext → List (List ℤ) → ℕ → ℕ → ℤ
cells2 ctx qf v u = value_of2 ctx v u (cell qf v u)

value1_limited : (ctx : InverseQuantContext) (v u : ℕ) (qf : ℤ) (w : ℕ) → Limited ctx.bits_per_pixel (value_of1 ctx v u qf w)
unfolding value_of1
value1_limited ctx v u qf w =
    limited-is ctx.bits_per_pixel
    (cond (is_dc ctx.macroblock_intra v u) (intra_dc qf ctx.component ctx.quantiser_scale ctx.short_video_header) (method1 ctx.macroblock_intra qf w ctx.quantiser_scale))

value2_limited : (ctx : InverseQuantContext) (v u : ℕ) (qf : ℤ) → Limited ctx.bits_per_pixel (value_of2 ctx v u qf)
unfolding value_of2
value2_limited ctx v u qf =
    limited-is ctx.bits_per_pixel
    (cond (is_dc ctx.macroblock_intra v u) (intra_dc qf ctx.component ctx.quantiser_scale ctx.short_video_header) (method2 qf ctx.quantiser_scale))

block-limited : (d : ℕ) (f : ℕ → ℕ → ℤ) → ((v u : ℕ) → v < 8 → u < 8 → Limited d (f v u)) → (v u : ℕ) → v < 8 → u < 8 → Limited d (cell (block f) v u)
block-limited d f h v u p q = rw (cell-block f v u p q) (h v u p q)

f_prime1-limited : (ctx : InverseQuantContext) (w : List (List ℕ)) (qf : List (List ℤ)) (v u : ℕ) → v < 8 → u < 8 → Limited ctx.bits_per_pixel (cell (f_prime1 ctx w qf) v u)
f_prime1-limited ctx w qf =
    block-limited ctx.bits_per_pixel (cells1 ctx w qf) (λ v u p q. value1_limited ctx v u (cell qf v u) (cell_n w v u))

-- mismatch control stays within
mismatched-limited : (d : ℕ) (f : List (List ℤ)) → ((v u : ℕ) → v < 8 → u < 8 → Limited d (cell f v u))
    → (v u : ℕ) → v < 8 → u < 8 → Limited d (cell (mismatched f) v u)
mismatched-limited d f h =
    block-limited d (λ (v u : ℕ). cond (even (sum_of f) && is_last v u) (flipped (cell f v u)) (cell f v u))
    (λ v u p q. go (even (sum_of f) && is_last v u) (cell f v u) (h v u p q))
  where
    go : (t : Bool) (z : ℤ) → Limited d z → Limited d (cond t (flipped z) z)
    go true z l = limited_flip d z l
    go false z l = l

pub dequantised1-limited : (control : Bool) (ctx : InverseQuantContext) (w : List (List ℕ)) (qf : List (List ℤ))
    (v u : ℕ) → v < 8 → u < 8 → Limited ctx.bits_per_pixel (cell (dequantised1 control ctx w qf) v u)
unfolding dequantised1
dequantised1-limited true ctx w qf = mismatched-limited ctx.bits_per_pixel (f_prime1 ctx w qf) (f_prime1-limited ctx w qf)
dequantised1-limited false ctx w qf = f_prime1-limited ctx w qf

pub dequantised2-limited : (ctx : InverseQuantContext) (qf : List (List ℤ)) (v u : ℕ) → v < 8 → u < 8 → Limited ctx.bits_per_pixel (cell (dequantised2 ctx qf) v u)
unfolding dequantised2
dequantised2-limited ctx qf = block-limited ctx.bits_per_pixel (cells2 ctx qf) (λ v u p q. value2_limited ctx v u (cell qf v u))

-- F is eight rows of eight
pub dequantised1-square : (control : Bool) (ctx : InverseQuantContext) (w : List (List ℕ)) (qf : List (List ℤ)) → Square (dequantised1 control ctx w qf)
unfolding dequantised1
dequantised1-square true ctx w qf =
    let f = f_prime1 ctx w qf in
    square-block (λ (v u : ℕ). cond (even (sum_of f) && is_last v u) (flipped (cell f v u)) (cell f v u))
dequantised1-square false ctx w qf = square-block (cells1 ctx w qf)

pub dequantised2-square : (ctx : InverseQuantContext) (qf : List (List ℤ)) → Square (dequantised2 ctx qf)
unfolding dequantised2
dequantised2-square ctx qf = square-block (cells2 ctx qf)

-- so every cell, of a depth up to 12, is within 2 ^ 15
block_small : (d : ℕ) (b : List (List ℤ)) → d ≤ 12 → Square b → ((v u : ℕ) → v < 8 → u < 8 → Limited d (cell b v u)) → (v u : ℕ) → nat_abs (cell b v u) ≤ 32768
block_small d b h s l = each_cell (λ (z : ℤ). nat_abs z ≤ 32768) b s (omega arith) (λ v u p q. limited-abs d (cell b v u) h (l v u p q))

pub dequantised1_small : (control : Bool) (ctx : InverseQuantContext) (w : List (List ℕ)) (qf : List (List ℤ)) → ctx.bits_per_pixel ≤ 12
    → (v u : ℕ) → nat_abs (cell (dequantised1 control ctx w qf) v u) ≤ 32768
dequantised1_small control ctx w qf h =
    block_small ctx.bits_per_pixel (dequantised1 control ctx w qf) h (dequantised1-square control ctx w qf) (dequantised1-limited control ctx w qf)

pub dequantised2_small : (ctx : InverseQuantContext) (qf : List (List ℤ)) → ctx.bits_per_pixel ≤ 12 → (v u : ℕ) → nat_abs (cell (dequantised2 ctx qf) v u) ≤ 32768
dequantised2_small ctx qf h = block_small ctx.bits_per_pixel (dequantised2 ctx qf) h (dequantised2-square ctx qf) (dequantised2-limited ctx qf)

pub f_prime1_small : (ctx : InverseQuantContext) (w : List (List ℕ)) (qf : List (List ℤ)) → ctx.bits_per_pixel ≤ 12 → (v u : ℕ) → nat_abs (cell (f_prime1 ctx w qf) v u) ≤ 32768
unfolding dequantised1
f_prime1_small = dequantised1_small false
