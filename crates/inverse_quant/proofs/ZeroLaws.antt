-- A row of zeros: a running OR finds it, and either method gives zeros of it. Assumes nothing.
use mathlib.Core.Bool.{Bool, true, false, ◌&&◌}
use mathlib.Core.List.{List}
use mathlib.Core.Path.{◌≡◌, refl, ap, sym, ◌∙◌}
use Prim.Native.Nat.{ℕ, ◌+◌, ◌<◌}
use native.Mathlib.Omega.{arith}
use lib.Bits.{bit_and, bit_or, and_le_r, or_add_and, or_zero_l}
use lib.Dec.{eqb}
use lib.IntN.{ℤ, pos, nat_abs}
use lib.ListN.{get_or}
use mir.Syntax.{w32}
use mir.Val.{SFits, of_z}
use borrow.Author.Tests.{eq-eqb, eqb-true, eqb-false, ne_eqb}
use Rattle.numbers.specs.Every.{every}
use Rattle.numbers.specs.Grid.{build}
use Rattle.numbers.specs.Sum.{sum_z}
use Rattle.numbers.proofs.Every.{every_get}
use Rattle.numbers.proofs.Fill.{build-eq}
use Rattle.numbers.proofs.Integers.{<ℤ-≤ℤ}
use Rattle.numbers.proofs.Limits.{clamp_inside}
use Rattle.numbers.proofs.Magnitudes.{zero_of_abs}
use Rattle.numbers.proofs.Words.{nonzero_abs, zero-abs}
use Rattle.ranges.proofs.RangeLaws.{highest-not-negative, lowest-negative}
use Rattle.ranges.specs.Range.{highest, lowest}
use Rattle.dequantise.specs.Methods.{limited_f, method1, method2}
use Rattle.inverse_quant.specs.ByRows.{is_zero, row_by1, row_by2, zeros}
use Rattle.dequantise.specs.declared.context.InverseQuantContext.{InverseQuantContext}

-- ---- the test

-- an OR is 0 where both are
pub or-zero : (a b : ℕ) → (eqb a 0 && eqb b 0) ≡ eqb (bit_or a b) 0
or-zero a b = go (eqb a 0) refl
  where
    go : (t : Bool) → eqb a 0 ≡ t → (t && eqb b 0) ≡ eqb (bit_or a b) 0
    go true e = rw (eqb-true a 0 e, or_zero_l b)
    go false e = sym (ne_eqb (bit_or a b) 0 (λ z. eqb-false a 0 e (both z)))
      where
        both : bit_or a b ≡ 0 → a ≡ 0
        both z =
            let s : bit_or a b + bit_and a b ≡ a + b = or_add_and a b in
            omega (arith, and_le_r a b)

-- the bits of a number are 0 where it is
pub bits-zero : (z : ℤ) → SFits w32 z → eqb (of_z w32 z) 0 ≡ is_zero z
bits-zero z f = go (eqb (of_z w32 z) 0) refl
  where
    go : (t : Bool) → eqb (of_z w32 z) 0 ≡ t → t ≡ is_zero z
    go true e = sym (eq-eqb (nat_abs z) 0 (zero-abs f (eqb-true (of_z w32 z) 0 e)))
    go false e = sym (ne_eqb (nat_abs z) 0 (nonzero_abs w32 z (eqb-false (of_z w32 z) 0 e)))

-- ---- what it gives

limited-zero : (d : ℕ) → limited_f d (pos 0) ≡ pos 0
limited-zero d = clamp_inside (pos 0) (lowest (d + 3)) (highest (d + 3)) (<ℤ-≤ℤ (lowest-negative (d + 3))) (highest-not-negative (d + 3))

module _ (row : List ℤ) (h : every is_zero row ≡ true) where
  each_zero : (u : ℕ) → get_or row u (pos 0) ≡ pos 0
  each_zero u =
      let z = get_or row u (pos 0) in
      zero_of_abs z (eqb-true (nat_abs z) 0 (every_get is_zero (pos 0) refl row h u))

  pub zero_row1 : (ctx : InverseQuantContext) (w : List ℕ) → zeros ≡ row_by1 ctx w row
  unfolding row_by1
  zero_row1 ctx w =
      let d = ctx.bits_per_pixel in
      let rule : ℤ → ℕ → ℤ = λ (z : ℤ) (u : ℕ). limited_f d (method1 ctx.macroblock_intra z (get_or w u 0) ctx.quantiser_scale) in
      build-eq 8 (λ (u : ℕ). pos 0) (λ (u : ℕ). rule (get_or row u (pos 0)) u)
      (λ (u : ℕ) (l : u < 8). sym (ap (λ (z : ℤ). rule z u) (each_zero u) ∙ limited-zero d))

  pub zero_row2 : (ctx : InverseQuantContext) → zeros ≡ row_by2 ctx row
  unfolding row_by2
  zero_row2 ctx =
      let d = ctx.bits_per_pixel in
      let rule : ℤ → ℤ = λ (z : ℤ). limited_f d (method2 z ctx.quantiser_scale) in
      build-eq 8 (λ (u : ℕ). pos 0) (λ (u : ℕ). rule (get_or row u (pos 0)))
      (λ (u : ℕ) (l : u < 8). sym (ap rule (each_zero u) ∙ limited-zero d))

pub sum_zeros : pos 0 ≡ sum_z zeros
unfolding sum_z build
sum_zeros = refl
