-- A DC alone: each pass sees one value and seven zeros, and its cosines are 1 at every place. Assumes nothing.
use mathlib.Core.Bool.{Bool, cond, false, ◌&&◌}
use mathlib.Core.Path.{◌≡◌, sym, ap, ◌∙◌, subst}
use Prim.Native.Nat.{ℕ, ◌+◌, ◌*◌, ◌%◌, ◌≤◌, ◌<◌}
use native.Mathlib.Nat.{mul-zero}
use native.Mathlib.Omega.{arith}
use lib.Dec.{eqb}
use lib.Ieee.{Float, fin, binary64, add, mul, of_bits, of_int}
use lib.IntN.{ℤ, pos}
use borrow.Author.Tests.{ne_eqb}
use Rattle.numbers.proofs.Fill.{block-eq, cell-block}
use Rattle.numbers.specs.Grid.{block, cell}
use Rattle.numbers.specs.Limit.{clamp_z}
use Rattle.f64_error.proofs.Zeros.{Nought}
use Rattle.f64_error.specs.Series.{half, pass, series_f}
use Rattle.rounding.specs.Near.{Roundable}
use Rattle.rounding.specs.Rounding.{whole_of}
use Rattle.rounding.specs.declared.HalfIntegerRounding.{HalfIntegerRounding}
use Rattle.rounding.proofs.Literals.{half-bits, zero_bits}
use Rattle.cosines.specs.Cosines.{by_turn_f, cos_f, c_f}
use Rattle.exact_transform.specs.Exact.{Modest}
use Rattle.exact_transform.specs.Transform.{computed, whole}
use Rattle.exact_transform.proofs.Bounds.{bounded}
use Rattle.idct.specs.Clipped.{dc_block}
use Rattle.idct.specs.ShortWays.{dc_pass, samples_in}
use Rattle.idct.proofs.Blocks.{int_nought, pass-rest, zero-pass}

-- ---- a pass over one value and seven zeros

cos-one : (x : ℕ) → cos_f 0 x ≡ cos_f 0 0
cos-one x = ap (λ (m : ℕ). by_turn_f (m % 32)) (mul-zero (2 * x + 1))

dc-pass : (g : ℕ → Float) (x : ℕ) → ((u : ℕ) → 1 ≤ u → u < 8 → Nought (g u)) → pass c_f g (λ (u : ℕ). cos_f u x) ≡ dc_pass (g 0)
unfolding series_f
dc-pass g x h =
    pass-rest g x 1 (omega arith) h
    ∙ ap (λ (k : Float). mul binary64 half (add binary64 (fin false 0 (pos 0)) (mul binary64 (mul binary64 (c_f 0) (g 0)) k))) (cos-one x)

-- the same, as the program has it
pub dc-pass-is : (c value : Float) → c ≡ c_f 0 → mul binary64 (of_bits binary64 4602678819172646912) (add binary64 (of_bits binary64 0) (mul binary64 (mul binary64 c value) (of_bits binary64 4607182418800017408))) ≡ dc_pass value
unfolding by_turn_f
dc-pass-is c value e =
    let term = mul binary64 (mul binary64 c value) (of_bits binary64 4607182418800017408) in
    ap (λ (a : Float). mul binary64 a (add binary64 (of_bits binary64 0) term)) half-bits
    ∙ ap (λ (a : Float). mul binary64 half (add binary64 a term)) zero_bits
    ∙ ap (λ (a : Float). mul binary64 half (add binary64 (fin false 0 (pos 0)) (mul binary64 (mul binary64 a value) (of_bits binary64 4607182418800017408)))) e

-- ---- the cells of such a block

module _ (dc : ℤ) where
  dc-cell : cell (dc_block dc) 0 0 ≡ dc
  unfolding dc_block
  dc-cell = cell-block (λ (v u : ℕ). cond (eqb v 0 && eqb u 0) dc (pos 0)) 0 0 (omega arith) (omega arith)

  row_zero : (u : ℕ) → 1 ≤ u → u < 8 → cell (dc_block dc) 0 u ≡ pos 0
  unfolding dc_block
  row_zero u a b =
      cell-block (λ (v u : ℕ). cond (eqb v 0 && eqb u 0) dc (pos 0)) 0 u (omega arith) b
      ∙ ap (λ (t : Bool). cond t dc (pos 0)) (ne_eqb u 0 (λ (z : u ≡ 0). omega arith))

  rows-zero : (v u : ℕ) → 1 ≤ v → v < 8 → u < 8 → cell (dc_block dc) v u ≡ pos 0
  unfolding dc_block
  rows-zero v u a b h =
      cell-block (λ (v u : ℕ). cond (eqb v 0 && eqb u 0) dc (pos 0)) v u b h
      ∙ ap (λ (t : Bool). cond (t && eqb u 0) dc (pos 0)) (ne_eqb v 0 (λ (z : v ≡ 0). omega arith))

  -- ---- the value at every place

  abbrev pub dc_value : Float
  dc_value = dc_pass (dc_pass (of_int binary64 dc))

  -- as the program makes it
  pub dc_value_lem : (z : ℤ) (one two : Float) → z ≡ dc → one ≡ dc_pass (of_int binary64 z) → two ≡ dc_pass one → two ≡ dc_value
  dc_value_lem z one two h a b = b ∙ ap dc_pass (a ∙ ap (λ (w : ℤ). dc_pass (of_int binary64 w)) h)

  dc-computed : (y x : ℕ) → computed (dc_block dc) y x ≡ dc_value
  dc-computed y x =
      let l = dc_block dc in
      dc-pass (λ (v : ℕ). pass c_f (λ (u : ℕ). of_int binary64 (cell l v u)) (λ (u : ℕ). cos_f u x)) y
      (λ (v : ℕ) (a : 1 ≤ v) (b : v < 8).
      (false, pos 0, zero-pass (λ (u : ℕ). of_int binary64 (cell l v u)) x (λ (u : ℕ) (m : u < 8). int_nought (cell l v u) (rows-zero v u a b m)) ∙ zero_bits))
      ∙ ap dc_pass (dc-pass (λ (u : ℕ). of_int binary64 (cell l 0 u)) x (λ (u : ℕ) (a : 1 ≤ u) (b : u < 8). int_nought (cell l 0 u) (row_zero u a b)))
      ∙ ap (λ (z : ℤ). dc_pass (dc_pass (of_int binary64 z))) dc-cell

  pub dc_bounded : (value : Float) → Modest (dc_block dc) → value ≡ dc_value → Roundable value
  dc_bounded value m e = subst Roundable (dc-computed 0 0 ∙ sym e) (bounded (dc_block dc) m 0 0 (omega arith) (omega arith))

  pub dc-samples-are : (lo hi : ℤ) (rounding : HalfIntegerRounding) (value : Float) (sample : ℤ) → value ≡ dc_value → sample ≡ clamp_z (whole_of rounding value) lo hi → block (λ (y x : ℕ). sample) ≡ samples_in rounding lo hi (dc_block dc)
  unfolding whole
  dc-samples-are lo hi rounding value sample e h =
      block-eq (λ (y x : ℕ). sample) (λ (y x : ℕ). clamp_z (whole_of rounding (computed (dc_block dc) y x)) lo hi)
      (λ (y x : ℕ) (p : y < 8) (q : x < 8). h ∙ ap (λ (z : Float). clamp_z (whole_of rounding z) lo hi) (e ∙ sym (dc-computed y x)))
