-- A block by rows: its values are within 2 ^ 15, and the first value and the last, put over it, make F' and F. Assumes nothing.
use mathlib.Core.Bool.{Bool, true, false, cond, not}
use mathlib.Core.List.{List, []}
use mathlib.Core.Logic.{⊎_elim}
use mathlib.Core.Path.{◌≡◌, refl, ap, sym, ◌∙◌}
use Prim.Native.Nat.{ℕ, ◌≤◌, ◌<◌}
use native.Mathlib.Omega.{arith}
use lib.IntN.{ℤ, pos, nat_abs, ◌+ℤ◌, ◌-ℤ◌}
use lib.ListN.{get_or, length, set, get_or-eq_default}
use lib.Seq.{set-get_or}
use Rattle.numbers.specs.Grid.{block, build, cell}
use Rattle.numbers.proofs.Fill.{cell-block, get_or-build, length-build, lt-or-le}
use Rattle.numbers.proofs.Integers.{add_is, diff_is, zarith}
use Rattle.scan.proofs.BlockLaws.{Square, each_cell, square-block}
use Rattle.dequantise.specs.Methods.{intra_dc, limited_f, method1}
use Rattle.mismatch.specs.Mismatch.{even, last_value, mismatched, sum_of}
use Rattle.inverse_quant.specs.ByRows.{first_value, row_by1, row_by2, rows_by1, rows_by2, ValuesRow}
use Rattle.inverse_quant.specs.Dequantised.{f_prime1, f_prime2}
use Rattle.dequantise.specs.declared.context.InverseQuantContext.{InverseQuantContext}
use Rattle.inverse_quant.proofs.BlockSums.{sum-changed}
use Rattle.inverse_quant.proofs.DcLaws.{all1, all2, dc_rule, rule1, with1, with2, without1, without2}
use Rattle.inverse_quant.proofs.LimitLaws.{limited-abs, limited-is}
use Rattle.inverse_quant.proofs.MismatchLaws.{mismatched-even, mismatched-odd}

abbrev pub put : List (List ℤ) → ℕ → ℕ → ℤ → List (List ℤ)
put b v u x = set b v (set (get_or b v []) u x)

-- a cell changed to what it is
same-cell : (b : List (List ℤ)) (v u : ℕ) → put b v u (cell b v u) ≡ b
same-cell b v u = ap (λ (r : List ℤ). set b v r) (set-get_or (get_or b v []) u (pos 0)) ∙ set-get_or b v []

-- ---- a row

-- what is limited is small
limited-row : (d : ℕ) (rule : ℕ → ℤ) → d ≤ 12 → ValuesRow (build 8 (λ (u : ℕ). limited_f d (rule u)))
limited-row d rule h u =
    let f : ℕ → ℤ = λ (k : ℕ). limited_f d (rule k) in
    ⊎_elim (λ (p : u < 8). rw (get_or-build 8 f u (pos 0) p) (limited-abs d (f u) h (limited-is d (rule u))))
    (λ (p : 8 ≤ u). rw (get_or-eq_default (build 8 f) (pos 0) {n = u} (omega (arith, length-build 8 f))) (omega arith))
    (lt-or-le u 8)

pub values_row1 : (ctx : InverseQuantContext) (w : List ℕ) (row : List ℤ) → ctx.bits_per_pixel ≤ 12 → ValuesRow (row_by1 ctx w row)
unfolding row_by1
values_row1 ctx w row = limited-row ctx.bits_per_pixel (λ (u : ℕ). method1 ctx.macroblock_intra (get_or row u (pos 0)) (get_or w u 0) ctx.quantiser_scale)

pub long_row1 : (ctx : InverseQuantContext) (w : List ℕ) (row : List ℤ) → length (row_by1 ctx w row) ≡ 8
unfolding row_by1
long_row1 ctx w row = length-build 8 _

-- ---- the first value

pub first_small : (ctx : InverseQuantContext) (level value : ℤ) → ctx.bits_per_pixel ≤ 12 → nat_abs value ≤ 32768 → nat_abs (first_value ctx level value) ≤ 32768
first_small ctx level value h k = go ctx.macroblock_intra
  where
    d : ℕ
    d = ctx.bits_per_pixel

    dc : ℤ
    dc = intra_dc level ctx.component ctx.quantiser_scale ctx.short_video_header

    go : (t : Bool) → nat_abs (cond t (limited_f d dc) value) ≤ 32768
    go true = limited-abs d (limited_f d dc) h (limited-is d dc)
    go false = k

module _ (ctx : InverseQuantContext) (w : List (List ℕ)) (qf : List (List ℤ)) where
  -- every row is method 1 at every place
  rows_all1 : rows_by1 ctx w qf ≡ block (all1 ctx qf w)
  unfolding row_by1
  rows_all1 = refl

  pub square1 : Square (rows_by1 ctx w qf)
  square1 = rw rows_all1 (square-block (all1 ctx qf w))

  pub rows_small1 : ctx.bits_per_pixel ≤ 12 → (v u : ℕ) → nat_abs (cell (rows_by1 ctx w qf) v u) ≤ 32768
  unfolding row_by1
  rows_small1 h =
      each_cell (λ (z : ℤ). nat_abs z ≤ 32768) (block (all1 ctx qf w)) (square-block (all1 ctx qf w)) (omega arith)
      (λ v u p q. rw (cell-block (all1 ctx qf w) v u p q) (limited-abs ctx.bits_per_pixel (all1 ctx qf w v u) h (limited-is ctx.bits_per_pixel (rule1 ctx qf w v u))))

  -- the first value makes F'
  pub first_put1 : let b = rows_by1 ctx w qf in put b 0 0 (first_value ctx (cell qf 0 0) (cell b 0 0)) ≡ f_prime1 ctx w qf
  first_put1 = go ctx.macroblock_intra refl
    where
      go : (t : Bool) → ctx.macroblock_intra ≡ t
          → let b = rows_by1 ctx w qf in put b 0 0 (cond t (limited_f ctx.bits_per_pixel (dc_rule ctx qf 0 0)) (cell b 0 0)) ≡ f_prime1 ctx w qf
      go true e = with1 ctx qf w e (rows_by1 ctx w qf) rows_all1
      go false e = same-cell (rows_by1 ctx w qf) 0 0 ∙ rows_all1 ∙ without1 ctx qf w e

-- the same by method 2
module _ (ctx : InverseQuantContext) (qf : List (List ℤ)) where
  rows_all2 : rows_by2 ctx qf ≡ block (all2 ctx qf)
  unfolding row_by2
  rows_all2 = refl

  pub first_put2 : let b = rows_by2 ctx qf in put b 0 0 (first_value ctx (cell qf 0 0) (cell b 0 0)) ≡ f_prime2 ctx qf
  first_put2 = go ctx.macroblock_intra refl
    where
      go : (t : Bool) → ctx.macroblock_intra ≡ t
          → let b = rows_by2 ctx qf in put b 0 0 (cond t (limited_f ctx.bits_per_pixel (dc_rule ctx qf 0 0)) (cell b 0 0)) ≡ f_prime2 ctx qf
      go true e = with2 ctx qf e (rows_by2 ctx qf) rows_all2
      go false e = same-cell (rows_by2 ctx qf) 0 0 ∙ rows_all2 ∙ without2 ctx qf e

-- ---- the sum and the last value

-- odd is asked for even, so the arms change places
turned : (t : Bool) (x y : ℤ) → cond (not t) x y ≡ cond t y x
turned true x y = refl
turned false x y = refl

module _ (b : List (List ℤ)) (s : Square b) where
  -- the sum, with the first value in the place of what stood there
  pub sum_put : (x : ℤ) → ((sum_of b -ℤ cell b 0 0) +ℤ x) ≡ sum_of (put b 0 0 x)
  sum_put x =
      let e : (sum_of (put b 0 0 x) +ℤ cell b 0 0) ≡ (sum_of b +ℤ x) = sum-changed b s 0 0 (omega arith) (omega arith) x in
      omega (zarith, add_is (sum_of (put b 0 0 x)) (cell b 0 0), add_is (sum_of b) x, diff_is (sum_of b) (cell b 0 0), add_is (sum_of b -ℤ cell b 0 0) x)

  -- the last value makes F
  pub last_put : (control : Bool) → put b 7 7 (last_value control (sum_of b) (cell b 7 7)) ≡ cond control (mismatched b) b
  last_put false = same-cell b 7 7
  last_put true = go (even (sum_of b)) refl
    where
      z : ℤ
      z = cell b 7 7

      go : (t : Bool) → even (sum_of b) ≡ t → put b 7 7 (cond (not t) z (cond (not (even z)) (z -ℤ pos 1) (z +ℤ pos 1))) ≡ mismatched b
      go false e = same-cell b 7 7 ∙ sym (mismatched-odd b s e)
      go true e = ap (put b 7 7) (turned (even z) (z -ℤ pos 1) (z +ℤ pos 1)) ∙ sym (mismatched-even b s e)
