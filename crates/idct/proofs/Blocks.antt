-- A pass sees its eight inputs only, zeros give zeros, and a row of zeros changes no sum. Assumes nothing.
use mathlib.Core.Bool.{false}
use mathlib.Core.List.{List, []}
use mathlib.Core.Path.{◌≡◌, refl, sym, ap, ◌∙◌}
use Prim.Native.Nat.{ℕ, zero, suc, ◌+◌, ◌≤◌, ◌<◌}
use native.Mathlib.Nat.{le_trans, le_refl, le-suc}
use native.Mathlib.Numerals.{add-one}
use native.Mathlib.Omega.{arith}
use lib.Dec.{T, eqb→eq}
use lib.Ieee.{Float, nan, binary64, add, mul, of_int, of_bits}
use lib.Ieee.Fits.{mul-fits}
use lib.IntN.{ℤ, pos, nat_abs}
use lib.ListN.{get_or}
use Rattle.numbers.proofs.Every.{every_at}
use Rattle.numbers.specs.Every.{every}
use Rattle.numbers.proofs.Fill.{build-eq, get_or-build}
use Rattle.numbers.proofs.Magnitudes.{zero_of_abs}
use Rattle.numbers.specs.Grid.{block, build, cell}
use Rattle.f64_error.proofs.Zeros.{Nought, nought_left, nought_right, series_none, series_rest}
use Rattle.f64_error.specs.Series.{half, pass, series_f}
use Rattle.rounding.proofs.Literals.{zero_bits}
use Rattle.cosines.specs.Cosines.{cos_f, c_f}
use Rattle.cosines.proofs.Tables.{c_const, cos_const}
use Rattle.eights.specs.Eights.{row_in}
use Rattle.exact_transform.specs.EvenOdd.{cell_f, is_zero}
use Rattle.idct.specs.ShortWays.{idct1d, row_at, row_terms, sum_of_rows}

pub series_ext : (t s : ℕ → Float) (n : ℕ) → ((i : ℕ) → i < n → t i ≡ s i) → series_f t n ≡ series_f s n
unfolding series_f
series_ext t s zero h = refl
series_ext t s (suc n) h = ap (λ (a : Float). add binary64 a (t n)) (series_ext t s n (λ i l. h i (le_trans l (le-suc n)))) ∙ ap (λ (b : Float). add binary64 (series_f s n) b) (h n (le_refl (suc n)))

pub pass_ext : (x z k : ℕ → Float) → ((i : ℕ) → i < 8 → x i ≡ z i) → pass c_f x k ≡ pass c_f z k
pass_ext x z k h =
    ap (λ (a : Float). mul binary64 half a)
    (series_ext (λ i. mul binary64 (mul binary64 (c_f i) (x i)) (k i)) (λ i. mul binary64 (mul binary64 (c_f i) (z i)) (k i)) 8
    (λ i l. ap (λ (a : Float). mul binary64 (mul binary64 (c_f i) a) (k i)) (h i l)))

-- the 1-D transform of a list by its elements
pub idct1d-build : (g : ℕ → Float) → idct1d (build 8 g) ≡ build 8 (λ (x : ℕ). pass c_f g (λ (u : ℕ). cos_f u x))
idct1d-build g =
    build-eq 8 (λ (x : ℕ). pass c_f (λ (u : ℕ). get_or (build 8 g) u nan) (λ (u : ℕ). cos_f u x)) (λ (x : ℕ). pass c_f g (λ (u : ℕ). cos_f u x))
    (λ (x : ℕ) (h : x < 8). pass_ext (λ (u : ℕ). get_or (build 8 g) u nan) g (λ (u : ℕ). cos_f u x) (λ (u : ℕ) (l : u < 8). get_or-build 8 g u nan l))

-- ---- zeros

-- the inputs from n on are zeros
pub pass-rest : (g : ℕ → Float) (x n : ℕ) → n ≤ 8 → ((u : ℕ) → n ≤ u → u < 8 → Nought (g u))
    → pass c_f g (λ (u : ℕ). cos_f u x) ≡ mul binary64 half (series_f (λ (u : ℕ). mul binary64 (mul binary64 (c_f u) (g u)) (cos_f u x)) n)
pass-rest g x n l h =
    ap (λ (a : Float). mul binary64 half a)
    (series_rest (λ (u : ℕ). mul binary64 (mul binary64 (c_f u) (g u)) (cos_f u x)) (λ (u : ℕ). mul-fits binary64 (mul binary64 (c_f u) (g u)) (cos_f u x)) n 8 l
    (λ (u : ℕ) (a : n ≤ u) (b : u < 8).
    let c = c_const u in
    let k = cos_const u x in
    nought_left (mul binary64 (c_f u) (g u)) (cos_f u x) k.w (nought_right (c_f u) (g u) c.w c.is (h u a b)) k.is))

pub int_nought : (z : ℤ) → z ≡ pos 0 → Nought (of_int binary64 z)
unfolding of_int
int_nought z e = (false, pos 0, ap (of_int binary64) e)

pub zero-pass : (g : ℕ → Float) (x : ℕ) → ((u : ℕ) → u < 8 → Nought (g u)) → pass c_f g (λ (u : ℕ). cos_f u x) ≡ of_bits binary64 0
unfolding series_f mul of_bits
zero-pass g x h = pass-rest g x 0 (omega arith) (λ (u : ℕ) (a : 0 ≤ u) (b : u < 8). h u b)

-- ---- the second pass, row after row

pub cell_f-block : (f : ℕ → ℕ → Float) (v u : ℕ) → v < 8 → u < 8 → cell_f (block f) v u ≡ f v u
cell_f-block f v u p q = ap (λ (r : List Float). get_or r u nan) (get_or-build 8 (λ (i : ℕ). build 8 (f i)) v [] p) ∙ get_or-build 8 (f v) u nan q

-- the terms of a row, as the program makes them
pub row_terms_lem : (row : List ℤ) (v : ℕ) (input transformed terms : List Float) (k : Float) → input ≡ row_in row → transformed ≡ idct1d input → k ≡ c_f v
    → terms ≡ build 8 (λ (x : ℕ). mul binary64 k (get_or transformed x nan)) → terms ≡ row_terms row v
row_terms_lem row v input transformed terms k a b c e =
    e
    ∙ build-eq 8 (λ (x : ℕ). mul binary64 k (get_or transformed x nan)) (λ (x : ℕ). mul binary64 (c_f v) (pass c_f (λ (u : ℕ). of_int binary64 (get_or row u (pos 0))) (λ (u : ℕ). cos_f u x)))
    (λ (x : ℕ) (h : x < 8).
    ap (λ (y : Float). mul binary64 y (get_or transformed x nan)) c
    ∙ ap (λ (y : List Float). mul binary64 (c_f v) (get_or y x nan)) (b ∙ ap idct1d a ∙ idct1d-build (λ (u : ℕ). of_int binary64 (get_or row u (pos 0))))
    ∙ ap (mul binary64 (c_f v)) (get_or-build 8 (λ (x : ℕ). pass c_f (λ (u : ℕ). of_int binary64 (get_or row u (pos 0))) (λ (u : ℕ). cos_f u x)) x nan h))

module _ (l : List (List ℤ)) where
  abbrev row_term : ℕ → ℕ → ℕ → Float
  row_term y x v = mul binary64 (mul binary64 (c_f v) (row_at l v x)) (cos_f v y)

  -- a row of zeros changes no sum
  pub row-skipped : (v y x : ℕ) → T (every is_zero (get_or l v [])) → sum_of_rows l v y x ≡ sum_of_rows l (v + 1) y x
  row-skipped v y x t =
      let c = c_const v in
      let k = cos_const v y in
      sym (series_none (row_term y x) (λ (i : ℕ). mul-fits binary64 (mul binary64 (c_f i) (row_at l i x)) (cos_f i y)) v
      (nought_left (mul binary64 (c_f v) (row_at l v x)) (cos_f v y) k.w (nought_right (c_f v) (row_at l v x) c.w c.is (false, pos 0, zero_row ∙ zero_bits)) k.is))
      ∙ ap (λ (n : ℕ). sum_of_rows l n y x) (sym (add-one v))
    where
      zero_row : row_at l v x ≡ of_bits binary64 0
      zero_row =
          zero-pass (λ (u : ℕ). of_int binary64 (cell l v u)) x
          (λ (u : ℕ) (h : u < 8). int_nought (cell l v u) (zero_of_abs (cell l v u) (eqb→eq (nat_abs (cell l v u)) 0 (every_at is_zero (pos 0) (get_or l v []) tt t u))))
