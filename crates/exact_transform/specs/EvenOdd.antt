-- The passes with the terms of even and of odd places added apart, over the rows that are kept: those with a value that is not zero. Definitions only.
use Rattle.std.specs.Prelude.{Bool, false, List, [], ◌≡◌, ℕ, ◌+◌, ◌*◌, ◌≤◌, ◌<◌, T, eqb, Float, ℤ, nat_abs, negsuc, pos, get_or, length}
use Rattle.std.specs.Float.{nan, binary64, fin}
use Rattle.std.specs.Float.Ieee.{mul, of_int}
use Rattle.numbers.specs.Every.{every}
use Rattle.numbers.specs.Grid.{build}
use Rattle.f64_error.specs.Series.{series_f, series_z}
use Rattle.cosines.specs.Cosines.{c_f, cos_f}
use Rattle.eights.specs.Eights.{both_at}

abbrev pub cell_f : List (List Float) → ℕ → ℕ → Float
cell_f b v u = get_or (get_or b v []) u nan

abbrev pub is_zero : ℤ → Bool
is_zero z = eqb (nat_abs z) 0

-- ---- the first pass

-- the sum at x of the first n terms of a row at 2 k + p
abbrev pub half_sum : List ℤ → ℕ → ℕ → ℕ → Float
half_sum row p n x = series_f (λ (k : ℕ). mul binary64 (mul binary64 (c_f (2 * k + p)) (of_int binary64 (get_or row (2 * k + p) (pos 0)))) (cos_f (2 * k + p) x)) n

-- 0.25
abbrev pub quarter : Float
quarter = fin false 1 (negsuc 1)

-- row v transformed, with the factor C(v) / 4 of both passes
abbrev pub paired_at : List ℤ → ℕ → ℕ → Float
paired_at row v x = mul binary64 (mul binary64 quarter (c_f v)) (both_at (half_sum row 0 4) (half_sum row 1 4) x)

-- of the first k rows 2 i + p of l, n were kept: what is zero for a row of zeros adds up over them as over all
pub record Half (p : ℕ) (l : List (List ℤ)) (k : ℕ) (terms : List (List Float)) (which : List ℕ) (n : ℕ) : Type 0 where
  pub few : n ≤ k
  pub long : length terms ≡ 4
  pub wide : length which ≡ 4
  pub below : (j : ℕ) → j < n → get_or which j 0 < 8
  pub rows : (j : ℕ) → j < n → get_or terms j [] ≡ build 8 (paired_at (get_or l (get_or which j 0) []) (get_or which j 0))
  pub sums : (g : ℕ → ℤ) → ((v : ℕ) → T (every is_zero (get_or l v [])) → g v ≡ pos 0) → series_z (λ (j : ℕ). g (get_or which j 0)) n ≡ series_z (λ (i : ℕ). g (2 * i + p)) k

-- ---- the second pass

-- at row y and column x the sum of the terms of the first n rows that are kept, which are the rows `which` of the coefficients
abbrev pub sum_of_kept : List (List Float) → List ℕ → ℕ → ℕ → ℕ → Float
sum_of_kept terms which n y x = series_f (λ (j : ℕ). mul binary64 (cell_f terms j x) (cos_f (get_or which j 0) y)) n

-- the value at row y and column x, out of the terms of the even and of the odd rows that are kept
abbrev pub value_of_both : List (List Float) → List ℕ → ℕ → List (List Float) → List ℕ → ℕ → ℕ → ℕ → Float
value_of_both evens even m odds odd n y x = both_at (λ (i : ℕ). sum_of_kept evens even m i x) (λ (i : ℕ). sum_of_kept odds odd n i x) y
