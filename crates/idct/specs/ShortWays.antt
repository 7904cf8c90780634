-- Inside the crate: what the contracts of its inner functions say of the parts and the shorter ways of the transform. Definitions only.
use Rattle.std.specs.Prelude.{false, true, List, [], ◌≡◌, ℕ, ◌+◌, ◌*◌, ◌≤◌, ◌<◌, T, Float, ℤ, pos, nat_abs, get_or, length, None, Option, Some}
use Rattle.std.specs.Float.{fin, nan, binary64}
use Rattle.std.specs.Float.Ieee.{add, in_signed, mul, of_int, to_signed}
use Rattle.numbers.specs.Every.{every}
use Rattle.numbers.specs.Grid.{build, block, cell}
use Rattle.numbers.specs.Limit.{clamp_z}
use Rattle.ranges.specs.Range.{within}
use Rattle.f64_error.specs.Series.{half, pass, series_f}
use Rattle.rounding.specs.declared.HalfIntegerRounding.{HalfIntegerRounding}
use Rattle.cosines.specs.Cosines.{c_f, cos_f}
use Rattle.exact_transform.specs.EvenOdd.{Half, sum_of_kept}
use Rattle.exact_transform.specs.Transform.{whole}

-- x is a whole number that an i32 holds, at most 2 ^ 20 in size
abbrev pub Castable : Float → Type 0
Castable x = T (in_signed binary64 31 x) × (nat_abs (to_signed 31 x) ≤ 1048576)

-- ---- passes

-- the 1-D transform: at x half the sum over u of C(u) F(u) cos((2x + 1) u pi / 16)
abbrev pub idct1d : List Float → List Float
idct1d input = build 8 (λ (x : ℕ). pass c_f (λ (u : ℕ). get_or input u nan) (λ (u : ℕ). cos_f u x))

-- the 1-D transform of v and seven zeros, which is the same at every x
abbrev pub dc_pass : Float → Float
dc_pass v = mul binary64 half (add binary64 (fin false 0 (pos 0)) (mul binary64 (mul binary64 (c_f 0) v) (cos_f 0 0)))

-- row v transformed, at x; and a row with its factor C(v)
abbrev pub row_at : List (List ℤ) → ℕ → ℕ → Float
row_at l v x = pass c_f (λ (u : ℕ). of_int binary64 (cell l v u)) (λ (u : ℕ). cos_f u x)

abbrev pub row_terms : List ℤ → ℕ → List Float
row_terms row v = build 8 (λ (x : ℕ). mul binary64 (c_f v) (pass c_f (λ (u : ℕ). of_int binary64 (get_or row u (pos 0))) (λ (u : ℕ). cos_f u x)))

-- at row y and column x the sum of the terms of the first n rows: half of it, for 8 rows, is `computed`
abbrev pub sum_of_rows : List (List ℤ) → ℕ → ℕ → ℕ → Float
sum_of_rows l n y x = series_f (λ (v : ℕ). mul binary64 (mul binary64 (c_f v) (row_at l v x)) (cos_f v y)) n

-- ---- the rows that are kept: those with a value that is not zero

-- half of the sum of their terms at row y and column x, which is the value there where all are added
abbrev pub half_of_kept : List (List Float) → List ℕ → ℕ → ℕ → ℕ → Float
half_of_kept terms which n y x = mul binary64 half (sum_of_kept terms which n y x)

-- of the rows of l below v, n were kept
pub record Kept (l : List (List ℤ)) (v : ℕ) (terms : List (List Float)) (which : List ℕ) (n : ℕ) : Type 0 where
  pub few : n ≤ v
  pub long : length terms ≡ 8
  pub wide : length which ≡ 8
  pub below : (j : ℕ) → j < n → get_or which j 0 < v
  pub sums : (y x : ℕ) → y < 8 → x < 8 → sum_of_kept terms which n y x ≡ sum_of_rows l v y x

-- what an answer tells of the rows 2 k + p, by even and odd halves: each of their values is within lo .. hi, and n rows were kept; or one value of l is not
abbrev pub ToldHalf : ℕ → List (List ℤ) → ℤ → ℤ → List (List Float) → List ℕ → Option ℕ → Type 0
ToldHalf p l lo hi terms which (Some n) = ((k : ℕ) → k < 4 → every (within lo hi) (get_or l (2 * k + p) []) ≡ true) × Half p l 4 terms which n
ToldHalf p l lo hi terms which None = every (every (within lo hi)) l ≡ false

-- ---- samples

-- the whole numbers of a block, brought into lo .. hi
abbrev pub samples_in : HalfIntegerRounding → ℤ → ℤ → List (List ℤ) → List (List ℤ)
samples_in m lo hi l = block (λ (y x : ℕ). clamp_z (whole m l y x) lo hi)
