-- What the loops of a transform compute in f64, one rounding to each operation, and the same sums over integers. Definitions only.
use Rattle.std.specs.Prelude.{false, ℕ, zero, suc, Float, ℤ, pos, ◌+ℤ◌, negsuc, ◌*ℤ◌}
use Rattle.std.specs.Float.{fin, binary64}
use Rattle.std.specs.Float.Ieee.{add, mul}

-- acc = 0; for i in 0..n { acc += t(i) }
unfoldable pub series_f : (ℕ → Float) → ℕ → Float
series_f t zero = fin false 0 (pos 0)
series_f t (suc n) = add binary64 (series_f t n) (t n)

-- t(0) + .. + t(n - 1)
unfoldable pub series_z : (ℕ → ℤ) → ℕ → ℤ
series_z t zero = pos 0
series_z t (suc n) = series_z t n +ℤ t n

-- 0.5
abbrev pub half : Float
half = fin false 1 (negsuc 0)

-- 0.5 * sum over i of c(i) * x(i) * k(i)
abbrev pub pass : (ℕ → Float) → (ℕ → Float) → (ℕ → Float) → Float
pass c x k = mul binary64 half (series_f (λ i. mul binary64 (mul binary64 (c i) (x i)) (k i)) 8)

-- rows, then columns: F v u is the coefficient, c the factors C(u), k u x the cosine
abbrev pub block_f : (ℕ → Float) → (ℕ → ℕ → Float) → (ℕ → ℕ → Float) → ℕ → ℕ → Float
block_f c k F y x = pass c (λ v. pass c (F v) (λ u. k u x)) (λ v. k v y)

-- the double sum of Annex A.1, without its 1 / 4
abbrev pub block_z : (ℕ → ℤ) → (ℕ → ℕ → ℤ) → (ℕ → ℕ → ℤ) → ℕ → ℕ → ℤ
block_z c k F y x = series_z (λ v. series_z (λ u. c u *ℤ c v *ℤ F v u *ℤ k u x *ℤ k v y) 8) 8
