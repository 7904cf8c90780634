-- How far two blocks of values are apart, and a limit of how far that pushes a whole number. Definitions only.
use Rattle.std.specs.Prelude.{List, ◌≢◌, ◌⊎◌, ◌≡◌, ℕ, zero, suc, ◌+◌, ◌*◌, ◌^◌, ◌≤◌, ◌<◌, ℤ, nat_abs, ◌-ℤ◌}
use Rattle.numbers.specs.Grid.{cell}

-- f(0) + .. + f(n - 1)
unfoldable pub series_n : (ℕ → ℕ) → ℕ → ℕ
series_n f zero = 0
series_n f (suc n) = series_n f n + f n

-- the sum of |a - b| over all 64 places
abbrev pub changed : List (List ℤ) → List (List ℤ) → ℕ
changed a b = series_n (λ (v : ℕ). series_n (λ (u : ℕ). nat_abs (cell a v u -ℤ cell b v u)) 8) 8

-- p and q differ by at most d / 4 + 1 + 1 / 2 ^ 23, in units of 1 / 2 ^ 25
abbrev pub Pushed : ℕ → ℤ → ℤ → Type 0
Pushed d p q = nat_abs (p -ℤ q) * 2 ^ 25 ≤ d * 2 ^ 23 + 2 ^ 25 + 2 ^ 2

-- a and b agree at every place but row v, column u
abbrev pub OnePlace : List (List ℤ) → List (List ℤ) → ℕ → ℕ → Type 0
OnePlace a b v u = (i j : ℕ) → i < 8 → j < 8 → (i ≢ v) ⊎ (j ≢ u) → cell a i j ≡ cell b i j
