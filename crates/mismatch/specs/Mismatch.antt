-- Mismatch control (7.4.4.5) of a block, and value (7, 7) in the clause's own words. Definitions only.
use Rattle.std.specs.Prelude.{Bool, cond, not, ◌&&◌, List, [], ◌∷◌, ℕ, ◌%◌, eqb, ℤ, pos, nat_abs, ◌+ℤ◌, ◌-ℤ◌}
use Rattle.numbers.specs.Grid.{block, cell}
use Rattle.numbers.specs.Sum.{sum_z}

-- 7.4.4.5: the sum of all values, and value (7, 7) with its lowest bit flipped where the sum is even
unfoldable pub sum_of : List (List ℤ) → ℤ
sum_of [] = pos 0
sum_of (r ∷ rs) = sum_z r +ℤ sum_of rs

abbrev pub even : ℤ → Bool
even z = eqb (nat_abs z % 2) 0

abbrev pub flipped : ℤ → ℤ
flipped z = cond (even z) (z +ℤ pos 1) (z -ℤ pos 1)

abbrev pub is_last : ℕ → ℕ → Bool
is_last v u = eqb v 7 && eqb u 7

abbrev pub mismatched : List (List ℤ) → List (List ℤ)
mismatched f = block (λ (v u : ℕ). cond (even (sum_of f) && is_last v u) (flipped (cell f v u)) (cell f v u))

-- value (7, 7) once more, in the clause's own words and order: F[7][7] is F'[7][7] where the sum is odd; where it is even,
-- F'[7][7] - 1 if F'[7][7] is odd, else F'[7][7] + 1
abbrev pub odd : ℤ → Bool
odd z = not (even z)

abbrev pub controlled : ℤ → ℤ → ℤ
controlled sum z = cond (odd sum) z (cond (odd z) (z -ℤ pos 1) (z +ℤ pos 1))

-- mismatch control, where it is asked for
abbrev pub last_value : Bool → ℤ → ℤ → ℤ
last_value control sum value = cond control (controlled sum value) value
