-- A number in decimal digits, without leading zeros, and an integer with its sign. Definitions only.
use Rattle.std.specs.Prelude.{cond, List, [], ◌++◌, ◌∷◌, ℕ, suc, zero, ◌%◌, ◌+◌, ◌/◌, ltb, ℤ, negsuc, pos}

-- at most `most` digits of n
unfoldable pub digits_up_to : ℕ → ℕ → List ℕ
digits_up_to zero n = []
digits_up_to (suc most) n = cond (ltb n 10) ((48 + n) ∷ []) (digits_up_to most (n / 10) ++ ((48 + n % 10) ∷ []))

-- n has no more than n + 1 digits
abbrev pub decimal_of : ℕ → List ℕ
decimal_of n = digits_up_to (n + 1) n

-- `-` before a negative one
abbrev pub integer_of : ℤ → List ℕ
integer_of (pos n) = decimal_of n
integer_of (negsuc n) = 45 ∷ decimal_of (suc n)
