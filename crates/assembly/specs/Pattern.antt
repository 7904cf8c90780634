-- Which blocks of a macroblock are coded (6.3.6): of cbpy the low four bits, blocks 0 to 3 from the highest; of cbpc the low two, Cb and Cr. Definitions only.
use Rattle.std.specs.Prelude.{Bool, List, [], ◌∷◌, ℕ, ◌/◌, ◌%◌, eqb}

-- the bit of n whose weight is v
abbrev pub bit_of : ℕ → ℕ → Bool
bit_of n v = eqb (n / v % 2) 1

abbrev pub pattern_of : ℕ → ℕ → List Bool
pattern_of cbpy cbpc = bit_of cbpy 8 ∷ bit_of cbpy 4 ∷ bit_of cbpy 2 ∷ bit_of cbpy 1 ∷ bit_of cbpc 2 ∷ bit_of cbpc 1 ∷ []
