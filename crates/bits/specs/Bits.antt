-- The bits of a byte list, top bit of each byte first (6.2), and numbers as bits. Definitions only.
use Rattle.std.specs.Prelude.{ℕ, zero, suc, ◌+◌, ◌*◌, ◌/◌, ◌%◌, ◌^◌, Bool, true, false, List, [], ◌∷◌, ◌++◌, eqb, length, drop}

abbrev pub Bits : Type 0
Bits = List Bool

abbrev pub num : Bool → ℕ
num true = 1
num false = 0

-- the number that bits write, first bit highest
unfoldable pub val : Bits → ℕ
val [] = 0
val (b ∷ bs) = num b * 2 ^ length bs + val bs

-- v, below 2 ^ n, as n bits, first bit highest
unfoldable pub bin : ℕ → ℕ → Bits
bin zero v = []
bin (suc n) v = eqb (v / 2 ^ n) 1 ∷ bin n (v % 2 ^ n)

-- the bits of a byte list
unfoldable pub bits_of : List ℕ → Bits
bits_of [] = []
bits_of (x ∷ xs) = bin 8 x ++ bits_of xs

-- the bits from a bit position to the end of the data
abbrev pub bits_from : List ℕ → ℕ → Bits
bits_from xs p = drop p (bits_of xs)
