-- A line's words: what one space parts; numbers and hexadecimal data as words. Definitions only.
use Rattle.std.specs.Prelude.{Bool, cond, false, not, true, ◌&&◌, ◌||◌, List, [], ◌∷◌, ℕ, ◌%◌, ◌*◌, ◌+◌, ◌-◌, eqb, leb, length, Option, None, Some}
use Rattle.numbers.specs.Every.{every}

-- a byte put before the first word
abbrev pub joined : ℕ → List (List ℕ) → List (List ℕ)
joined b [] = (b ∷ []) ∷ []
joined b (w ∷ ws) = (b ∷ w) ∷ ws

-- the words of bytes, parted at each space; two spaces have an empty word between them
unfoldable pub words : List ℕ → List (List ℕ)
words [] = [] ∷ []
words (b ∷ bs) = cond (eqb b 32) ([] ∷ words bs) (joined b (words bs))

-- the same bytes
unfoldable pub same : List ℕ → List ℕ → Bool
same [] [] = true
same [] (b ∷ bs) = false
same (a ∷ xs) [] = false
same (a ∷ xs) (b ∷ bs) = eqb a b && same xs bs

abbrev pub none_of : List ℕ → Bool
none_of w = eqb (length w) 0

-- ---- numbers, decimal

abbrev pub is_digit : ℕ → Bool
is_digit b = leb 48 b && leb b 57

-- the number that digits write after v
unfoldable pub value_after : ℕ → List ℕ → ℕ
value_after v [] = v
value_after v (b ∷ bs) = value_after (10 * v + (b - 48)) bs

-- one digit at least, any count of leading zeros, and at most `most`
unfoldable pub number_in : ℕ → List ℕ → Option ℕ
number_in most w = cond (not (none_of w) && (every is_digit w && leb (value_after 0 w) most)) (Some (value_after 0 w)) None

-- ---- data, hexadecimal in either case

abbrev pub is_hex : ℕ → Bool
is_hex b = is_digit b || ((leb 65 b && leb b 70) || (leb 97 b && leb b 102))

-- 0 to 15
abbrev pub hex_of : ℕ → ℕ
hex_of b = cond (leb b 57) (b - 48) (cond (leb b 70) (b - 55) (b - 87))

-- the byte that two digits write, and the bytes of digits two by two
abbrev pub byte_of : ℕ → ℕ → ℕ
byte_of a b = 16 * hex_of a + hex_of b

unfoldable pub bytes_of : List ℕ → List ℕ
bytes_of [] = []
bytes_of (a ∷ []) = []
bytes_of (a ∷ b ∷ bs) = byte_of a b ∷ bytes_of bs

-- an even number of digits, two or more
unfoldable pub hex_in : List ℕ → Option (List ℕ)
hex_in w = cond (leb 2 (length w) && (eqb (length w % 2) 0 && every is_hex w)) (Some (bytes_of w)) None
