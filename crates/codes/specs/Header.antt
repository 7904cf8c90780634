-- The codes of a macroblock's header in an I-VOP: Table B.6 and the intra column of Table B.8. Definitions only.
use Rattle.std.specs.Prelude.{cond, List, [], ◌∷◌, ◌++◌, map, ℕ, ◌+◌, ◌*◌, ◌/◌, ltb, get_or}
use Rattle.codes.specs.Table.{row_in}

-- a row of mcbpc: a code, its length, the type of macroblock that it says (3 intra, 4 intra with a quantiser change), and cbpc
pub data McbpcRow : Type 0 where
  mcbpc_row : (code length type cbpc : ℕ) → McbpcRow

-- Table B.6: mcbpc of an I-VOP, without stuffing
unfoldable pub mcbpc_intra : List McbpcRow
mcbpc_intra =
    mcbpc_row 0b1 1 3 0b00
    ∷ mcbpc_row 0b001 3 3 0b01
    ∷ mcbpc_row 0b010 3 3 0b10
    ∷ mcbpc_row 0b011 3 3 0b11
    ∷ mcbpc_row 0b0001 4 4 0b00
    ∷ mcbpc_row 0b000001 6 4 0b01
    ∷ mcbpc_row 0b000010 6 4 0b10
    ∷ mcbpc_row 0b000011 6 4 0b11
    ∷ []

-- a row of cbpy: a code, its length, and which of blocks 0 to 3 are coded, block 0 the highest bit
pub data CbpyRow : Type 0 where
  cbpy_row : (code length cbpy : ℕ) → CbpyRow

-- Table B.8: cbpy, the column of intra macroblocks
unfoldable pub cbpy_intra : List CbpyRow
cbpy_intra =
    cbpy_row 0b0011 4 0b0000
    ∷ cbpy_row 0b00101 5 0b0001
    ∷ cbpy_row 0b00100 5 0b0010
    ∷ cbpy_row 0b1001 4 0b0011
    ∷ cbpy_row 0b00011 5 0b0100
    ∷ cbpy_row 0b0111 4 0b0101
    ∷ cbpy_row 0b000010 6 0b0110
    ∷ cbpy_row 0b1011 4 0b0111
    ∷ cbpy_row 0b00010 5 0b1000
    ∷ cbpy_row 0b000011 6 0b1001
    ∷ cbpy_row 0b0101 4 0b1010
    ∷ cbpy_row 0b1010 4 0b1011
    ∷ cbpy_row 0b0100 4 0b1100
    ∷ cbpy_row 0b1000 4 0b1101
    ∷ cbpy_row 0b0110 4 0b1110
    ∷ cbpy_row 0b11 2 0b1111
    ∷ []

abbrev pub mcbpc_code : McbpcRow → ℕ
mcbpc_code (mcbpc_row c n t p) = c

abbrev pub mcbpc_length : McbpcRow → ℕ
mcbpc_length (mcbpc_row c n t p) = n

abbrev pub type_in : McbpcRow → ℕ
type_in (mcbpc_row c n t p) = t

abbrev pub cbpc_in : McbpcRow → ℕ
cbpc_in (mcbpc_row c n t p) = p

abbrev pub cbpy_code : CbpyRow → ℕ
cbpy_code (cbpy_row c n p) = c

abbrev pub cbpy_length : CbpyRow → ℕ
cbpy_length (cbpy_row c n p) = n

abbrev pub cbpy_in : CbpyRow → ℕ
cbpy_in (cbpy_row c n p) = p

-- the codes of mcbpc and their lengths, and as row 8 stuffing, 000000001
unfoldable pub mcbpc_codes : List ℕ
mcbpc_codes = map mcbpc_code mcbpc_intra ++ (0b000000001 ∷ [])

unfoldable pub mcbpc_lens : List ℕ
mcbpc_lens = map mcbpc_length mcbpc_intra ++ (9 ∷ [])

-- the type and the cbpc of a row
unfoldable pub type_at : ℕ → ℕ
type_at i = get_or (map type_in mcbpc_intra) i 0

unfoldable pub cbpc_at : ℕ → ℕ
cbpc_at i = get_or (map cbpc_in mcbpc_intra) i 0

-- the codes of cbpy, their lengths and what they say
unfoldable pub cbpy_codes : List ℕ
cbpy_codes = map cbpy_code cbpy_intra

unfoldable pub cbpy_lens : List ℕ
cbpy_lens = map cbpy_length cbpy_intra

unfoldable pub cbpy_at : ℕ → ℕ
cbpy_at i = get_or (map cbpy_in cbpy_intra) i 0

-- ---- rows by the first six bits of a window of 32

-- the row, of the first `rows`, whose code begins the six bits k: its length + 16 times its number; 0 where none does
abbrev pub short_row : List ℕ → List ℕ → ℕ → ℕ → ℕ
short_row cs ls rows k = cond (ltb (row_in cs ls rows k 6) rows) (get_or ls (row_in cs ls rows k 6) 0 + 16 * row_in cs ls rows k 6) 0

-- of mcbpc without stuffing, which has nine bits, and of cbpy
unfoldable pub mcbpc_short : ℕ → ℕ
mcbpc_short w = short_row mcbpc_codes mcbpc_lens 8 (w / 67108864)

unfoldable pub cbpy_short : ℕ → ℕ
cbpy_short w = short_row cbpy_codes cbpy_lens 16 (w / 67108864)
