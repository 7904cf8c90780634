-- The codes of DC sizes: Tables B.13 and B.14. Definitions only.
use Rattle.std.specs.Prelude.{List, [], ◌∷◌, map, ℕ}
use Rattle.codes.specs.declared.dc_size.DcComponent.{DcComponent}
use Rattle.codes.specs.declared.dc_size.DcComponent.TheVariants.{Luminance, Chrominance}

-- a row: a code, its length, and the size that it says
pub data SizeRow : Type 0 where
  size_row : (code length size : ℕ) → SizeRow

-- Table B.13: dct_dc_size_luminance
unfoldable pub size_luminance : List SizeRow
size_luminance =
    size_row 0b011 3 0
    ∷ size_row 0b11 2 1
    ∷ size_row 0b10 2 2
    ∷ size_row 0b010 3 3
    ∷ size_row 0b001 3 4
    ∷ size_row 0b0001 4 5
    ∷ size_row 0b00001 5 6
    ∷ size_row 0b000001 6 7
    ∷ size_row 0b0000001 7 8
    ∷ size_row 0b00000001 8 9
    ∷ size_row 0b000000001 9 10
    ∷ size_row 0b0000000001 10 11
    ∷ size_row 0b00000000001 11 12
    ∷ []

-- Table B.14: dct_dc_size_chrominance
unfoldable pub size_chrominance : List SizeRow
size_chrominance =
    size_row 0b11 2 0
    ∷ size_row 0b10 2 1
    ∷ size_row 0b01 2 2
    ∷ size_row 0b001 3 3
    ∷ size_row 0b0001 4 4
    ∷ size_row 0b00001 5 5
    ∷ size_row 0b000001 6 6
    ∷ size_row 0b0000001 7 7
    ∷ size_row 0b00000001 8 8
    ∷ size_row 0b000000001 9 9
    ∷ size_row 0b0000000001 10 10
    ∷ size_row 0b00000000001 11 11
    ∷ size_row 0b000000000001 12 12
    ∷ []

abbrev pub size_code : SizeRow → ℕ
size_code (size_row c n s) = c

abbrev pub size_length : SizeRow → ℕ
size_length (size_row c n s) = n

abbrev pub size_of : SizeRow → ℕ
size_of (size_row c n s) = s

abbrev pub sizes_of : DcComponent → List SizeRow
sizes_of Luminance = size_luminance
sizes_of Chrominance = size_chrominance

-- the codes, their lengths and the sizes of a component
unfoldable pub dc_codes : DcComponent → List ℕ
dc_codes c = map size_code (sizes_of c)

unfoldable pub dc_lens : DcComponent → List ℕ
dc_lens c = map size_length (sizes_of c)

unfoldable pub dc_sizes : DcComponent → List ℕ
dc_sizes c = map size_of (sizes_of c)
