-- The reversible codes of transform coefficients: Table B.23. Definitions only.
use Rattle.std.specs.Prelude.{List, [], ◌∷◌, ◌++◌, map, ℕ}
use Rattle.codes.specs.declared.tcoef_tables.TcoefTable.{TcoefTable}
use Rattle.codes.specs.declared.tcoef_tables.TcoefTable.TheVariants.{Intra, Inter}
use Rattle.codes.specs.Tcoef.{Row, row, last_of, run_of, level_of}

-- a row: a code without the sign bit that follows it, the code's length, and last, run and level of an intra and of an inter block
pub data RvlcRow : Type 0 where
  rvlc_row : (code length intraLast intraRun intraLevel interLast interRun interLevel : ℕ) → RvlcRow

-- Table B.23
unfoldable pub rvlc_tcoef : List RvlcRow
rvlc_tcoef =
    rvlc_row 0b110 3 0 0 1 0 0 1
    ∷ rvlc_row 0b111 3 0 0 2 0 1 1
    ∷ rvlc_row 0b0001 4 0 1 1 0 0 2
    ∷ rvlc_row 0b1010 4 0 0 3 0 2 1
    ∷ rvlc_row 0b1011 4 1 0 1 1 0 1
    ∷ rvlc_row 0b00100 5 0 2 1 0 0 3
    ∷ rvlc_row 0b00101 5 0 3 1 0 3 1
    ∷ rvlc_row 0b01000 5 0 1 2 0 4 1
    ∷ rvlc_row 0b01001 5 0 0 4 0 5 1
    ∷ rvlc_row 0b10010 5 1 1 1 1 1 1
    ∷ rvlc_row 0b10011 5 1 2 1 1 2 1
    ∷ rvlc_row 0b001100 6 0 4 1 0 1 2
    ∷ rvlc_row 0b001101 6 0 5 1 0 6 1
    ∷ rvlc_row 0b010100 6 0 0 5 0 7 1
    ∷ rvlc_row 0b010101 6 0 0 6 0 8 1
    ∷ rvlc_row 0b011000 6 1 3 1 1 3 1
    ∷ rvlc_row 0b011001 6 1 4 1 1 4 1
    ∷ rvlc_row 0b100010 6 1 5 1 1 5 1
    ∷ rvlc_row 0b100011 6 1 6 1 1 6 1
    ∷ rvlc_row 0b0011100 7 0 6 1 0 0 4
    ∷ rvlc_row 0b0011101 7 0 7 1 0 2 2
    ∷ rvlc_row 0b0101100 7 0 2 2 0 9 1
    ∷ rvlc_row 0b0101101 7 0 1 3 0 10 1
    ∷ rvlc_row 0b0110100 7 0 0 7 0 11 1
    ∷ rvlc_row 0b0110101 7 1 7 1 1 7 1
    ∷ rvlc_row 0b0111000 7 1 8 1 1 8 1
    ∷ rvlc_row 0b0111001 7 1 9 1 1 9 1
    ∷ rvlc_row 0b1000010 7 1 10 1 1 10 1
    ∷ rvlc_row 0b1000011 7 1 11 1 1 11 1
    ∷ rvlc_row 0b00111100 8 0 8 1 0 0 5
    ∷ rvlc_row 0b00111101 8 0 9 1 0 0 6
    ∷ rvlc_row 0b01011100 8 0 3 2 0 1 3
    ∷ rvlc_row 0b01011101 8 0 4 2 0 3 2
    ∷ rvlc_row 0b01101100 8 0 1 4 0 4 2
    ∷ rvlc_row 0b01101101 8 0 1 5 0 12 1
    ∷ rvlc_row 0b01110100 8 0 0 8 0 13 1
    ∷ rvlc_row 0b01110101 8 0 0 9 0 14 1
    ∷ rvlc_row 0b01111000 8 1 0 2 1 0 2
    ∷ rvlc_row 0b01111001 8 1 12 1 1 12 1
    ∷ rvlc_row 0b10000010 8 1 13 1 1 13 1
    ∷ rvlc_row 0b10000011 8 1 14 1 1 14 1
    ∷ rvlc_row 0b001111100 9 0 10 1 0 0 7
    ∷ rvlc_row 0b001111101 9 0 5 2 0 1 4
    ∷ rvlc_row 0b010111100 9 0 2 3 0 2 3
    ∷ rvlc_row 0b010111101 9 0 3 3 0 5 2
    ∷ rvlc_row 0b011011100 9 0 1 6 0 15 1
    ∷ rvlc_row 0b011011101 9 0 0 10 0 16 1
    ∷ rvlc_row 0b011101100 9 0 0 11 0 17 1
    ∷ rvlc_row 0b011101101 9 1 1 2 1 1 2
    ∷ rvlc_row 0b011110100 9 1 15 1 1 15 1
    ∷ rvlc_row 0b011110101 9 1 16 1 1 16 1
    ∷ rvlc_row 0b011111000 9 1 17 1 1 17 1
    ∷ rvlc_row 0b011111001 9 1 18 1 1 18 1
    ∷ rvlc_row 0b100000010 9 1 19 1 1 19 1
    ∷ rvlc_row 0b100000011 9 1 20 1 1 20 1
    ∷ rvlc_row 0b0011111100 10 0 11 1 0 0 8
    ∷ rvlc_row 0b0011111101 10 0 12 1 0 0 9
    ∷ rvlc_row 0b0101111100 10 0 6 2 0 1 5
    ∷ rvlc_row 0b0101111101 10 0 7 2 0 3 3
    ∷ rvlc_row 0b0110111100 10 0 8 2 0 6 2
    ∷ rvlc_row 0b0110111101 10 0 4 3 0 7 2
    ∷ rvlc_row 0b0111011100 10 0 2 4 0 8 2
    ∷ rvlc_row 0b0111011101 10 0 1 7 0 9 2
    ∷ rvlc_row 0b0111101100 10 0 0 12 0 18 1
    ∷ rvlc_row 0b0111101101 10 0 0 13 0 19 1
    ∷ rvlc_row 0b0111110100 10 0 0 14 0 20 1
    ∷ rvlc_row 0b0111110101 10 1 21 1 1 21 1
    ∷ rvlc_row 0b0111111000 10 1 22 1 1 22 1
    ∷ rvlc_row 0b0111111001 10 1 23 1 1 23 1
    ∷ rvlc_row 0b1000000010 10 1 24 1 1 24 1
    ∷ rvlc_row 0b1000000011 10 1 25 1 1 25 1
    ∷ rvlc_row 0b00111111100 11 0 13 1 0 0 10
    ∷ rvlc_row 0b00111111101 11 0 9 2 0 0 11
    ∷ rvlc_row 0b01011111100 11 0 5 3 0 1 6
    ∷ rvlc_row 0b01011111101 11 0 6 3 0 2 4
    ∷ rvlc_row 0b01101111100 11 0 7 3 0 4 3
    ∷ rvlc_row 0b01101111101 11 0 3 4 0 5 3
    ∷ rvlc_row 0b01110111100 11 0 2 5 0 10 2
    ∷ rvlc_row 0b01110111101 11 0 2 6 0 21 1
    ∷ rvlc_row 0b01111011100 11 0 1 8 0 22 1
    ∷ rvlc_row 0b01111011101 11 0 1 9 0 23 1
    ∷ rvlc_row 0b01111101100 11 0 0 15 0 24 1
    ∷ rvlc_row 0b01111101101 11 0 0 16 0 25 1
    ∷ rvlc_row 0b01111110100 11 0 0 17 0 26 1
    ∷ rvlc_row 0b01111110101 11 1 0 3 1 0 3
    ∷ rvlc_row 0b01111111000 11 1 2 2 1 2 2
    ∷ rvlc_row 0b01111111001 11 1 26 1 1 26 1
    ∷ rvlc_row 0b10000000010 11 1 27 1 1 27 1
    ∷ rvlc_row 0b10000000011 11 1 28 1 1 28 1
    ∷ rvlc_row 0b001111111100 12 0 10 2 0 0 12
    ∷ rvlc_row 0b001111111101 12 0 4 4 0 1 7
    ∷ rvlc_row 0b010111111100 12 0 5 4 0 2 5
    ∷ rvlc_row 0b010111111101 12 0 6 4 0 3 4
    ∷ rvlc_row 0b011011111100 12 0 3 5 0 6 3
    ∷ rvlc_row 0b011011111101 12 0 4 5 0 7 3
    ∷ rvlc_row 0b011101111100 12 0 1 10 0 11 2
    ∷ rvlc_row 0b011101111101 12 0 0 18 0 27 1
    ∷ rvlc_row 0b011110111100 12 0 0 19 0 28 1
    ∷ rvlc_row 0b011110111101 12 0 0 22 0 29 1
    ∷ rvlc_row 0b011111011100 12 1 1 3 1 1 3
    ∷ rvlc_row 0b011111011101 12 1 3 2 1 3 2
    ∷ rvlc_row 0b011111101100 12 1 4 2 1 4 2
    ∷ rvlc_row 0b011111101101 12 1 29 1 1 29 1
    ∷ rvlc_row 0b011111110100 12 1 30 1 1 30 1
    ∷ rvlc_row 0b011111110101 12 1 31 1 1 31 1
    ∷ rvlc_row 0b011111111000 12 1 32 1 1 32 1
    ∷ rvlc_row 0b011111111001 12 1 33 1 1 33 1
    ∷ rvlc_row 0b100000000010 12 1 34 1 1 34 1
    ∷ rvlc_row 0b100000000011 12 1 35 1 1 35 1
    ∷ rvlc_row 0b0011111111100 13 0 14 1 0 0 13
    ∷ rvlc_row 0b0011111111101 13 0 15 1 0 0 14
    ∷ rvlc_row 0b0101111111100 13 0 11 2 0 0 15
    ∷ rvlc_row 0b0101111111101 13 0 8 3 0 0 16
    ∷ rvlc_row 0b0110111111100 13 0 9 3 0 1 8
    ∷ rvlc_row 0b0110111111101 13 0 7 4 0 3 5
    ∷ rvlc_row 0b0111011111100 13 0 3 6 0 4 4
    ∷ rvlc_row 0b0111011111101 13 0 2 7 0 5 4
    ∷ rvlc_row 0b0111101111100 13 0 2 8 0 8 3
    ∷ rvlc_row 0b0111101111101 13 0 2 9 0 12 2
    ∷ rvlc_row 0b0111110111100 13 0 1 11 0 30 1
    ∷ rvlc_row 0b0111110111101 13 0 0 20 0 31 1
    ∷ rvlc_row 0b0111111011100 13 0 0 21 0 32 1
    ∷ rvlc_row 0b0111111011101 13 0 0 23 0 33 1
    ∷ rvlc_row 0b0111111101100 13 1 0 4 1 0 4
    ∷ rvlc_row 0b0111111101101 13 1 5 2 1 5 2
    ∷ rvlc_row 0b0111111110100 13 1 6 2 1 6 2
    ∷ rvlc_row 0b0111111110101 13 1 7 2 1 7 2
    ∷ rvlc_row 0b0111111111000 13 1 8 2 1 8 2
    ∷ rvlc_row 0b0111111111001 13 1 9 2 1 9 2
    ∷ rvlc_row 0b1000000000010 13 1 36 1 1 36 1
    ∷ rvlc_row 0b1000000000011 13 1 37 1 1 37 1
    ∷ rvlc_row 0b00111111111100 14 0 16 1 0 0 17
    ∷ rvlc_row 0b00111111111101 14 0 17 1 0 0 18
    ∷ rvlc_row 0b01011111111100 14 0 18 1 0 1 9
    ∷ rvlc_row 0b01011111111101 14 0 8 4 0 1 10
    ∷ rvlc_row 0b01101111111100 14 0 5 5 0 2 6
    ∷ rvlc_row 0b01101111111101 14 0 4 6 0 2 7
    ∷ rvlc_row 0b01110111111100 14 0 5 6 0 3 6
    ∷ rvlc_row 0b01110111111101 14 0 3 7 0 6 4
    ∷ rvlc_row 0b01111011111100 14 0 3 8 0 9 3
    ∷ rvlc_row 0b01111011111101 14 0 2 10 0 13 2
    ∷ rvlc_row 0b01111101111100 14 0 2 11 0 14 2
    ∷ rvlc_row 0b01111101111101 14 0 1 12 0 15 2
    ∷ rvlc_row 0b01111110111100 14 0 1 13 0 16 2
    ∷ rvlc_row 0b01111110111101 14 0 0 24 0 34 1
    ∷ rvlc_row 0b01111111011100 14 0 0 25 0 35 1
    ∷ rvlc_row 0b01111111011101 14 0 0 26 0 36 1
    ∷ rvlc_row 0b01111111101100 14 1 0 5 1 0 5
    ∷ rvlc_row 0b01111111101101 14 1 1 4 1 1 4
    ∷ rvlc_row 0b01111111110100 14 1 10 2 1 10 2
    ∷ rvlc_row 0b01111111110101 14 1 11 2 1 11 2
    ∷ rvlc_row 0b01111111111000 14 1 12 2 1 12 2
    ∷ rvlc_row 0b01111111111001 14 1 38 1 1 38 1
    ∷ rvlc_row 0b10000000000010 14 1 39 1 1 39 1
    ∷ rvlc_row 0b10000000000011 14 1 40 1 1 40 1
    ∷ rvlc_row 0b001111111111100 15 0 0 27 0 0 19
    ∷ rvlc_row 0b001111111111101 15 0 3 9 0 3 7
    ∷ rvlc_row 0b010111111111100 15 0 6 5 0 4 5
    ∷ rvlc_row 0b010111111111101 15 0 7 5 0 7 4
    ∷ rvlc_row 0b011011111111100 15 0 9 4 0 17 2
    ∷ rvlc_row 0b011011111111101 15 0 12 2 0 37 1
    ∷ rvlc_row 0b011101111111100 15 0 19 1 0 38 1
    ∷ rvlc_row 0b011101111111101 15 1 1 5 1 1 5
    ∷ rvlc_row 0b011110111111100 15 1 2 3 1 2 3
    ∷ rvlc_row 0b011110111111101 15 1 13 2 1 13 2
    ∷ rvlc_row 0b011111011111100 15 1 41 1 1 41 1
    ∷ rvlc_row 0b011111011111101 15 1 42 1 1 42 1
    ∷ rvlc_row 0b011111101111100 15 1 43 1 1 43 1
    ∷ rvlc_row 0b011111101111101 15 1 44 1 1 44 1
    ∷ []

abbrev pub rvlc_code : RvlcRow → ℕ
rvlc_code (rvlc_row c n a b d e f g) = c

abbrev pub rvlc_length : RvlcRow → ℕ
rvlc_length (rvlc_row c n a b d e f g) = n

-- the rows of one kind
abbrev pub rvlc_by : TcoefTable → RvlcRow → Row
rvlc_by Intra (rvlc_row c n a b d e f g) = row c n a b d
rvlc_by Inter (rvlc_row c n a b d e f g) = row c n e f g

abbrev pub rvlc_of : TcoefTable → List Row
rvlc_of kind = map (rvlc_by kind) rvlc_tcoef

-- the codes and their lengths, and as row 169 the escape 00001 (7.4.1.3)
unfoldable pub rvlc_codes : List ℕ
rvlc_codes = map rvlc_code rvlc_tcoef ++ (0b00001 ∷ [])

unfoldable pub rvlc_lens : List ℕ
rvlc_lens = map rvlc_length rvlc_tcoef ++ (5 ∷ [])

-- what the rows say, column by column: last, run, level
unfoldable pub rvlc_columns : List Row → List ℕ
rvlc_columns rows = map last_of rows ++ (map run_of rows ++ map level_of rows)
