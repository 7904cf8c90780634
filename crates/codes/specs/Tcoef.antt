-- The codes of transform coefficients: Tables B.16 and B.17, and LMAX and RMAX as these tables give them. Definitions only.
use Rattle.std.specs.Prelude.{cond, ◌&&◌, List, [], ◌∷◌, ◌++◌, map, ℕ, max, eqb, Option, None, Some}
use Rattle.codes.specs.declared.tcoef_tables.TcoefTable.{TcoefTable}
use Rattle.codes.specs.declared.tcoef_tables.TcoefTable.TheVariants.{Intra, Inter}

-- a row: a code without the sign bit that follows it, the code's length, and the event that it says
pub data Row : Type 0 where
  row : (code length last run level : ℕ) → Row

abbrev pub code_of : Row → ℕ
code_of (row c n l r v) = c

abbrev pub length_of : Row → ℕ
length_of (row c n l r v) = n

abbrev pub last_of : Row → ℕ
last_of (row c n l r v) = l

abbrev pub run_of : Row → ℕ
run_of (row c n l r v) = r

abbrev pub level_of : Row → ℕ
level_of (row c n l r v) = v

-- Table B.16: intra luminance and chrominance
unfoldable pub tcoef_intra : List Row
tcoef_intra =
    row 0b10 2 0 0 1
    ∷ row 0b0111 4 1 0 1
    ∷ row 0b1111 4 0 0 3
    ∷ row 0b000011001 9 0 11 1
    ∷ row 0b010101 6 0 0 6
    ∷ row 0b00000000101 11 1 0 6
    ∷ row 0b0010111 7 0 0 9
    ∷ row 0b001111 6 1 1 1
    ∷ row 0b00011111 8 0 0 10
    ∷ row 0b00000000100 11 1 0 7
    ∷ row 0b000100101 9 0 0 13
    ∷ row 0b001110 6 1 2 1
    ∷ row 0b000100100 9 0 0 14
    ∷ row 0b001101 6 0 5 1
    ∷ row 0b0000100001 10 0 0 17
    ∷ row 0b001100 6 1 0 2
    ∷ row 0b0000100000 10 0 0 18
    ∷ row 0b0010011 7 1 5 1
    ∷ row 0b00000000111 11 0 0 21
    ∷ row 0b0010010 7 0 6 1
    ∷ row 0b00000000110 11 0 0 22
    ∷ row 0b0010001 7 1 3 1
    ∷ row 0b00000100000 11 0 0 23
    ∷ row 0b0010000 7 1 4 1
    ∷ row 0b110 3 0 0 2
    ∷ row 0b00011010 8 1 9 1
    ∷ row 0b010100 6 0 1 2
    ∷ row 0b00011001 8 0 8 1
    ∷ row 0b00011110 8 0 0 11
    ∷ row 0b00011000 8 0 9 1
    ∷ row 0b0000001111 10 0 0 19
    ∷ row 0b00010111 8 0 10 1
    ∷ row 0b00000100001 11 0 0 24
    ∷ row 0b00010110 8 1 0 3
    ∷ row 0b000001010000 12 0 0 25
    ∷ row 0b00010101 8 1 6 1
    ∷ row 0b1110 4 0 1 1
    ∷ row 0b00010100 8 1 7 1
    ∷ row 0b00011101 8 0 0 12
    ∷ row 0b00010011 8 1 8 1
    ∷ row 0b0000001110 10 0 0 20
    ∷ row 0b000011000 9 0 12 1
    ∷ row 0b000001010001 12 0 0 26
    ∷ row 0b000010111 9 1 0 4
    ∷ row 0b01101 5 0 0 4
    ∷ row 0b000010110 9 1 1 2
    ∷ row 0b000100011 9 0 0 15
    ∷ row 0b000010101 9 1 10 1
    ∷ row 0b0000001101 10 0 1 7
    ∷ row 0b000010100 9 1 11 1
    ∷ row 0b01100 5 0 0 5
    ∷ row 0b000010011 9 1 12 1
    ∷ row 0b000100010 9 0 4 2
    ∷ row 0b000010010 9 1 13 1
    ∷ row 0b000001010010 12 0 0 27
    ∷ row 0b000010001 9 1 14 1
    ∷ row 0b01011 5 0 2 1
    ∷ row 0b0000000111 10 0 13 1
    ∷ row 0b0000001100 10 0 2 4
    ∷ row 0b0000000110 10 1 0 5
    ∷ row 0b000001010011 12 0 1 9
    ∷ row 0b0000000101 10 1 1 3
    ∷ row 0b010011 6 0 0 7
    ∷ row 0b0000000100 10 1 2 2
    ∷ row 0b0000001011 10 0 3 4
    ∷ row 0b00000100100 11 1 3 2
    ∷ row 0b000001010100 12 0 6 3
    ∷ row 0b00000100101 11 1 4 2
    ∷ row 0b010010 6 0 0 8
    ∷ row 0b00000100110 11 1 15 1
    ∷ row 0b0000001010 10 0 4 3
    ∷ row 0b00000100111 11 1 16 1
    ∷ row 0b010001 6 0 3 1
    ∷ row 0b000001011000 12 0 14 1
    ∷ row 0b0000001001 10 0 8 2
    ∷ row 0b000001011001 12 1 0 8
    ∷ row 0b010000 6 0 4 1
    ∷ row 0b000001011010 12 1 5 2
    ∷ row 0b0000001000 10 0 5 3
    ∷ row 0b000001011011 12 1 6 2
    ∷ row 0b0010110 7 0 1 3
    ∷ row 0b000001011100 12 1 17 1
    ∷ row 0b000001010101 12 0 1 10
    ∷ row 0b000001011101 12 1 18 1
    ∷ row 0b0010101 7 0 2 2
    ∷ row 0b000001011110 12 1 19 1
    ∷ row 0b0010100 7 0 7 1
    ∷ row 0b000001011111 12 1 20 1
    ∷ row 0b00011100 8 0 1 4
    ∷ row 0b00011011 8 0 3 2
    ∷ row 0b000100001 9 0 0 16
    ∷ row 0b000100000 9 0 1 5
    ∷ row 0b000011111 9 0 1 6
    ∷ row 0b000011110 9 0 2 3
    ∷ row 0b000011101 9 0 3 3
    ∷ row 0b000011100 9 0 5 2
    ∷ row 0b000011011 9 0 6 2
    ∷ row 0b000011010 9 0 7 2
    ∷ row 0b00000100010 11 0 1 8
    ∷ row 0b00000100011 11 0 9 2
    ∷ row 0b000001010110 12 0 2 5
    ∷ row 0b000001010111 12 0 7 3
    ∷ []

-- Table B.17: inter luminance and chrominance
unfoldable pub tcoef_inter : List Row
tcoef_inter =
    row 0b10 2 0 0 1
    ∷ row 0b0111 4 1 0 1
    ∷ row 0b1111 4 0 0 2
    ∷ row 0b000011001 9 1 0 2
    ∷ row 0b010101 6 0 0 3
    ∷ row 0b00000000101 11 1 0 3
    ∷ row 0b0010111 7 0 0 4
    ∷ row 0b001111 6 1 1 1
    ∷ row 0b00011111 8 0 0 5
    ∷ row 0b00000000100 11 1 1 2
    ∷ row 0b000100101 9 0 0 6
    ∷ row 0b001110 6 1 2 1
    ∷ row 0b000100100 9 0 0 7
    ∷ row 0b001101 6 1 3 1
    ∷ row 0b0000100001 10 0 0 8
    ∷ row 0b001100 6 1 4 1
    ∷ row 0b0000100000 10 0 0 9
    ∷ row 0b0010011 7 1 5 1
    ∷ row 0b00000000111 11 0 0 10
    ∷ row 0b0010010 7 1 6 1
    ∷ row 0b00000000110 11 0 0 11
    ∷ row 0b0010001 7 1 7 1
    ∷ row 0b00000100000 11 0 0 12
    ∷ row 0b0010000 7 1 8 1
    ∷ row 0b110 3 0 1 1
    ∷ row 0b00011010 8 1 9 1
    ∷ row 0b010100 6 0 1 2
    ∷ row 0b00011001 8 1 10 1
    ∷ row 0b00011110 8 0 1 3
    ∷ row 0b00011000 8 1 11 1
    ∷ row 0b0000001111 10 0 1 4
    ∷ row 0b00010111 8 1 12 1
    ∷ row 0b00000100001 11 0 1 5
    ∷ row 0b00010110 8 1 13 1
    ∷ row 0b000001010000 12 0 1 6
    ∷ row 0b00010101 8 1 14 1
    ∷ row 0b1110 4 0 2 1
    ∷ row 0b00010100 8 1 15 1
    ∷ row 0b00011101 8 0 2 2
    ∷ row 0b00010011 8 1 16 1
    ∷ row 0b0000001110 10 0 2 3
    ∷ row 0b000011000 9 1 17 1
    ∷ row 0b000001010001 12 0 2 4
    ∷ row 0b000010111 9 1 18 1
    ∷ row 0b01101 5 0 3 1
    ∷ row 0b000010110 9 1 19 1
    ∷ row 0b000100011 9 0 3 2
    ∷ row 0b000010101 9 1 20 1
    ∷ row 0b0000001101 10 0 3 3
    ∷ row 0b000010100 9 1 21 1
    ∷ row 0b01100 5 0 4 1
    ∷ row 0b000010011 9 1 22 1
    ∷ row 0b000100010 9 0 4 2
    ∷ row 0b000010010 9 1 23 1
    ∷ row 0b000001010010 12 0 4 3
    ∷ row 0b000010001 9 1 24 1
    ∷ row 0b01011 5 0 5 1
    ∷ row 0b0000000111 10 1 25 1
    ∷ row 0b0000001100 10 0 5 2
    ∷ row 0b0000000110 10 1 26 1
    ∷ row 0b000001010011 12 0 5 3
    ∷ row 0b0000000101 10 1 27 1
    ∷ row 0b010011 6 0 6 1
    ∷ row 0b0000000100 10 1 28 1
    ∷ row 0b0000001011 10 0 6 2
    ∷ row 0b00000100100 11 1 29 1
    ∷ row 0b000001010100 12 0 6 3
    ∷ row 0b00000100101 11 1 30 1
    ∷ row 0b010010 6 0 7 1
    ∷ row 0b00000100110 11 1 31 1
    ∷ row 0b0000001010 10 0 7 2
    ∷ row 0b00000100111 11 1 32 1
    ∷ row 0b010001 6 0 8 1
    ∷ row 0b000001011000 12 1 33 1
    ∷ row 0b0000001001 10 0 8 2
    ∷ row 0b000001011001 12 1 34 1
    ∷ row 0b010000 6 0 9 1
    ∷ row 0b000001011010 12 1 35 1
    ∷ row 0b0000001000 10 0 9 2
    ∷ row 0b000001011011 12 1 36 1
    ∷ row 0b0010110 7 0 10 1
    ∷ row 0b000001011100 12 1 37 1
    ∷ row 0b000001010101 12 0 10 2
    ∷ row 0b000001011101 12 1 38 1
    ∷ row 0b0010101 7 0 11 1
    ∷ row 0b000001011110 12 1 39 1
    ∷ row 0b0010100 7 0 12 1
    ∷ row 0b000001011111 12 1 40 1
    ∷ row 0b00011100 8 0 13 1
    ∷ row 0b00011011 8 0 14 1
    ∷ row 0b000100001 9 0 15 1
    ∷ row 0b000100000 9 0 16 1
    ∷ row 0b000011111 9 0 17 1
    ∷ row 0b000011110 9 0 18 1
    ∷ row 0b000011101 9 0 19 1
    ∷ row 0b000011100 9 0 20 1
    ∷ row 0b000011011 9 0 21 1
    ∷ row 0b000011010 9 0 22 1
    ∷ row 0b00000100010 11 0 23 1
    ∷ row 0b00000100011 11 0 24 1
    ∷ row 0b000001010110 12 0 25 1
    ∷ row 0b000001010111 12 0 26 1
    ∷ []

abbrev pub tcoef_of : TcoefTable → List Row
tcoef_of Intra = tcoef_intra
tcoef_of Inter = tcoef_inter

-- the codes and their lengths, which both tables share, and as row 102 the escape 0000011 (7.4.1.3)
unfoldable pub vlc_codes : List ℕ
vlc_codes = map code_of tcoef_intra ++ (0b0000011 ∷ [])

unfoldable pub vlc_lens : List ℕ
vlc_lens = map length_of tcoef_intra ++ (7 ∷ [])

-- the greater of what has been found and x
abbrev pub greater : ℕ → Option ℕ → Option ℕ
greater x None = Some x
greater x (Some y) = Some (max x y)

-- LMAX: the greatest level of a last and a run, where there is one
unfoldable pub lmax_of : List Row → ℕ → ℕ → Option ℕ
lmax_of [] last run = None
lmax_of (r ∷ rs) last run = cond (eqb (last_of r) last && eqb (run_of r) run) (greater (level_of r) (lmax_of rs last run)) (lmax_of rs last run)

-- RMAX: the greatest run of a last and a level, where there is one
unfoldable pub rmax_of : List Row → ℕ → ℕ → Option ℕ
rmax_of [] last level = None
rmax_of (r ∷ rs) last level = cond (eqb (last_of r) last && eqb (level_of r) level) (greater (run_of r) (rmax_of rs last level)) (rmax_of rs last level)

abbrev pub or_zero : Option ℕ → ℕ
or_zero None = 0
or_zero (Some x) = x

-- the same of a row: its last and run, or its last and level, stand in the table
abbrev pub lmax_by : List Row → Row → ℕ
lmax_by rows r = or_zero (lmax_of rows (last_of r) (run_of r))

abbrev pub rmax_by : List Row → Row → ℕ
rmax_by rows r = or_zero (rmax_of rows (last_of r) (level_of r))

-- what the rows say, column by column: last, run, level, LMAX, RMAX
unfoldable pub event_columns : List Row → List ℕ
event_columns rows = map last_of rows ++ (map run_of rows ++ (map level_of rows ++ (map (lmax_by rows) rows ++ map (rmax_by rows) rows)))
