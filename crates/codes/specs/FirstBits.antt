-- Rows of Tables B.13, B.14 and B.16 by the first bits of a window, each row in one number. Definitions only.
use Rattle.std.specs.Prelude.{cond, List, [], ◌∷◌, ℕ, ◌+◌, ◌*◌, ◌/◌, ◌%◌, ltb, get_or}
use Rattle.numbers.specs.Grid.{build}
use Rattle.codes.specs.DcSize.{SizeRow, size_code, size_length, size_of, sizes_of}
use Rattle.codes.specs.Table.{hit}
use Rattle.codes.specs.Tcoef.{Row, code_of, last_of, length_of, level_of, lmax_of, or_zero, rmax_of, run_of, tcoef_intra}
use Rattle.codes.specs.declared.dc_size.DcComponent.{DcComponent}

-- ---- Table B.16

-- a row: its code's length and what it says
abbrev pub packed : Row → ℕ
packed r = length_of r + 16 * last_of r + 32 * run_of r + 2048 * level_of r

-- the row whose code begins the n bits k; 0 where none does
unfoldable pub packed_in : List Row → ℕ → ℕ → ℕ
packed_in [] n k = 0
packed_in (r ∷ rs) n k = cond (hit k n (code_of r) (length_of r)) (packed r) (packed_in rs n k)

-- by seven bits and by twelve, of which the first three are 0
unfoldable pub short_rows : List ℕ
short_rows = build 128 (λ (k : ℕ). packed_in tcoef_intra 7 k)

unfoldable pub long_rows : List ℕ
long_rows = build 512 (λ (k : ℕ). packed_in tcoef_intra 12 k)

-- what two such lists have for a window of 32 bits
abbrev pub plain_in : List ℕ → List ℕ → ℕ → ℕ
plain_in short long w = cond (ltb (w / 33554432) 16) (get_or long (w / 1048576) 0) (get_or short (w / 33554432) 0)

-- LMAX by 64 last + run, and RMAX by 32 last + level
unfoldable pub lmax_rows : List ℕ
lmax_rows = build 85 (λ (k : ℕ). or_zero (lmax_of tcoef_intra (k / 64) (k % 64)))

unfoldable pub rmax_rows : List ℕ
rmax_rows = build 41 (λ (k : ℕ). or_zero (rmax_of tcoef_intra (k / 32) (k % 32)))

-- ---- Tables B.13 and B.14

abbrev pub packed_size : SizeRow → ℕ
packed_size r = size_length r + 16 * size_of r

unfoldable pub size_in : List SizeRow → ℕ → ℕ
size_in [] k = 0
size_in (r ∷ rs) k = cond (hit k 6 (size_code r) (size_length r)) (packed_size r) (size_in rs k)

-- the row of a component whose code begins the window of 32 bits, in six of them; 0 where none does
abbrev pub size_plain : DcComponent → ℕ → ℕ
size_plain c w = size_in (sizes_of c) (w / 67108864)
