-- The public answers to a field, a marker and a code: the number that the reader makes of the bits, with the cursor after them, or its refusal. Definitions only.
use Rattle.std.specs.Prelude.{cond, ◌&&◌, List, ◌≡◌, ℕ, ◌+◌, ◌*◌, ◌-◌, min, eqb, leb, ltb, get_or, length, take, Err, Ok, Result}
use Rattle.bits.specs.Bits.{Bits, bits_from, val}
use Rattle.bits.specs.Cursor.{cursor_at, in_data}
use Rattle.bits.specs.declared.cursor.Cursor.{Cursor}
use Rattle.codes.specs.Table.{Found}
use Rattle.fields.specs.Reader.{Res, ok, no, field, code, marker, no_code}
use Rattle.fields.specs.declared.error.TextureParseError.{TextureParseError}
use Rattle.fields.specs.declared.error.TextureParseError.TheVariants.{OutOfRange, Truncated}

-- the cursor after the bits that are left
abbrev pub after : List ℕ → Bits → Cursor
after d r = cursor_at (8 * length d - length r)

abbrev pub got_told : List ℕ → Res ℕ → Result (ℕ × Cursor) TextureParseError
got_told d (ok v r) = Ok (v, after d r)
got_told d (no e) = Err e

-- ---- fields and markers

-- n bits, at most 32
abbrev pub field_answer : List ℕ → ℕ → ℕ → Result (ℕ × Cursor) TextureParseError
field_answer d at n = cond (in_data (length d) at && leb n 32) (got_told d (field n (bits_from d at))) (Err OutOfRange)

-- a bit that must be 1
abbrev pub marker_answer : List ℕ → ℕ → TextureParseError → Result (ℕ × Cursor) TextureParseError
marker_answer d at missing = cond (in_data (length d) at) (got_told d (marker missing (bits_from d at))) (Err OutOfRange)

-- ---- a code of lent tables

-- how many rows are asked: those that both lists have, at most 256
abbrev pub rows_of : List ℕ → List ℕ → ℕ → ℕ
rows_of cs ls rows = min (min rows 256) (min (length cs) (length ls))

-- the answer where row i was found among n, in a window of at most 32 bits
abbrev pub row_answer : List ℕ → ℕ → List ℕ → List ℕ → ℕ → ℕ → (ℕ → TextureParseError) → ℕ → Result (ℕ × Cursor) TextureParseError
row_answer d at cs ls width n err i =
    cond (in_data (length d) at && leb width 32)
    (cond (eqb (length (bits_from d at)) 0) (Err Truncated)
    (cond (ltb i n) (Ok (i, cursor_at (at + get_or ls i 0))) (Err (no_code cs ls width n err (take width (bits_from d at))))))
    (Err OutOfRange)

-- row i is one of those whose codes begin the bits from a position on, or as many as are asked where there is none
abbrev pub FoundAt : List ℕ → ℕ → List ℕ → List ℕ → ℕ → ℕ → ℕ → Type 0
FoundAt d at cs ls width rows i = Found cs ls (rows_of cs ls rows) (val (take width (bits_from d at))) (length (take width (bits_from d at))) i

-- so it is in a prefix-free table the one row, and the answer then is `code_answer`
abbrev pub CodeRead : List ℕ → ℕ → List ℕ → List ℕ → ℕ → ℕ → (ℕ → TextureParseError) → Result (ℕ × Cursor) TextureParseError → Type 0
CodeRead d at cs ls width rows err r = (i : ℕ) × (FoundAt d at cs ls width rows i × (r ≡ row_answer d at cs ls width (rows_of cs ls rows) err i))

abbrev pub code_answer : List ℕ → ℕ → List ℕ → List ℕ → ℕ → ℕ → (ℕ → TextureParseError) → Result (ℕ × Cursor) TextureParseError
code_answer d at cs ls width rows err = cond (in_data (length d) at) (got_told d (code cs ls width rows err (bits_from d at))) (Err OutOfRange)
