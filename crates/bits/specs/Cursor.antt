-- What a cursor's methods answer, each on the list of the bits from its position on. Definitions only.
use Rattle.std.specs.Prelude.{ℕ, ◌+◌, ◌*◌, ◌/◌, Bool, cond, ◌&&◌, List, eqb, leb, length, take, Err, Ok, Result}
use Rattle.bits.specs.declared.error.BitReaderError.{BitReaderError}
use Rattle.bits.specs.declared.error.BitReaderError.TheVariants.{EndOfStream, OutOfRange}
use Rattle.bits.specs.declared.cursor.Cursor.{Cursor}
use Rattle.bits.specs.Bits.{val, bits_from}

-- document 01's number of a refusal
abbrev pub number_of : BitReaderError → ℕ
number_of EndOfStream = 1
number_of OutOfRange = 11

-- the cursor at a position
abbrev pub cursor_at : ℕ → Cursor
cursor_at at = record { bit_pos = at }

-- data of a length may be read from a position on: at most 1,048,576 bytes, and a position that is not past their end
abbrev pub in_data : ℕ → ℕ → Bool
in_data len at = leb len 1048576 && leb at (8 * len)

-- how many bits are left
abbrev pub remaining : List ℕ → ℕ → Result ℕ BitReaderError
remaining d at = cond (in_data (length d) at) (Ok (length (bits_from d at))) (Err OutOfRange)

-- past n bits
abbrev pub skipped : List ℕ → ℕ → ℕ → Result Cursor BitReaderError
skipped d at n =
    cond (in_data (length d) at) (cond (leb n (length (bits_from d at))) (Ok (cursor_at (at + n))) (Err EndOfStream)) (Err OutOfRange)

-- to the next position that 8 divides
abbrev pub aligned : List ℕ → ℕ → Result Cursor BitReaderError
aligned d at = cond (in_data (length d) at) (Ok (cursor_at ((at + 7) / 8 * 8))) (Err OutOfRange)

-- the next n bits, at most 32, as a number
unfoldable pub read_bits : List ℕ → ℕ → ℕ → Result (ℕ × Cursor) BitReaderError
read_bits d at n =
    cond (in_data (length d) at && leb n 32)
    (cond (leb n (length (bits_from d at))) (Ok (val (take n (bits_from d at)), cursor_at (at + n))) (Err EndOfStream))
    (Err OutOfRange)

-- one bit
abbrev pub bool_of : Result (ℕ × Cursor) BitReaderError → Result (Bool × Cursor) BitReaderError
bool_of (Ok (v, c)) = Ok (eqb v 1, c)
bool_of (Err e) = Err e

abbrev pub read_bool : List ℕ → ℕ → Result (Bool × Cursor) BitReaderError
read_bool d at = bool_of (read_bits d at 1)

-- the same bits with the position left where it is
abbrev pub peeked_of : Result (ℕ × Cursor) BitReaderError → Result ℕ BitReaderError
peeked_of (Ok (v, c)) = Ok v
peeked_of (Err e) = Err e

abbrev pub next_bits : List ℕ → ℕ → ℕ → Result ℕ BitReaderError
next_bits d at n = peeked_of (read_bits d at n)

-- the next `most` bits, at most 32, or fewer if fewer remain: their number and how many they are
unfoldable pub next_window : List ℕ → ℕ → ℕ → Result (ℕ × ℕ) BitReaderError
next_window d at most =
    cond (in_data (length d) at && leb most 32)
    (cond (eqb (length (bits_from d at)) 0) (Err EndOfStream)
    (Ok (val (take most (bits_from d at)), length (take most (bits_from d at)))))
    (Err OutOfRange)
