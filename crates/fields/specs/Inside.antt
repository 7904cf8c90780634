-- What the code's answers say in the reader's terms, where a position stands for the bits from it on; and how refusals are named. Definitions only.
use Rattle.std.specs.Prelude.{◌≡◌, List, ℕ, ◌*◌, ◌≤◌, length, Err, Ok, Result}
use Rattle.bits.specs.Bits.{bits_from}
use Rattle.bits.specs.declared.cursor.Cursor.{Cursor}
use Rattle.bits.specs.declared.error.BitReaderError.{BitReaderError}
use Rattle.bits.specs.declared.error.BitReaderError.TheVariants.{EndOfStream, OutOfRange as BitsOut}
use Rattle.fields.specs.Reader.{Res, ok, no}
use Rattle.fields.specs.declared.code.CodeKind.{CodeKind}
use Rattle.fields.specs.declared.code.CodeKind.TheVariants.{DcSize, Header, Tcoef}
use Rattle.fields.specs.declared.error.TextureParseError.{TextureParseError}
use Rattle.fields.specs.declared.error.TextureParseError.TheVariants.{InvalidDcSize, InvalidHeader, InvalidTcoef, OutOfRange, Truncated}

-- ---- data that may be read, and an answer that is the reader's with a position in the data

abbrev pub Readable : List ℕ → Cursor → Type 0
Readable d c = (c.bit_pos ≤ 8 * length d) × (length d ≤ 1048576)

pub record Says {R B : Type 0} (said : R → Res B) (Inside : R → Type 0) (r : R) (m : Res B) : Type 0 where
  pub is : said r ≡ m
  pub inside : Inside r

abbrev pub said_number : List ℕ → Result (ℕ × Cursor) TextureParseError → Res ℕ
said_number d (Ok (v, c)) = ok v (bits_from d c.bit_pos)
said_number d (Err e) = no e

abbrev pub InsideNumber : List ℕ → Result (ℕ × Cursor) TextureParseError → Type 0
InsideNumber d (Ok (v, c)) = c.bit_pos ≤ 8 * length d
InsideNumber d (Err e) = Unit {0}

abbrev pub SaysNumber : List ℕ → Result (ℕ × Cursor) TextureParseError → Res ℕ → Type 0
SaysNumber d r m = Says (said_number d) (InsideNumber d) r m

-- ---- refusals

-- a refusal of the bit layer
abbrev pub refusal_of : BitReaderError → TextureParseError
refusal_of EndOfStream = Truncated
refusal_of BitsOut = OutOfRange

-- the refusal of a window in which no code stands; a header's tells no window
abbrev pub invalid : CodeKind → ℕ → TextureParseError
invalid DcSize w = InvalidDcSize w
invalid Tcoef w = InvalidTcoef w
invalid Header w = InvalidHeader
