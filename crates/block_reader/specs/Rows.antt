-- The six blocks of a macroblock out of their bits: a row of 64 places for each, and the answer to a reading of them. Definitions only.
use Rattle.std.specs.Prelude.{Bool, cond, List, ◌≡◌, ℕ, ◌*◌, ◌≤◌, ℤ, length, Err, Ok, Result}
use Rattle.bits.specs.Bits.{Bits, bits_from}
use Rattle.bits.specs.Cursor.{in_data}
use Rattle.events.specs.Spellings.{spellings_of}
use Rattle.events.specs.declared.spelling.Spellings.{Spellings}
use Rattle.fields.specs.Answer.{after}
use Rattle.sentences.specs.Compose.{each_with}
use Rattle.sentences.specs.ComposeReader.{read_each}
use Rattle.sentences.specs.Macroblock.{Parts, Place, events_in, places_of_pattern}
use Rattle.sentences.specs.MacroblockReader.{read_block, read_macroblock}
use Rattle.fields.specs.Reader.{Res, mapped, no, ok}
use Rattle.fields.specs.declared.error.TextureParseError.TheVariants.{OutOfRange}
use Rattle.block_reader.specs.Reading.{qfs_of}
use Rattle.bits.specs.declared.cursor.Cursor.{Cursor}
use Rattle.fields.specs.declared.error.TextureParseError.{TextureParseError}

-- the places of the parts of a block
abbrev pub row_of : Bool → Place → Parts → List ℤ
row_of dc_coded s p = qfs_of s.0 dc_coded p

-- the rows of a macroblock's sentence
abbrev pub rows_of : Bool → List Bool → List Parts → List (List ℤ)
rows_of dc_coded pattern ps = each_with (row_of dc_coded) (places_of_pattern pattern) ps

abbrev pub blocks_told : List ℕ → Res (List Parts) → Result (Cursor × Spellings) TextureParseError
blocks_told d (ok ps r) = Ok (after d r, spellings_of (events_in ps))
blocks_told d (no e) = Err e

abbrev pub rows_told : Bool → List Bool → Res (List Parts) → List (List ℤ) → List (List ℤ)
rows_told dc_coded pattern (ok ps r) old = rows_of dc_coded pattern ps
rows_told dc_coded pattern (no e) old = old

module _ (d : List ℕ) (at : ℕ) (pattern : List Bool) (dc_coded rev : Bool) where
  -- the cursor after the six blocks and the number of their events of each spelling, or a refusal
  unfoldable pub blocks_answer : Result (Cursor × Spellings) TextureParseError
  blocks_answer = cond (in_data (length d) at) (blocks_told d (read_macroblock dc_coded rev pattern (bits_from d at))) (Err OutOfRange)

  -- their rows; a refusal leaves lent rows as they were
  unfoldable pub rows_after : List (List ℤ) → List (List ℤ)
  rows_after old = cond (in_data (length d) at) (rows_told dc_coded pattern (read_macroblock dc_coded rev pattern (bits_from d at)) old) old

-- ---- inside the crate: rows that are filled one after the other

abbrev pub read_row : Bool → Bool → Place → Bits → Res (List ℤ)
read_row dc_coded rev s b = mapped (row_of dc_coded s) (read_block dc_coded rev s b)

unfoldable pub read_rows : Bool → Bool → List Bool → Bits → Res (List (List ℤ))
read_rows dc_coded rev pattern b = read_each (read_row dc_coded rev) (places_of_pattern pattern) b

-- the number of events of each spelling
unfoldable pub read_spellings : Bool → Bool → List Bool → Bits → Res Spellings
read_spellings dc_coded rev pattern b = mapped (λ ps. spellings_of (events_in ps)) (read_macroblock dc_coded rev pattern b)

abbrev pub said_spellings : List ℕ → Result (Cursor × Spellings) TextureParseError → Res Spellings
said_spellings d (Ok (c, n)) = ok n (bits_from d c.bit_pos)
said_spellings d (Err e) = no e

abbrev pub said_rows : List ℕ → Result (Cursor × Spellings) TextureParseError → List (List ℤ) → Res (List (List ℤ))
said_rows d (Ok (c, n)) rows = ok rows (bits_from d c.bit_pos)
said_rows d (Err e) rows = no e

abbrev pub InsideRows : List ℕ → Result (Cursor × Spellings) TextureParseError → Type 0
InsideRows d (Ok (c, n)) = c.bit_pos ≤ 8 * length d
InsideRows d (Err e) = Unit {0}

pub record RowsSay (d : List ℕ) (r : Result (Cursor × Spellings) TextureParseError) (rows : List (List ℤ)) (m : Res (List (List ℤ))) (k : Res Spellings) : Type 0 where
  pub is : said_rows d r rows ≡ m
  pub counted : said_spellings d r ≡ k
  pub inside : InsideRows d r
