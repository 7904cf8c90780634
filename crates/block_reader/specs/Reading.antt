-- The 64 places that the bits of one block give, and the answer to a reading of them. Definitions only.
use Rattle.std.specs.Prelude.{Bool, cond, List, ℕ, ℤ, length, set, Err, Ok, Result, Option, None, Some}
use Rattle.bits.specs.Bits.{bits_from}
use Rattle.bits.specs.Cursor.{in_data}
use Rattle.codes.specs.declared.dc_size.DcComponent.{DcComponent}
use Rattle.codes.specs.declared.tcoef_tables.TcoefTable.TheVariants.{Intra}
use Rattle.events.specs.Spellings.{spellings_of}
use Rattle.fields.specs.Answer.{after}
use Rattle.sentences.specs.ComposeReader.{read_opt}
use Rattle.dc_parts.specs.Dc.{Dc, difference_of}
use Rattle.texture.specs.Events.{Events, first_place}
use Rattle.texture.specs.EventsReader.{list}
use Rattle.sentences.specs.Macroblock.{Parts, events_of}
use Rattle.sentences.specs.MacroblockReader.{read_block}
use Rattle.texture.specs.Places.{places_of, zeros}
use Rattle.fields.specs.Reader.{Res, ok, no}
use Rattle.fields.specs.declared.error.TextureParseError.{TextureParseError}
use Rattle.fields.specs.declared.error.TextureParseError.TheVariants.{OutOfRange}
use Rattle.block_reader.specs.declared.read.PlacesRead.{PlacesRead}
use Rattle.bits.specs.declared.cursor.Cursor.{Cursor}
use Rattle.events.specs.declared.spelling.Spellings.{Spellings}

-- the events in their places, from 1 after a DC code and from 0 without one
abbrev pub list_places : Bool → Option Events → List ℤ
list_places dc_coded None = zeros
list_places dc_coded (Some es) = places_of Intra (first_place dc_coded) es

-- QFS: a DC part's difference stands at place 0 (7.4.1.1)
abbrev pub with_dc : DcComponent → Option Dc → List ℤ → List ℤ
with_dc c None qfs = qfs
with_dc c (Some v) qfs = set qfs 0 (difference_of c v)

abbrev pub qfs_of : DcComponent → Bool → Parts → List ℤ
qfs_of c dc_coded p = with_dc c p.0 (list_places dc_coded p.1)

-- what a reading gives: the cursor after the block, the number of its events of each spelling and its places, or a refusal and zeros
abbrev pub refused_by : TextureParseError → PlacesRead
refused_by e = record { answer = Err e; qfs = zeros }

-- a DC part's difference put before what its list gave
abbrev pub with_difference : Result (Cursor × Spellings) TextureParseError → List ℤ → ℤ → PlacesRead
with_difference (Ok (c, n)) qfs z = record { answer = Ok (c, n); qfs = set qfs 0 z }
with_difference (Err e) qfs z = refused_by e

abbrev pub list_read : List ℕ → Bool → Res (Option Events) → PlacesRead
list_read d dc_coded (ok l r) = record { answer = Ok (after d r, spellings_of (events_of l)); qfs = list_places dc_coded l }
list_read d dc_coded (no e) = refused_by e

abbrev pub parts_read : List ℕ → DcComponent → Bool → Res Parts → PlacesRead
parts_read d c dc_coded (ok p r) = record { answer = Ok (after d r, spellings_of (events_of p.1)); qfs = qfs_of c dc_coded p }
parts_read d c dc_coded (no e) = refused_by e

abbrev pub list_at : List ℕ → ℕ → Bool → Bool → Bool → PlacesRead
list_at d at coded dc_coded rev = list_read d dc_coded (read_opt coded (list rev Intra (first_place dc_coded)) (bits_from d at))

abbrev pub parts_at : List ℕ → ℕ → DcComponent → Bool → Bool → Bool → PlacesRead
parts_at d at c coded dc_coded rev = parts_read d c dc_coded (read_block dc_coded rev (c, coded) (bits_from d at))

-- the list, and the block, at a position in the data; outside it 11
abbrev pub list_answer : List ℕ → ℕ → Bool → Bool → Bool → PlacesRead
list_answer d at coded dc_coded rev = cond (in_data (length d) at) (list_at d at coded dc_coded rev) (refused_by OutOfRange)

abbrev pub places_answer : List ℕ → ℕ → DcComponent → Bool → Bool → Bool → PlacesRead
places_answer d at c coded dc_coded rev = cond (in_data (length d) at) (parts_at d at c coded dc_coded rev) (refused_by OutOfRange)
