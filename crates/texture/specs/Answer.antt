-- The public answer to a list: what the reader makes of the bits, with the cursor after them, or its refusal; and its 64 places. Definitions only.
use Rattle.std.specs.Prelude.{Bool, cond, List, ℕ, length, ℤ, Err, Ok, Result}
use Rattle.bits.specs.Bits.{bits_from}
use Rattle.bits.specs.Cursor.{in_data}
use Rattle.codes.specs.declared.tcoef_tables.TcoefTable.{TcoefTable}
use Rattle.events.specs.Spellings.{spellings_of}
use Rattle.fields.specs.Answer.{after}
use Rattle.fields.specs.Reader.{Res, ok, no}
use Rattle.fields.specs.declared.error.TextureParseError.TheVariants.{OutOfRange}
use Rattle.texture.specs.Events.{Events, first_place, listed}
use Rattle.texture.specs.EventsReader.{list}
use Rattle.texture.specs.Places.{places_of}
use Rattle.bits.specs.declared.cursor.Cursor.{Cursor}
use Rattle.events.specs.declared.spelling.Spellings.{Spellings}
use Rattle.fields.specs.declared.error.TextureParseError.{TextureParseError}

-- a list, with the number of its events of each spelling, and its 64 places: a refusal leaves lent places as they were
abbrev pub list_told : List ℕ → Res Events → Result (Cursor × Spellings) TextureParseError
list_told d (ok es r) = Ok (after d r, spellings_of (listed es))
list_told d (no e) = Err e

abbrev pub list_answer : List ℕ → ℕ → Bool → TcoefTable → Bool → Result (Cursor × Spellings) TextureParseError
list_answer d at rev t dc_coded = cond (in_data (length d) at) (list_told d (list rev t (first_place dc_coded) (bits_from d at))) (Err OutOfRange)

abbrev pub places_told : TcoefTable → ℕ → Res Events → List ℤ → List ℤ
places_told t place (ok es r) old = places_of t place es
places_told t place (no e) old = old

abbrev pub places_after : List ℕ → ℕ → Bool → TcoefTable → Bool → List ℤ → List ℤ
places_after d at rev t dc_coded old = cond (in_data (length d) at) (places_told t (first_place dc_coded) (list rev t (first_place dc_coded) (bits_from d at)) old) old
