-- What the answer to a list says in document 01's numbers, and what is due. Definitions only.
use Rattle.std.specs.Prelude.{Bool, List, [], ◌∷◌, ℕ, length, Err, Ok, Result}
use Rattle.bits.specs.Bits.{bits_from}
use Rattle.bits.specs.Cursor.{in_data}
use Rattle.codes.specs.declared.tcoef_tables.TcoefTable.{TcoefTable}
use Rattle.events.specs.Spellings.{spellings_of}
use Rattle.events.specs.declared.spelling.Spellings.{Spellings}
use Rattle.fields.specs.Outcomes.{read_as}
use Rattle.fields.specs.Refusal.{figure_of, number_of}
use Rattle.numbers.specs.Outcome.{Outcome, accepted, checked, refused}
use Rattle.texture.specs.Events.{first_place, listed}
use Rattle.texture.specs.EventsReader.{list}
use Rattle.bits.specs.declared.cursor.Cursor.{Cursor}
use Rattle.fields.specs.declared.error.TextureParseError.{TextureParseError}

-- of a list the position after it and the number of its events of each spelling: its places are lent
abbrev pub list_outcome : Result (Cursor × Spellings) TextureParseError → Outcome (ℕ × Spellings)
list_outcome (Ok (c, n)) = accepted (c.bit_pos, n)
list_outcome (Err e) = refused (number_of e) (figure_of e)

-- of data d at a position: 11, then what is read there
module _ (d : List ℕ) (at : ℕ) where
  abbrev pub list_due : Bool → TcoefTable → Bool → Outcome (ℕ × Spellings)
  list_due rev t dc_coded = checked ((in_data (length d) at, 11) ∷ []) (read_as (λ es position. (position, spellings_of (listed es))) d (list rev t (first_place dc_coded) (bits_from d at)))
