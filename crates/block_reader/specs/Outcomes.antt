-- What is due of a reading of blocks, in document 01's numbers. Definitions only.
use Rattle.std.specs.Prelude.{Bool, List, [], ◌∷◌, ℕ, length}
use Rattle.numbers.specs.Outcome.{Outcome, checked}
use Rattle.bits.specs.Bits.{bits_from}
use Rattle.bits.specs.Cursor.{in_data}
use Rattle.codes.specs.declared.dc_size.DcComponent.{DcComponent}
use Rattle.events.specs.Spellings.{spellings_of}
use Rattle.events.specs.declared.spelling.Spellings.{Spellings}
use Rattle.sentences.specs.Macroblock.{events_in, events_of}
use Rattle.sentences.specs.MacroblockReader.{read_block, read_macroblock}
use Rattle.fields.specs.Outcomes.{read_as}

-- one block of a component
abbrev pub places_due : List ℕ → ℕ → DcComponent → Bool → Bool → Bool → Outcome (ℕ × Spellings)
places_due d at c coded dc_coded rev = checked ((in_data (length d) at, 11) ∷ []) (read_as (λ s position. (position, spellings_of (events_of s.1))) d (read_block dc_coded rev (c, coded) (bits_from d at)))

-- the six blocks of a pattern
abbrev pub blocks_due : List ℕ → ℕ → List Bool → Bool → Bool → Outcome (ℕ × Spellings)
blocks_due d at pattern dc_coded rev = checked ((in_data (length d) at, 11) ∷ []) (read_as (λ s position. (position, spellings_of (events_in s))) d (read_macroblock dc_coded rev pattern (bits_from d at)))
