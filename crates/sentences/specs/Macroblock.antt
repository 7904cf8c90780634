-- The sentence of a macroblock: for blocks 0 to 5 a DC part, where DC codes are in use, and an event list, where the block is coded. 'Sentence' is document 01's word, not the standard's. No reader is named here. Definitions only.
use Rattle.std.specs.Prelude.{Bool, false, List, [], ◌∷◌, ◌++◌, get_or, Option, None, Some}
use Rattle.bits.specs.Bits.{Bits}
use Rattle.codes.specs.declared.dc_size.DcComponent.{DcComponent}
use Rattle.codes.specs.declared.dc_size.DcComponent.TheVariants.{Luminance, Chrominance}
use Rattle.codes.specs.declared.tcoef_tables.TcoefTable.TheVariants.{Intra}
use Rattle.dc_parts.specs.Dc.{Dc, GoodDc, dc_bits}
use Rattle.sentences.specs.Compose.{GoodEach, GoodOpt, GoodPair, each_bits, opt_bits, pair_bits}
use Rattle.events.specs.Event.{Event}
use Rattle.texture.specs.Events.{Events, GoodList, events_bits, first_place, listed}

-- one block, as the context has it: whether DC codes are in use and events are reversible; and as its place has it: its component and whether it is coded
abbrev pub Parts : Type 0
Parts = Option Dc × Option Events

abbrev pub Place : Type 0
Place = DcComponent × Bool

abbrev pub block_bits : Place → Parts → Bits
block_bits s = pair_bits (opt_bits (dc_bits s.0)) (opt_bits events_bits)

abbrev pub GoodBlock : Bool → Bool → Place → Parts → Type 0
GoodBlock dc_coded rev s = GoodPair (GoodOpt dc_coded (GoodDc s.0)) (GoodOpt s.1 (GoodList rev Intra (first_place dc_coded)))

-- the six places of a pattern: four of luminance, then Cb and Cr
abbrev pub places_of_pattern : List Bool → List Place
places_of_pattern p =
    (Luminance, get_or p 0 false) ∷ (Luminance, get_or p 1 false) ∷ (Luminance, get_or p 2 false) ∷ (Luminance, get_or p 3 false)
    ∷ (Chrominance, get_or p 4 false) ∷ (Chrominance, get_or p 5 false) ∷ []

-- a macroblock
abbrev pub macroblock_bits : List Bool → List Parts → Bits
macroblock_bits p = each_bits block_bits (places_of_pattern p)

abbrev pub GoodMacroblock : Bool → Bool → List Bool → List Parts → Type 0
GoodMacroblock dc_coded rev p = GoodEach (GoodBlock dc_coded rev) (places_of_pattern p)

-- ---- the events of a sentence: a DC part is none, and a block that is not coded has none

abbrev pub events_of : Option Events → List Event
events_of None = []
events_of (Some es) = listed es

abbrev pub events_in : List Parts → List Event
events_in [] = []
events_in (p ∷ ps) = events_of p.1 ++ events_in ps
