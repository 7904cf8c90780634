-- A whole macroblock of an I-VOP: a header, and behind it the sentence of the header's pattern. No reader is named here. Definitions only.
use Rattle.std.specs.Prelude.{Bool, List}
use Rattle.bits.specs.Bits.{Bits}
use Rattle.sentences.specs.Compose.{GoodThen, then_bits}
use Rattle.sentences.specs.Macroblock.{GoodMacroblock, Parts, macroblock_bits}
use Rattle.headers.specs.Fields.{pattern_in}
use Rattle.headers.specs.Header.{GoodHeader, Header, header_bits}

abbrev pub Whole : Type 0
Whole = Header × List Parts

abbrev pub whole_bits : Whole → Bits
whole_bits = then_bits header_bits (λ (h : Header). macroblock_bits (pattern_in h))

abbrev pub GoodWhole : Bool → Bool → Whole → Type 0
GoodWhole dc_coded rev = GoodThen GoodHeader (λ (h : Header). GoodMacroblock dc_coded rev (pattern_in h))
