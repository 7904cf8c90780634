-- The reader of a whole macroblock: its header, then its blocks by the header's pattern. Definitions only.
use Rattle.std.specs.Prelude.{Bool}
use Rattle.bits.specs.Bits.{Bits}
use Rattle.fields.specs.Reader.{Res}
use Rattle.sentences.specs.ComposeReader.{read_then}
use Rattle.sentences.specs.MacroblockReader.{read_macroblock}
use Rattle.headers.specs.Fields.{pattern_in}
use Rattle.headers.specs.Header.{Header}
use Rattle.headers.specs.HeaderReader.{read_header}
use Rattle.macroblock.specs.Whole.{Whole}

abbrev pub read_whole : Bool → Bool → Bits → Res Whole
read_whole dc_coded rev = read_then read_header (λ (h : Header). read_macroblock dc_coded rev (pattern_in h))
