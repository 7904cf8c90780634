-- The reader of a macroblock's sentence, block by block. Definitions only.
use Rattle.std.specs.Prelude.{Bool, List}
use Rattle.bits.specs.Bits.{Bits}
use Rattle.codes.specs.declared.tcoef_tables.TcoefTable.TheVariants.{Intra}
use Rattle.dc_parts.specs.DcReader.{read_dc}
use Rattle.fields.specs.Reader.{Res}
use Rattle.sentences.specs.ComposeReader.{read_each, read_opt, read_pair}
use Rattle.sentences.specs.Macroblock.{Parts, Place, places_of_pattern}
use Rattle.texture.specs.Events.{first_place}
use Rattle.texture.specs.EventsReader.{list}

abbrev pub read_block : Bool → Bool → Place → Bits → Res Parts
read_block dc_coded rev s = read_pair (read_opt dc_coded (read_dc s.0)) (read_opt s.1 (list rev Intra (first_place dc_coded)))

abbrev pub read_macroblock : Bool → Bool → List Bool → Bits → Res (List Parts)
read_macroblock dc_coded rev p = read_each (read_block dc_coded rev) (places_of_pattern p)
