-- Reading a block or a macroblock refuses by 1 to 8 and 17 alone: 11 is told before any bit. Assumes nothing.
use mathlib.Core.Bool.{Bool, false, true}
use mathlib.Core.List.{List, [], ◌∷◌}
use Rattle.bits.specs.Bits.{Bits}
use Rattle.codes.specs.declared.tcoef_tables.TcoefTable.TheVariants.{Intra}
use Rattle.dc_parts.proofs.ByBits.{dc_by_bits}
use Rattle.dc_parts.specs.DcReader.{read_dc}
use Rattle.fields.proofs.ByBits.{ByBits, then}
use Rattle.fields.specs.Reader.{Res}
use Rattle.sentences.specs.ComposeReader.{read_each, read_opt}
use Rattle.sentences.specs.Macroblock.{Place, places_of_pattern}
use Rattle.sentences.specs.MacroblockReader.{read_block, read_macroblock}
use Rattle.texture.proofs.ByBits.{list_by_bits}
use Rattle.texture.specs.Events.{first_place}
use Rattle.texture.specs.EventsReader.{list}

pub opt_by_bits : {A : Type 0} (there : Bool) (p : Bits → Res A) → ((b : Bits) → ByBits (p b)) → (b : Bits) → ByBits (read_opt there p b)
opt_by_bits true p h b = then (p b) _ (h b) (λ a r. tt)
opt_by_bits false p h b = tt

each_by_bits : {S A : Type 0} (p : S → Bits → Res A) → ((s : S) (b : Bits) → ByBits (p s b)) → (ss : List S) (b : Bits) → ByBits (read_each p ss b)
each_by_bits p h [] b = tt
each_by_bits p h (s ∷ ss) b = then (p s b) _ (h s b) (λ a r. then (read_each p ss r) _ (each_by_bits p h ss r) (λ xs r. tt))

pub block_by_bits : (dc_coded rev : Bool) (s : Place) (b : Bits) → ByBits (read_block dc_coded rev s b)
block_by_bits dc_coded rev s b =
    then (read_opt dc_coded (read_dc s.0) b) _ (opt_by_bits dc_coded (read_dc s.0) (dc_by_bits s.0) b)
    (λ a r. then (read_opt s.1 (list rev Intra (first_place dc_coded)) r) _ (opt_by_bits s.1 (list rev Intra (first_place dc_coded)) (list_by_bits rev Intra (first_place dc_coded)) r) (λ c r. tt))

pub macroblock_by_bits : (dc_coded rev : Bool) (pattern : List Bool) (b : Bits) → ByBits (read_macroblock dc_coded rev pattern b)
macroblock_by_bits dc_coded rev pattern b = each_by_bits (read_block dc_coded rev) (block_by_bits dc_coded rev) (places_of_pattern pattern) b
