-- DC parts, events, lists, blocks and macroblocks, plain and reversible: accepted exactly when the bits begin with one, never with two, and taken whole. Assumes nothing.
use mathlib.Core.Bool.{Bool}
use mathlib.Core.List.{List}
use mathlib.Core.Path.{◌≡◌, ap, ◌∙◌}
use Prim.Native.Nat.{ℕ, ◌+◌, ◌*◌, ◌-◌, ◌≤◌}
use native.Mathlib.Omega.{arith}
use lib.ListN.{length, length-append}
use Rattle.bits.proofs.BitLaws.{length-bits_from}
use Rattle.bits.specs.Bits.{Bits, bits_from}
use Rattle.bits.specs.Cursor.{cursor_at}
use Rattle.codes.specs.declared.dc_size.DcComponent.{DcComponent}
use Rattle.codes.specs.declared.tcoef_tables.TcoefTable.{TcoefTable}
use Rattle.codes.specs.declared.tcoef_tables.TcoefTable.TheVariants.{Intra}
use Rattle.dc_parts.specs.Dc.{GoodDc, dc_bits}
use Rattle.dc_parts.specs.DcReader.{read_dc}
use Rattle.events.specs.Event.{GoodEvent, event_bits}
use Rattle.events.specs.EventReader.{event}
use Rattle.fields.specs.Reader.{Res, ok}
use Rattle.sentences.proofs.ComposeLaws.{accepts, unique, each_reads, opt_reads, pair_reads}
use Rattle.sentences.proofs.Reading.{dc_reads, event_reads, list_reads}
use Rattle.sentences.specs.ComposeReader.{Reads}
use Rattle.sentences.specs.Macroblock.{Place, block_bits, GoodBlock, macroblock_bits, GoodMacroblock, places_of_pattern}
use Rattle.sentences.specs.MacroblockReader.{read_block, read_macroblock}
use Rattle.sentences.specs.Sentences.{Sentences}
use Rattle.texture.specs.Events.{GoodList, events_bits, first_place}
use Rattle.texture.specs.EventsReader.{list}

pub sentences : {A : Type 0} {read : Bits → Res A} {bits : A → Bits} {Good : A → Type 0} → Reads read bits Good → Sentences read bits Good
sentences {A} {read} {bits} {Good} h = record {
  accepted = accepts read bits Good h;
  begins = h.sound;
  alone = unique read bits Good h;
  own = h.complete;
  position = λ d at inside a r q. ap cursor_at (moved d at a r inside q);
}
  where
    moved : (d : List ℕ) (at : ℕ) (a : A) (r : Bits) → at ≤ 8 * length d → read (bits_from d at) ≡ ok a r → 8 * length d - length r ≡ at + length (bits a)
    moved d at a r inside q =
        let s = ap length (h.sound (bits_from d at) a r q).1 ∙ length-append (bits a) r in
        let n = length-bits_from d at in
        omega arith

pub dc_sentences : (c : DcComponent) → Sentences (read_dc c) (dc_bits c) (GoodDc c)
dc_sentences c = sentences (dc_reads c)

pub event_sentences : (rev : Bool) → Sentences (event rev) event_bits (GoodEvent rev)
event_sentences rev = sentences (event_reads rev)

pub list_sentences : (rev : Bool) (t : TcoefTable) (place : ℕ) → Sentences (list rev t place) events_bits (GoodList rev t place)
list_sentences rev t place = sentences (list_reads rev t place)

-- ---- a block, and a macroblock for its pattern

module _ (dc_coded rev : Bool) where
  pub block_reads : (s : Place) → Reads (read_block dc_coded rev s) (block_bits s) (GoodBlock dc_coded rev s)
  block_reads s =
      pair_reads _ _ _ _ _ _
      (opt_reads (read_dc s.0) (dc_bits s.0) (GoodDc s.0) (dc_reads s.0) dc_coded)
      (opt_reads (list rev Intra (first_place dc_coded)) events_bits (GoodList rev Intra (first_place dc_coded)) (list_reads rev Intra (first_place dc_coded)) s.1)

  pub block_sentences : (s : Place) → Sentences (read_block dc_coded rev s) (block_bits s) (GoodBlock dc_coded rev s)
  block_sentences s = sentences (block_reads s)

  pub macroblock_sentences : (p : List Bool) → Sentences (read_macroblock dc_coded rev p) (macroblock_bits p) (GoodMacroblock dc_coded rev p)
  macroblock_sentences p = sentences (each_reads (read_block dc_coded rev) block_bits (GoodBlock dc_coded rev) block_reads (places_of_pattern p))
