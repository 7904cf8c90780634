-- What the answers of a block say in document 01's numbers, and what is due. Definitions only.
use Rattle.std.specs.Prelude.{Bool, List, [], ◌∷◌, ℕ, ltb, ℤ, length, Err, Ok, Result}
use Rattle.numbers.specs.Grid.{cell}
use Rattle.numbers.specs.Outcome.{Outcome, accepted, checked, refused}
use Rattle.bits.specs.Bits.{bits_from}
use Rattle.bits.specs.Cursor.{in_data}
use Rattle.codes.specs.Component.{component_at}
use Rattle.coefficients.specs.Level.{predictors_fine}
use Rattle.prediction.specs.declared.predictor.BlockPredictors.{BlockPredictors}
use Rattle.events.specs.Spellings.{spellings_of}
use Rattle.events.specs.declared.spelling.Spellings.{Spellings}
use Rattle.sentences.specs.Macroblock.{events_of}
use Rattle.sentences.specs.MacroblockReader.{read_block}
use Rattle.fields.specs.Outcomes.{read_as}
use Rattle.assembly.specs.Answer.{figure_of, number_of}
use Rattle.block.specs.Decoded.{values_in}
use Rattle.assembly.specs.Values.{context_fine}
use Rattle.assembly.specs.declared.context.MacroblockTextureContext.{MacroblockTextureContext}
use Rattle.block.specs.declared.intra.BlockDecoded.{BlockDecoded}
use Rattle.assembly.specs.declared.error.BlockAssemblyError.{BlockAssemblyError}

-- the dequantised DC, the position after the block and the number of its events of each spelling
abbrev pub block_outcome : Result BlockDecoded BlockAssemblyError → Outcome (ℤ × (ℕ × Spellings))
block_outcome (Ok d) = accepted (d.dc, (d.next.bit_pos, d.spellings))
block_outcome (Err e) = refused (number_of e) (figure_of e)

module _ (d : List ℕ) (at : ℕ) (x : MacroblockTextureContext) (p : BlockPredictors) (w : List (List ℕ)) where
  -- block i: 11 for its index too, then what is read
  abbrev pub block_due : ℕ → Bool → Bool → Bool → Outcome (ℤ × (ℕ × Spellings))
  block_due i coded dc_coded rev =
      checked ((ltb i 6, 11) ∷ (in_data (length d) at, 11) ∷ (context_fine x w, 12) ∷ (predictors_fine p, 13) ∷ [])
      (read_as (λ s position. (cell (values_in d (component_at i) dc_coded x p w s) 0 0, (position, spellings_of (events_of s.1)))) d (read_block dc_coded rev (component_at i, coded) (bits_from d at)))
