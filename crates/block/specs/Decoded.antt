-- What is answered of one block, and what its lent samples and levels hold afterwards, refusals included. Definitions only.
use Rattle.std.specs.Prelude.{Bool, List, ℕ, ℤ, Err, None, Ok, Option, Result, Some, ⊤}
use Rattle.bits.specs.Bits.{bits_from}
use Rattle.bits.specs.declared.cursor.Cursor.{Cursor}
use Rattle.codes.specs.Component.{component_of}
use Rattle.codes.specs.declared.dc_size.DcComponent.{DcComponent}
use Rattle.prediction.specs.declared.predictor.BlockPredictors.{BlockPredictors}
use Rattle.numbers.specs.Grid.{cell}
use Rattle.fields.specs.Answer.{after}
use Rattle.events.specs.Spellings.{spellings_of}
use Rattle.events.specs.declared.spelling.Spellings.{Spellings}
use Rattle.sentences.specs.Macroblock.{Parts, events_of}
use Rattle.sentences.specs.MacroblockReader.{read_block}
use Rattle.fields.specs.Reader.{Res, ok, no}
use Rattle.block_reader.specs.Reading.{qfs_of}
use Rattle.assembly.specs.Answer.{check_of}
use Rattle.assembly.specs.Values.{levels_of, samples_of, values_of}
use Rattle.assembly.specs.declared.context.MacroblockTextureContext.{MacroblockTextureContext}
use Rattle.assembly.specs.declared.error.BlockAssemblyError.TheVariants.{OutOfRange, Texture}
use Rattle.assembly.specs.declared.error.BlockAssemblyError.{BlockAssemblyError}
use Rattle.block.specs.declared.intra.BlockDecoded.{BlockDecoded}

-- a block that was rebuilt, with the cursor after it and the number of its events of each spelling
abbrev pub decoded_by : Result ℤ BlockAssemblyError → Cursor → Spellings → Result BlockDecoded BlockAssemblyError
decoded_by (Ok dc) next n = Ok (record { dc = dc; next = next; spellings = n })
decoded_by (Err e) next n = Err e

-- ---- a block of a component, whose bits were read

module _ (d : List ℕ) (c : DcComponent) (dc_coded : Bool) (x : MacroblockTextureContext) (p : BlockPredictors) (w : List (List ℕ)) where
  -- its levels and its values
  abbrev pub levels_in : Parts → List (List ℤ)
  levels_in s = levels_of c x p (qfs_of c dc_coded s)

  abbrev pub values_in : Parts → List (List ℤ)
  values_in s = values_of c x w (levels_in s)

  -- the dequantised DC, the position after the block and the number of its events of each spelling
  abbrev pub told : Res Parts → Result BlockDecoded BlockAssemblyError
  told (ok s r) = Ok (record { dc = cell (values_in s) 0 0; next = after d r; spellings = spellings_of (events_of s.1) })
  told (no e) = Err (Texture e)

  abbrev pub samples_told : Res Parts → List (List ℤ) → List (List ℤ)
  samples_told (ok s r) old = samples_of x (values_in s)
  samples_told (no e) old = old

  abbrev pub levels_told : Res Parts → List (List ℤ) → List (List ℤ)
  levels_told (ok s r) old = levels_in s
  levels_told (no e) old = old

-- ---- a block of an index, by its component and the check of the state

module _ (d : List ℕ) (at : ℕ) (coded dc_coded rev : Bool) (x : MacroblockTextureContext) (p : BlockPredictors) (w : List (List ℕ)) where
  abbrev pub sentence_of : DcComponent → Res Parts
  sentence_of c = read_block dc_coded rev (c, coded) (bits_from d at)

  abbrev pub answer_of : Option DcComponent → Result ⊤ BlockAssemblyError → Result BlockDecoded BlockAssemblyError
  answer_of None k = Err OutOfRange
  answer_of (Some c) (Err e) = Err e
  answer_of (Some c) (Ok tt) = told d c dc_coded x p w (sentence_of c)

  abbrev pub samples_out : Option DcComponent → Result ⊤ BlockAssemblyError → List (List ℤ) → List (List ℤ)
  samples_out None k old = old
  samples_out (Some c) (Err e) old = old
  samples_out (Some c) (Ok tt) old = samples_told d c dc_coded x p w (sentence_of c) old

  abbrev pub levels_out : Option DcComponent → Result ⊤ BlockAssemblyError → List (List ℤ) → List (List ℤ)
  levels_out None k old = old
  levels_out (Some c) (Err e) old = old
  levels_out (Some c) (Ok tt) old = levels_told d c dc_coded x p w (sentence_of c) old

  -- for block i
  abbrev pub block_answer : ℕ → Result BlockDecoded BlockAssemblyError
  block_answer i = answer_of (component_of i) (check_of d at x p w)

  abbrev pub samples_after : ℕ → List (List ℤ) → List (List ℤ)
  samples_after i old = samples_out (component_of i) (check_of d at x p w) old

  abbrev pub levels_after : ℕ → List (List ℤ) → List (List ℤ)
  levels_after i old = levels_out (component_of i) (check_of d at x p w) old
