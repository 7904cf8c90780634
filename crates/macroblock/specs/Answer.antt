-- What is answered of a macroblock read alone, and what its lent samples hold afterwards, refusals included. Definitions only.
use Rattle.std.specs.Prelude.{Bool, List, [], ◌++◌, ◌∷◌, ℕ, ◌-◌, leb, ℤ, length, Err, Ok, Result, ⊤}
use Rattle.bits.specs.Bits.{bits_from}
use Rattle.prediction.specs.declared.predictor.BlockPredictors.{BlockPredictors}
use Rattle.samples.specs.Samples.{macroblock_samples, samples_after}
use Rattle.fields.specs.Answer.{after}
use Rattle.events.specs.Spellings.{spellings_of}
use Rattle.sentences.specs.Macroblock.{Parts, events_in}
use Rattle.sentences.specs.MacroblockReader.{read_macroblock}
use Rattle.fields.specs.Reader.{Res, no, ok}
use Rattle.assembly.specs.Answer.{first_bad, tests_of}
use Rattle.block_reader.specs.Rows.{rows_of}
use Rattle.assembly.specs.declared.context.MacroblockTextureContext.{MacroblockTextureContext}
use Rattle.assembly.specs.declared.error.BlockAssemblyError.TheVariants.{Texture, TooShort}
use Rattle.headers.specs.Fields.{header_tests, pattern_by}
use Rattle.macroblock.specs.Six.{samples_of_six, values_of_six}
use Rattle.headers.specs.declared.header.MacroblockHeader.{MacroblockHeader}
use Rattle.assembly.specs.declared.error.BlockAssemblyError.{BlockAssemblyError}
use Rattle.macroblock.specs.declared.decode.MacroblockDecoded.{MacroblockDecoded}

-- the state, before any bit: 11, 12, 13 as of a block, then 14, 9, 10
unfoldable pub state_of : List ℕ → ℕ → MacroblockHeader → MacroblockTextureContext → BlockPredictors → List (List ℕ) → ℕ → Result ⊤ BlockAssemblyError
state_of d at h x p w room =
    first_bad (tests_of d at x p w ++ ((leb macroblock_samples room, TooShort) ∷ header_tests h))

-- the same without a header: 11, 12, 13, 14
unfoldable pub room_of : List ℕ → ℕ → MacroblockTextureContext → BlockPredictors → List (List ℕ) → ℕ → Result ⊤ BlockAssemblyError
room_of d at x p w room = first_bad (tests_of d at x p w ++ ((leb macroblock_samples room, TooShort) ∷ []))

-- what the reader makes of the bits from the start to the end of the data
unfoldable pub sentence_of : List ℕ → ℕ → MacroblockHeader → Bool → Bool → Res (List Parts)
sentence_of d at h dc_coded rev = read_macroblock dc_coded rev (pattern_by h) (bits_from d at)

-- the dequantised values of a sentence, each block with the predictors handed in
abbrev pub values_alone : MacroblockHeader → Bool → MacroblockTextureContext → BlockPredictors → List (List ℕ) → List Parts → List (List (List ℤ))
values_alone h dc_coded x p w s = values_of_six x p w (rows_of dc_coded (pattern_by h) s)

-- ---- of what was read

abbrev pub told : List ℕ → ℕ → Res (List Parts) → Result MacroblockDecoded BlockAssemblyError
told d at (ok s r) = Ok (record { bits = (after d r).bit_pos - at; next = after d r; spellings = spellings_of (events_in s) })
told d at (no e) = Err (Texture e)

abbrev pub samples_told : MacroblockHeader → Bool → MacroblockTextureContext → BlockPredictors → List (List ℕ) → Res (List Parts) → List ℤ → List ℤ
samples_told h dc_coded x p w (ok s r) old = samples_after (samples_of_six x (values_alone h dc_coded x p w s)) old
samples_told h dc_coded x p w (no e) old = old

-- ---- of the call

abbrev pub answer_by : Result ⊤ BlockAssemblyError → Result MacroblockDecoded BlockAssemblyError → Result MacroblockDecoded BlockAssemblyError
answer_by (Ok tt) a = a
answer_by (Err e) a = Err e

abbrev pub kept_by : Result ⊤ BlockAssemblyError → List ℤ → List ℤ → List ℤ
kept_by (Ok tt) new old = new
kept_by (Err e) new old = old

module _ (d : List ℕ) (at : ℕ) (h : MacroblockHeader) (dc_coded rev : Bool) (x : MacroblockTextureContext) (p : BlockPredictors) (w : List (List ℕ)) (old : List ℤ) where
  unfoldable pub macroblock_answer : Result MacroblockDecoded BlockAssemblyError
  macroblock_answer = answer_by (state_of d at h x p w (length old)) (told d at (sentence_of d at h dc_coded rev))

  unfoldable pub samples_out : List ℤ
  samples_out = kept_by (state_of d at h x p w (length old)) (samples_told h dc_coded x p w (sentence_of d at h dc_coded rev) old) old
