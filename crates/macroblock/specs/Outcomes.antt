-- What the answers of a macroblock say in document 01's numbers, and what is due of one read alone. Definitions only.
use Rattle.std.specs.Prelude.{Bool, List, ◌∷◌, ℕ, ◌-◌, leb, length, Err, Ok, Result}
use Rattle.numbers.specs.Outcome.{Outcome, accepted, checked, refused}
use Rattle.bits.specs.Cursor.{in_data}
use Rattle.coefficients.specs.Level.{predictors_fine}
use Rattle.prediction.specs.declared.predictor.BlockPredictors.{BlockPredictors}
use Rattle.samples.specs.Samples.{macroblock_samples}
use Rattle.events.specs.Spellings.{spellings_of}
use Rattle.events.specs.declared.spelling.Spellings.{Spellings}
use Rattle.sentences.specs.Macroblock.{Parts, events_in}
use Rattle.fields.specs.Outcomes.{read_as}
use Rattle.assembly.specs.Answer.{figure_of, number_of}
use Rattle.assembly.specs.Values.{context_fine}
use Rattle.assembly.specs.declared.context.MacroblockTextureContext.{MacroblockTextureContext}
use Rattle.macroblock.specs.Answer.{sentence_of}
use Rattle.headers.specs.Outcomes.{header_numbers}
use Rattle.headers.specs.declared.header.MacroblockHeader.{MacroblockHeader}
use Rattle.macroblock.specs.declared.decode.MacroblockDecoded.{MacroblockDecoded}
use Rattle.assembly.specs.declared.error.BlockAssemblyError.{BlockAssemblyError}

-- the number of bits taken, the position after them and the number of events of each spelling
abbrev pub macroblock_outcome : Result MacroblockDecoded BlockAssemblyError → Outcome (ℕ × (ℕ × Spellings))
macroblock_outcome (Ok d) = accepted (d.bits, (d.next.bit_pos, d.spellings))
macroblock_outcome (Err e) = refused (number_of e) (figure_of e)

-- how many bits a sentence that begins at `at` takes, by the position after it, that position, and its events of each spelling
abbrev pub bits_said : ℕ → List Parts → ℕ → ℕ × (ℕ × Spellings)
bits_said at s position = (position - at, (position, spellings_of (events_in s)))

-- 11, 12, 13, 14, 9, 10, then what is read
abbrev pub macroblock_due : List ℕ → ℕ → MacroblockHeader → Bool → Bool → MacroblockTextureContext → BlockPredictors → List (List ℕ) → ℕ → Outcome (ℕ × (ℕ × Spellings))
macroblock_due d at h dc_coded rev x p w room =
    checked ((in_data (length d) at, 11) ∷ (context_fine x w, 12) ∷ (predictors_fine p, 13) ∷ (leb macroblock_samples room, 14) ∷ header_numbers h)
    (read_as (bits_said at) d (sentence_of d at h dc_coded rev))
