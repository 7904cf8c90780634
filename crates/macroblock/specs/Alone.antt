-- Demand 3 of a macroblock read alone, and what is told where its sentence breaks off. Definitions only.
use Rattle.std.specs.Prelude.{Bool, List, ◌≡◌, ℕ, ◌+◌, T, ℤ, length, Err, Ok, Result}
use Rattle.bits.specs.Cursor.{cursor_at}
use Rattle.events.specs.Spellings.{spellings_of}
use Rattle.fields.specs.Stopped.{stopped}
use Rattle.sentences.specs.Macroblock.{GoodMacroblock, Parts, events_in, macroblock_bits}
use Rattle.prediction.specs.declared.predictor.BlockPredictors.{BlockPredictors}
use Rattle.assembly.specs.Answer.{number_of}
use Rattle.assembly.specs.declared.context.MacroblockTextureContext.{MacroblockTextureContext}
use Rattle.macroblock.specs.Answer.{state_of, values_alone}
use Rattle.macroblock.specs.Demand.{BreaksOffAt, Demand3}
use Rattle.headers.specs.Fields.{pattern_by}
use Rattle.headers.specs.declared.header.MacroblockHeader.{MacroblockHeader}
use Rattle.macroblock.specs.declared.decode.MacroblockDecoded.{MacroblockDecoded}
use Rattle.assembly.specs.declared.error.BlockAssemblyError.{BlockAssemblyError}

-- answered without a number
abbrev pub Accepted : Result MacroblockDecoded BlockAssemblyError → Type 0
Accepted (Ok d) = Unit {0}
Accepted (Err e) = ⊥

-- n bits, the position n bits on, and the sentence's events of each spelling
abbrev pub Told : ℕ → Result MacroblockDecoded BlockAssemblyError → ℕ → List Parts → Type 0
Told at r n s = r ≡ Ok (record { bits = n; next = cursor_at (at + n); spellings = spellings_of (events_in s) })

-- where none of 9 to 15 holds
abbrev pub DemandAlone : List ℕ → ℕ → MacroblockHeader → Bool → Bool → MacroblockTextureContext → BlockPredictors → List (List ℕ) → List ℤ → Result MacroblockDecoded BlockAssemblyError → List ℤ → Type 0
DemandAlone d at h dc_coded rev x p w before r after =
    state_of d at h x p w (length before) ≡ Ok tt
    → Demand3 (macroblock_bits (pattern_by h)) (GoodMacroblock dc_coded rev (pattern_by h)) d at x (values_alone h dc_coded x p w) (Accepted r) (Told at r) before after

-- refused by 1 or 17
abbrev pub Stopped : Result MacroblockDecoded BlockAssemblyError → Type 0
Stopped (Ok d) = ⊥
Stopped (Err e) = T (stopped (number_of e))

-- where none of 9 to 15 holds: a sentence that breaks off is told so, never as bad
abbrev pub StoppedAlone : List ℕ → ℕ → MacroblockHeader → Bool → Bool → MacroblockTextureContext → BlockPredictors → List (List ℕ) → ℕ → Result MacroblockDecoded BlockAssemblyError → Type 0
StoppedAlone d at h dc_coded rev x p w room r =
    state_of d at h x p w room ≡ Ok tt → (s : List Parts) → BreaksOffAt d at dc_coded rev (pattern_by h) s → Stopped r
