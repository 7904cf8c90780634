-- What is answered of a whole macroblock read alone, what its lent samples hold afterwards, demand 3 of it, and what is told where it breaks off. Definitions only.
use Rattle.std.specs.Prelude.{Bool, List, [], ◌∷◌, ◌≡◌, ℕ, ◌+◌, ◌-◌, T, leb, ℤ, length, Err, Ok, Result, ⊤}
use Rattle.numbers.specs.Outcome.{Outcome, accepted, checked, refused}
use Rattle.bits.specs.Bits.{bits_from}
use Rattle.bits.specs.Cursor.{cursor_at, in_data}
use Rattle.coefficients.specs.Level.{predictors_fine}
use Rattle.prediction.specs.declared.predictor.BlockPredictors.{BlockPredictors}
use Rattle.samples.specs.Samples.{macroblock_samples, samples_after}
use Rattle.fields.specs.Answer.{after}
use Rattle.fields.specs.Outcomes.{read_as}
use Rattle.fields.specs.Reader.{Res, no, ok}
use Rattle.fields.specs.Stopped.{stopped}
use Rattle.events.specs.Spellings.{spellings_of}
use Rattle.events.specs.declared.spelling.Spellings.{Spellings}
use Rattle.sentences.specs.Compose.{BreaksOff}
use Rattle.sentences.specs.Macroblock.{events_in}
use Rattle.assembly.specs.Answer.{figure_of, number_of}
use Rattle.assembly.specs.Values.{context_fine}
use Rattle.assembly.specs.declared.context.MacroblockTextureContext.{MacroblockTextureContext}
use Rattle.assembly.specs.declared.error.BlockAssemblyError.TheVariants.{Texture}
use Rattle.headers.specs.Fields.{context_with, fields_of, header_of}
use Rattle.headers.specs.Header.{Header}
use Rattle.headers.specs.declared.parse.HeaderFields.{HeaderFields}
use Rattle.macroblock.specs.Answer.{kept_by, room_of, values_alone}
use Rattle.macroblock.specs.Demand.{Demand3}
use Rattle.macroblock.specs.Six.{samples_of_six}
use Rattle.macroblock.specs.Whole.{GoodWhole, Whole, whole_bits}
use Rattle.macroblock.specs.WholeReader.{read_whole}
use Rattle.assembly.specs.declared.error.BlockAssemblyError.{BlockAssemblyError}
use Rattle.macroblock.specs.declared.decode.MacroblockDecoded.{MacroblockDecoded}
use Rattle.macroblock.specs.declared.whole.WholeDecoded.{WholeDecoded}

-- what the reader makes of the bits from the start to the end of the data
unfoldable pub whole_of : List ℕ → ℕ → Bool → Bool → Res Whole
whole_of d at dc_coded rev = read_whole dc_coded rev (bits_from d at)

-- the context with a header's new quantiser and flag
abbrev pub context_in : MacroblockTextureContext → Header → MacroblockTextureContext
context_in x h = context_with (fields_of x.quantiser_scale h) x

-- the dequantised values, each block with the predictors handed in
abbrev pub values_whole : Bool → MacroblockTextureContext → BlockPredictors → List (List ℕ) → Whole → List (List (List ℤ))
values_whole dc_coded x p w m = values_alone (header_of m.0) dc_coded (context_in x m.0) p w m.1

-- ---- of what was read, with the quantiser q before the header

abbrev pub whole_told : List ℕ → ℕ → ℕ → Res Whole → Result WholeDecoded BlockAssemblyError
whole_told d at q (ok m r) = Ok (record { bits = (after d r).bit_pos - at; next = after d r; spellings = spellings_of (events_in m.1); fields = fields_of q m.0 })
whole_told d at q (no e) = Err (Texture e)

abbrev pub samples_whole : Bool → MacroblockTextureContext → BlockPredictors → List (List ℕ) → Res Whole → List ℤ → List ℤ
samples_whole dc_coded x p w (ok m r) old = samples_after (samples_of_six (context_in x m.0) (values_whole dc_coded x p w m)) old
samples_whole dc_coded x p w (no e) old = old

-- the answer of the macroblock behind a header of n bits, with the header in front
abbrev pub with_header : ℕ → HeaderFields → Result MacroblockDecoded BlockAssemblyError → Result WholeDecoded BlockAssemblyError
with_header n f (Ok d) = Ok (record { bits = n + d.bits; next = d.next; spellings = d.spellings; fields = f })
with_header n f (Err e) = Err e

-- ---- of the call

abbrev pub whole_by : Result ⊤ BlockAssemblyError → Result WholeDecoded BlockAssemblyError → Result WholeDecoded BlockAssemblyError
whole_by (Ok tt) a = a
whole_by (Err e) a = Err e

-- answered without a number, or refused by 1 or 17
abbrev pub Accepted : Result WholeDecoded BlockAssemblyError → Type 0
Accepted (Ok d) = Unit {0}
Accepted (Err e) = ⊥

abbrev pub Stopped : Result WholeDecoded BlockAssemblyError → Type 0
Stopped (Ok d) = ⊥
Stopped (Err e) = T (stopped (number_of e))

-- n bits, the position n bits on, the events of each spelling, and the header's fields
abbrev pub Told : ℕ → ℕ → Result WholeDecoded BlockAssemblyError → ℕ → Whole → Type 0
Told at q r n m = r ≡ Ok (record { bits = n; next = cursor_at (at + n); spellings = spellings_of (events_in m.1); fields = fields_of q m.0 })

-- in document 01's numbers
abbrev pub whole_outcome : Result WholeDecoded BlockAssemblyError → Outcome (ℕ × (ℕ × (Spellings × HeaderFields)))
whole_outcome (Ok d) = accepted (d.bits, (d.next.bit_pos, (d.spellings, d.fields)))
whole_outcome (Err e) = refused (number_of e) (figure_of e)

abbrev pub whole_said : ℕ → ℕ → Whole → ℕ → ℕ × (ℕ × (Spellings × HeaderFields))
whole_said at q m position = (position - at, (position, (spellings_of (events_in m.1), fields_of q m.0)))

module _ (d : List ℕ) (at : ℕ) (dc_coded rev : Bool) (x : MacroblockTextureContext) (p : BlockPredictors) (w : List (List ℕ)) (old : List ℤ) where
  abbrev pub room_here : Result ⊤ BlockAssemblyError
  room_here = room_of d at x p w (length old)

  unfoldable pub whole_answer : Result WholeDecoded BlockAssemblyError
  whole_answer = whole_by room_here (whole_told d at x.quantiser_scale (whole_of d at dc_coded rev))

  unfoldable pub samples_out : List ℤ
  samples_out = kept_by room_here (samples_whole dc_coded x p w (whole_of d at dc_coded rev) old) old

  -- 11, 12, 13, 14, then what is read
  abbrev pub whole_due : Outcome (ℕ × (ℕ × (Spellings × HeaderFields)))
  whole_due =
      checked ((in_data (length d) at, 11) ∷ (context_fine x w, 12) ∷ (predictors_fine p, 13) ∷ (leb macroblock_samples (length old), 14) ∷ [])
      (read_as (whole_said at x.quantiser_scale) d (whole_of d at dc_coded rev))

  -- all that the call promises
  pub record WholeAnswered (r : Result WholeDecoded BlockAssemblyError) (out : List ℤ) : Type 0 where
    pub answer : r ≡ whole_answer
    pub samples : out ≡ samples_out
    -- demand 3, where none of 11 to 14 holds: the header belongs to the sentence, and the samples are worked out with its new quantiser and its flag
    pub demand : room_here ≡ Ok tt → Demand3 whole_bits (GoodWhole dc_coded rev) d at x (values_whole dc_coded x p w) (Accepted r) (Told at x.quantiser_scale r) old out
    -- the answer by number
    pub outcome : whole_outcome r ≡ whole_due
    -- a whole macroblock that breaks off is told so, never as bad
    pub stopped : room_here ≡ Ok tt → (m : Whole) → BreaksOff whole_bits (GoodWhole dc_coded rev) (bits_from d at) m → Stopped r
