-- What a call in a picture answers and leaves in the lent samples and store, refusals included. Definitions only.
use Rattle.std.specs.Prelude.{Bool, List, ℕ, ◌-◌, ℤ, length, Err, Ok, Result, ⊤}
use Rattle.samples.specs.Samples.{samples_after}
use Rattle.fields.specs.Answer.{after}
use Rattle.events.specs.Spellings.{spellings_of}
use Rattle.sentences.specs.Macroblock.{Parts, events_in}
use Rattle.fields.specs.Reader.{Res, no, ok}
use Rattle.block_reader.specs.Rows.{rows_of}
use Rattle.assembly.specs.declared.context.MacroblockTextureContext.{MacroblockTextureContext}
use Rattle.assembly.specs.declared.error.BlockAssemblyError.TheVariants.{Texture}
use Rattle.macroblock.specs.Answer.{kept_by, sentence_of}
use Rattle.headers.specs.Fields.{pattern_by}
use Rattle.macroblock.specs.Six.{samples_of_six}
use Rattle.headers.specs.declared.header.MacroblockHeader.{MacroblockHeader}
use Rattle.neighbours.specs.Neighbours.{Around}
use Rattle.record.specs.Record.{stored_at}
use Rattle.picture_state.specs.Picture.{context_of, onward}
use Rattle.picture_state.specs.Ring.{around_due, offset}
use Rattle.picture.specs.Serial.{record_of, values_in_turn}
use Rattle.picture_state.specs.State.{state_by}
use Rattle.picture_state.specs.declared.picture.MacroblockContext.{MacroblockContext}
use Rattle.picture_state.specs.declared.picture.Picture.{Picture}
use Rattle.assembly.specs.declared.error.BlockAssemblyError.{BlockAssemblyError}
use Rattle.picture.specs.declared.call.PictureDecoded.{PictureDecoded}

-- what a call brings
pub record Input : Type 0 where
  pub bytes : List ℕ
  pub start : ℕ
  pub header : MacroblockHeader
  pub context : MacroblockContext
  pub matrix : List (List ℕ)
  pub samples : List ℤ

abbrev pub given : List ℕ → ℕ → MacroblockHeader → MacroblockContext → List (List ℕ) → List ℤ → Input
given d at h m w s = record { bytes = d; start = at; header = h; context = m; matrix = w; samples = s }

-- the dequantised values of a sentence, each block with its own neighbours
abbrev pub values_here : MacroblockHeader → Bool → MacroblockTextureContext → List (List ℕ) → Around → List Parts → List (List (List ℤ))
values_here h dc_coded x w ar s = values_in_turn x w ar (rows_of dc_coded (pattern_by h) s)

-- what is kept of a sentence
abbrev pub record_here : MacroblockHeader → Bool → MacroblockTextureContext → List (List ℕ) → Around → List Parts → List ℤ
record_here h dc_coded x w ar s = record_of x w ar (rows_of dc_coded (pattern_by h) s)

-- ---- of what was read

abbrev pub answer_told : Picture → List ℕ → ℕ → Res (List Parts) → Result PictureDecoded BlockAssemblyError
answer_told p d at (ok s r) = Ok (record { bits = (after d r).bit_pos - at; next = after d r; spellings = spellings_of (events_in s); picture = onward p })
answer_told p d at (no e) = Err (Texture e)

abbrev pub samples_told : MacroblockHeader → Bool → MacroblockTextureContext → List (List ℕ) → Around → Res (List Parts) → List ℤ → List ℤ
samples_told h dc_coded x w ar (ok s r) old = samples_after (samples_of_six x (values_here h dc_coded x w ar s)) old
samples_told h dc_coded x w ar (no e) old = old

abbrev pub store_told : Picture → MacroblockHeader → Bool → MacroblockTextureContext → List (List ℕ) → Around → Res (List Parts) → List ℤ → List ℤ
store_told p h dc_coded x w ar (ok s r) old = stored_at old (offset p.width p.accepted 0) (record_here h dc_coded x w ar s)
store_told p h dc_coded x w ar (no e) old = old

-- ---- of the call, with the state and the neighbours that it finds

abbrev pub answer_by : Result ⊤ BlockAssemblyError → Result PictureDecoded BlockAssemblyError → Result PictureDecoded BlockAssemblyError
answer_by (Ok tt) a = a
answer_by (Err e) a = Err e

module _ (p : Picture) (x : Input) where
  abbrev pub context_here : MacroblockTextureContext
  context_here = context_of p x.context

  abbrev pub sentence_here : Res (List Parts)
  sentence_here = sentence_of x.bytes x.start x.header x.context.use_intra_dc_vlc x.context.reversible_vlc

  abbrev pub answer_with : Result ⊤ BlockAssemblyError → Result PictureDecoded BlockAssemblyError
  answer_with s = answer_by s (answer_told p x.bytes x.start sentence_here)

  abbrev pub samples_with : Result ⊤ BlockAssemblyError → Around → List ℤ
  samples_with s ar = kept_by s (samples_told x.header x.context.use_intra_dc_vlc context_here x.matrix ar sentence_here x.samples) x.samples

  abbrev pub store_with : Result ⊤ BlockAssemblyError → Around → List ℤ → List ℤ
  store_with s ar store = kept_by s (store_told p x.header x.context.use_intra_dc_vlc context_here x.matrix ar sentence_here store) store

  -- with a store
  module _ (store : List ℤ) where
    abbrev pub around_here : Around
    around_here = around_due p x.context.quantiser_scale store

    abbrev pub state_here : Result ⊤ BlockAssemblyError
    state_here = state_by p x.bytes x.start x.header context_here x.matrix (length x.samples) (length store) around_here

    unfoldable pub answer_out : Result PictureDecoded BlockAssemblyError
    answer_out = answer_with state_here

    unfoldable pub samples_out : List ℤ
    samples_out = samples_with state_here around_here

    unfoldable pub store_out : List ℤ
    store_out = store_with state_here around_here store
