-- The ideal picture: the list of the macroblocks accepted since its opening, neighbours looked up in it by column and row. Of a store it knows the length alone, which 14 asks for; 13 cannot arise. Definitions only.
use Rattle.std.specs.Prelude.{Bool, cond, false, List, [], ◌++◌, ◌∷◌, ℕ, ◌%◌, ◌*◌, ◌+◌, ◌-◌, ◌/◌, leb, ltb, ℤ, get_or, length, Err, Ok, Result, ⊤}
use Rattle.bits.specs.Bits.{bits_from}
use Rattle.bits.specs.Cursor.{in_data}
use Rattle.samples.specs.Samples.{macroblock_samples, samples_after}
use Rattle.sentences.specs.Macroblock.{Parts}
use Rattle.fields.specs.Reader.{Res, no, ok}
use Rattle.assembly.specs.Answer.{first_bad}
use Rattle.block_reader.specs.Rows.{rows_of}
use Rattle.assembly.specs.Values.{context_fine}
use Rattle.assembly.specs.declared.error.BlockAssemblyError.{BlockAssemblyError}
use Rattle.assembly.specs.declared.error.BlockAssemblyError.TheVariants.{Complete, Context, OutOfRange, Texture, TooShort}
use Rattle.macroblock.specs.Answer.{kept_by}
use Rattle.headers.specs.Fields.{fields_of, header_tests, pattern_by}
use Rattle.headers.specs.Header.{Header, header_bits}
use Rattle.headers.specs.HeaderReader.{read_header}
use Rattle.macroblock.specs.Six.{samples_of_six}
use Rattle.neighbours.specs.Neighbours.{found}
use Rattle.picture.specs.Call.{Input, answer_with, context_here, sentence_here}
use Rattle.picture.specs.Whole.{Bare, bare, behind, with_header}
use Rattle.picture_state.specs.Sizes.{store_for}
use Rattle.picture_state.specs.Picture.{context_of, open_of, picture_of}
use Rattle.picture_state.specs.declared.picture.Picture.{Picture}
use Rattle.history.specs.Remembered.{Neighbourhood, Remembered, remembered, values_of_all}
use Rattle.history.specs.Step.{Step, Told, decoded, handed, in_bits, opened, opening, whole_decoded}
use Rattle.picture.specs.declared.call.PictureDecoded.{PictureDecoded}

-- size, depth and method as opened, and what was accepted since
pub record Ideal : Type 0 where
  pub width : ℕ
  pub height : ℕ
  pub depth : ℕ
  pub method : Bool
  pub accepted : List Remembered

abbrev pub blank_ideal : ℕ → ℕ → ℕ → Bool → Ideal
blank_ideal w h depth method = record { width = w; height = h; depth = depth; method = method; accepted = [] }

-- the picture that it stands for
abbrev pub picture_now : Ideal → Picture
picture_now i = picture_of i.width i.height i.depth i.method (length i.accepted)

-- the macroblock of a column and a row
abbrev pub cell_of : Ideal → ℕ → ℕ → Remembered
cell_of i column row = get_or i.accepted (row * i.width + column) (record { dcs = []; levels = []; quantiser = 0 })

-- the three around the macroblock of a column and a row: missing only outside the picture
abbrev pub around_at : Ideal → ℕ → ℕ → Neighbourhood
around_at i column row =
    record {
      left = found (ltb 0 column) (cell_of i (column - 1) row);
      above_left = found (cond (ltb 0 column) (ltb 0 row) false) (cell_of i (column - 1) (row - 1));
      above = found (ltb 0 row) (cell_of i column (row - 1));
    }

-- around the macroblock that is due
abbrev pub around_in : Ideal → Neighbourhood
around_in i = around_at i (length i.accepted % i.width) (length i.accepted / i.width)

-- ---- a call, on a store of `room` numbers

-- without a header: 11, 12, 14, 15
abbrev pub bare_tests : ℕ → Ideal → Bare → List (Bool × BlockAssemblyError)
bare_tests room i x =
    (in_data (length x.bytes) x.start, OutOfRange)
    ∷ (context_fine (context_of (picture_now i) x.context) x.matrix, Context)
    ∷ (leb macroblock_samples (length x.samples), TooShort)
    ∷ (leb (store_for i.width) room, TooShort)
    ∷ (ltb (length i.accepted) (i.width * i.height), Complete)
    ∷ []

module _ (room : ℕ) (i : Ideal) (x : Input) where
  -- and then 9, 10
  abbrev pub ideal_tests : List (Bool × BlockAssemblyError)
  ideal_tests = bare_tests room i (bare x.bytes x.start x.context x.matrix x.samples) ++ header_tests x.header

  unfoldable pub ideal_state : Result ⊤ BlockAssemblyError
  ideal_state = first_bad ideal_tests

  -- the 64 places of each block of a sentence
  abbrev pub rows_here : List Parts → List (List ℤ)
  rows_here s = rows_of x.context.use_intra_dc_vlc (pattern_by x.header) s

  abbrev pub samples_ideal : Res (List Parts) → List ℤ
  samples_ideal (ok s r) = samples_after (samples_of_six (context_here (picture_now i) x) (values_of_all (context_here (picture_now i) x) x.matrix (around_in i) (rows_here s))) x.samples
  samples_ideal (no e) = x.samples

  -- what it is told, and what its samples hold
  abbrev pub answer_ideal : Result PictureDecoded BlockAssemblyError
  answer_ideal = answer_with (picture_now i) x ideal_state

  abbrev pub samples_then : List ℤ
  samples_then = kept_by ideal_state (samples_ideal (sentence_here (picture_now i) x)) x.samples

  unfoldable pub ideal : Told
  ideal = decoded answer_ideal samples_then

  -- what was accepted after it
  abbrev pub added_to : Result ⊤ BlockAssemblyError → Res (List Parts) → List Remembered
  added_to (Err e) y = i.accepted
  added_to (Ok tt) (no e) = i.accepted
  added_to (Ok tt) (ok s r) = i.accepted ++ (remembered (context_here (picture_now i) x) x.matrix (around_in i) (rows_here s) ∷ [])

  unfoldable pub onward_from : Ideal
  onward_from = record { width = i.width; height = i.height; depth = i.depth; method = i.method; accepted = added_to ideal_state (sentence_here (picture_now i) x) }

-- ---- a call whose header is in its bits: the tests that ask no header, the header, then the call behind it

module _ (room : ℕ) (i : Ideal) (x : Bare) where
  unfoldable pub bare_state : Result ⊤ BlockAssemblyError
  bare_state = first_bad (bare_tests room i x)

  abbrev pub header_here : Res Header
  header_here = read_header (bits_from x.bytes x.start)

  abbrev pub told_bare : Result ⊤ BlockAssemblyError → Res Header → Told
  told_bare (Err e) y = whole_decoded (Err e) x.samples
  told_bare (Ok tt) (no e) = whole_decoded (Err (Texture e)) x.samples
  told_bare (Ok tt) (ok h r) =
      whole_decoded (with_header (length (header_bits h)) (fields_of x.context.quantiser_scale h) (answer_ideal room i (behind x h))) (samples_then room i (behind x h))

  abbrev pub onward_bare : Result ⊤ BlockAssemblyError → Res Header → Ideal
  onward_bare (Err e) y = i
  onward_bare (Ok tt) (no e) = i
  onward_bare (Ok tt) (ok h r) = onward_from room i (behind x h)

-- ---- a step

-- an accepted opening begins a picture anew; a refused one leaves the open picture
abbrev pub reopened : Ideal → ℕ → ℕ → ℕ → Bool → Result Picture BlockAssemblyError → Ideal
reopened i w h depth method (Ok p) = blank_ideal w h depth method
reopened i w h depth method (Err e) = i

module _ (room : ℕ) where
  abbrev pub ideal_told : Ideal → Step → Told
  ideal_told i (opening w h depth method) = opened (open_of w h depth method)
  ideal_told i (handed x) = ideal room i x
  ideal_told i (in_bits x) = told_bare room i x (bare_state room i x) (header_here room i x)

  abbrev pub ideal_next : Ideal → Step → Ideal
  ideal_next i (opening w h depth method) = reopened i w h depth method (open_of w h depth method)
  ideal_next i (handed x) = onward_from room i x
  ideal_next i (in_bits x) = onward_bare room i x (bare_state room i x) (header_here room i x)
