-- Calls whose header is in their bits: its fields as six signed numbers in lent memory, and what such a call answers and leaves there, refusals and memory that is too short included. Definitions only.
use Rattle.std.specs.Prelude.{Bool, cond, ◌&&◌, List, [], ◌++◌, ◌∷◌, ℕ, ◌-◌, leb, ltb, ℤ, pos, drop, length, Err, Ok, Result}
use Rattle.events.specs.Spellings.{no_spellings}
use Rattle.events.specs.declared.spelling.Spellings.{Spellings}
use Rattle.assembly.specs.declared.error.BlockAssemblyError.TheVariants.{TooShort}
use Rattle.headers.specs.Answer.{header_answer}
use Rattle.headers.specs.Outcomes.{header_read_outcome}
use Rattle.headers.specs.declared.header.DerivedMbType.{DerivedMbType}
use Rattle.headers.specs.declared.header.DerivedMbType.TheVariants.{Inter, Inter4V, InterQ, Intra, IntraQ, Missing}
use Rattle.headers.specs.declared.parse.HeaderFields.{HeaderFields}
use Rattle.macroblock.specs.WholeAnswer as A
use Rattle.picture.specs.Whole.{Bare, answer_out, bare, samples_out, store_out}
use Rattle.bits.specs.declared.cursor.Cursor.{Cursor}
use Rattle.assembly.specs.declared.error.BlockAssemblyError.{BlockAssemblyError}
use Rattle.macroblock.specs.declared.whole.WholeDecoded.{WholeDecoded}
use Rattle.picture.specs.declared.whole.PictureWholeDecoded.{PictureWholeDecoded}
use Rattle.picture.specs.WholeAnswered as P
use Rattle.picture_state.specs.declared.picture.Picture.{Picture}
use Rattle.vaxembro.specs.Answer.{answer_after, told_by}
use Rattle.vaxembro.specs.Calls.{all_long}
use Rattle.vaxembro.specs.Lent.{context_by, dc_coded, matrix_of, neighbours_of, picture_of, reversible, state_after, texture_context_by}
use Rattle.vaxembro.specs.declared.answer.Told.{Told}

-- ---- the six numbers of a header

abbrev pub type_number : DerivedMbType → ℤ
type_number Missing = pos 0
type_number Inter = pos 1
type_number InterQ = pos 2
type_number Inter4V = pos 3
type_number Intra = pos 4
type_number IntraQ = pos 5

abbrev pub bit_of : Bool → ℤ
bit_of set = cond set (pos 1) (pos 0)

-- a quantiser that a header makes is below 32; any other, which none makes, counts as 0
abbrev pub scale_of : ℕ → ℤ
scale_of q = cond (ltb q 32) (pos q) (pos 0)

abbrev pub header_length : ℕ
header_length = 6

-- type, cbpc, ac_pred_flag, cbpy, what dquant changes the quantiser by, and the quantiser after it; the rest is as before
unfoldable pub fields_after : HeaderFields → List ℤ → List ℤ
fields_after f old =
    (type_number f.header.mb_type ∷ pos f.header.cbpc ∷ bit_of f.header.ac_pred_flag ∷ pos f.header.cbpy ∷ f.dquant_delta ∷ scale_of f.quantiser_scale ∷ [])
    ++ drop header_length old

-- a refusal leaves them
abbrev pub header_out : Result (HeaderFields × Cursor) BlockAssemblyError → List ℤ → List ℤ
header_out (Ok (f, c)) old = fields_after f old
header_out (Err e) old = old

abbrev pub whole_header_out : Result WholeDecoded BlockAssemblyError → List ℤ → List ℤ
whole_header_out (Ok d) old = fields_after d.fields old
whole_header_out (Err e) old = old

abbrev pub whole_header_out_in : Result PictureWholeDecoded BlockAssemblyError → List ℤ → List ℤ
whole_header_out_in (Ok d) old = fields_after d.fields old
whole_header_out_in (Err e) old = old

-- ---- what is told of a call that started at `at`

-- a header's own bits, and no events
abbrev pub told_of_header : Result (HeaderFields × Cursor) BlockAssemblyError → ℕ → Told
told_of_header r at = told_by (λ (b : HeaderFields × ℕ). (b.1 - at, (b.1, no_spellings))) (header_read_outcome r) at

abbrev pub told_whole : Result WholeDecoded BlockAssemblyError → ℕ → Told
told_whole d at = told_by (λ (b : ℕ × (ℕ × (Spellings × HeaderFields))). (b.0, (b.1.0, b.1.1.0))) (A.whole_outcome d) at

abbrev pub told_whole_in : Result PictureWholeDecoded BlockAssemblyError → ℕ → Told
told_whole_in d at = told_by (λ (b : ℕ × (ℕ × (Spellings × (Picture × HeaderFields)))). (b.0, (b.1.0, b.1.1.0))) (P.whole_outcome d) at

-- ---- a header by itself

pub record LentHeader : Type 0 where
  pub bytes : List ℕ
  pub start : ℕ
  pub scale : ℕ
  pub header : List ℤ
  pub answer : List ℕ

pub record LeftHeader : Type 0 where
  pub number : ℕ
  pub header : List ℤ
  pub answer : List ℕ

abbrev pub lent_header : List ℕ → ℕ → ℕ → List ℤ → List ℕ → LentHeader
lent_header b at q h a = record { bytes = b; start = at; scale = q; header = h; answer = a }

abbrev pub left_header : ℕ → List ℤ → List ℕ → LeftHeader
left_header n h a = record { number = n; header = h; answer = a }

module _ (x : LentHeader) where
  -- the header's answer; where memory is too short 14, before any other test
  abbrev pub read_lent : Result (HeaderFields × Cursor) BlockAssemblyError
  read_lent = cond (all_long header_length (length x.header) 64 (length x.answer)) (header_answer x.bytes x.start x.scale) (Err TooShort)

  unfoldable pub left_of_header : LeftHeader
  left_of_header =
      record {
        number = (told_of_header read_lent x.start).number;
        header = header_out read_lent x.header;
        answer = answer_after (told_of_header read_lent x.start) x.answer;
      }

-- ---- a whole macroblock read alone

pub record LentWhole : Type 0 where
  pub bytes : List ℕ
  pub start : ℕ
  pub scale : ℕ
  pub depth : ℕ
  pub flags : ℕ
  pub neighbours : List ℤ
  pub matrix : List ℕ
  pub samples : List ℤ
  pub header : List ℤ
  pub answer : List ℕ

pub record LeftWhole : Type 0 where
  pub number : ℕ
  pub samples : List ℤ
  pub header : List ℤ
  pub answer : List ℕ

abbrev pub lent_whole : List ℕ → ℕ → ℕ → ℕ → ℕ → List ℤ → List ℕ → List ℤ → List ℤ → List ℕ → LentWhole
lent_whole b at q d f n w xs h a = record { bytes = b; start = at; scale = q; depth = d; flags = f; neighbours = n; matrix = w; samples = xs; header = h; answer = a }

abbrev pub whole_left : ℕ → List ℤ → List ℤ → List ℕ → LeftWhole
whole_left n xs h a = record { number = n; samples = xs; header = h; answer = a }

module _ (x : LentWhole) where
  -- neighbours, matrix, answer and header are long enough
  abbrev pub room_whole : Bool
  room_whole = all_long 21 (length x.neighbours) (length x.matrix) (length x.answer) && leb header_length (length x.header)

  abbrev pub decoded_whole : Result WholeDecoded BlockAssemblyError
  decoded_whole =
      cond room_whole
      (A.whole_answer x.bytes x.start (dc_coded x.flags) (reversible x.flags) (texture_context_by x.scale x.depth x.flags) (neighbours_of x.neighbours) (matrix_of x.matrix) x.samples)
      (Err TooShort)

  unfoldable pub left_whole : LeftWhole
  left_whole =
      record {
        number = (told_whole decoded_whole x.start).number;
        samples = cond room_whole
            (A.samples_out x.bytes x.start (dc_coded x.flags) (reversible x.flags) (texture_context_by x.scale x.depth x.flags) (neighbours_of x.neighbours) (matrix_of x.matrix) x.samples)
            x.samples;
        header = whole_header_out decoded_whole x.header;
        answer = answer_after (told_whole decoded_whole x.start) x.answer;
      }

-- ---- a whole macroblock in a picture

pub record LentWholeIn : Type 0 where
  pub state : List ℕ
  pub bytes : List ℕ
  pub start : ℕ
  pub scale : ℕ
  pub flags : ℕ
  pub matrix : List ℕ
  pub samples : List ℤ
  pub store : List ℤ
  pub header : List ℤ
  pub answer : List ℕ

pub record LeftWholeIn : Type 0 where
  pub number : ℕ
  pub state : List ℕ
  pub samples : List ℤ
  pub store : List ℤ
  pub header : List ℤ
  pub answer : List ℕ

abbrev pub lent_whole_in : List ℕ → List ℕ → ℕ → ℕ → ℕ → List ℕ → List ℤ → List ℤ → List ℤ → List ℕ → LentWholeIn
lent_whole_in s b at q f w xs st h a = record { state = s; bytes = b; start = at; scale = q; flags = f; matrix = w; samples = xs; store = st; header = h; answer = a }

abbrev pub whole_in : ℕ → List ℕ → List ℤ → List ℤ → List ℤ → List ℕ → LeftWholeIn
whole_in n s xs st h a = record { number = n; state = s; samples = xs; store = st; header = h; answer = a }

-- the picture with one more accepted; a refusal leaves the state
abbrev pub whole_state_out : Result PictureWholeDecoded BlockAssemblyError → List ℕ → List ℕ
whole_state_out (Ok d) old = state_after d.picture old
whole_state_out (Err e) old = old

module _ (x : LentWholeIn) where
  abbrev pub room_whole_in : Bool
  room_whole_in = all_long 5 (length x.state) (length x.matrix) (length x.answer) && leb header_length (length x.header)

  abbrev pub brought_bare : Bare
  brought_bare = bare x.bytes x.start (context_by x.scale x.flags) (matrix_of x.matrix) x.samples

  abbrev pub decoded_whole_in : Result PictureWholeDecoded BlockAssemblyError
  decoded_whole_in = cond room_whole_in (answer_out (picture_of x.state) brought_bare x.store) (Err TooShort)

  unfoldable pub left_whole_in : LeftWholeIn
  left_whole_in =
      record {
        number = (told_whole_in decoded_whole_in x.start).number;
        state = whole_state_out decoded_whole_in x.state;
        samples = cond room_whole_in (samples_out (picture_of x.state) brought_bare x.store) x.samples;
        store = cond room_whole_in (store_out (picture_of x.state) brought_bare x.store) x.store;
        header = whole_header_out_in decoded_whole_in x.header;
        answer = answer_after (told_whole_in decoded_whole_in x.start) x.answer;
      }
