-- What a call over lent memory answers and leaves there, refusals and memory that is too short included. Definitions only.
use Rattle.std.specs.Prelude.{Bool, cond, not, ◌&&◌, List, ℕ, eqb, leb, ℤ, length, Err, Ok, Result}
use Rattle.assembly.specs.declared.error.BlockAssemblyError.TheVariants.{TooShort}
use Rattle.assembly.specs.declared.context.MacroblockTextureContext.{MacroblockTextureContext}
use Rattle.prediction.specs.declared.predictor.BlockPredictors.{BlockPredictors}
use Rattle.macroblock.specs.Answer.{macroblock_answer, samples_out as samplesAlone}
use Rattle.headers.specs.declared.header.MacroblockHeader.{MacroblockHeader}
use Rattle.picture.specs.Call.{Input, answer_out, given, samples_out, store_out}
use Rattle.picture_state.specs.Outcomes.{opened_outcome}
use Rattle.picture_state.specs.Picture.{open_of}
use Rattle.vaxembro.specs.Answer.{answer_after, answer_length, number_in, told_alone, told_of}
use Rattle.vaxembro.specs.Lent.{context_by, dc_coded, header_by, matrix_of, neighbours_of, picture_of, reversible, state_after, texture_context_by}
use Rattle.macroblock.specs.declared.decode.MacroblockDecoded.{MacroblockDecoded}
use Rattle.assembly.specs.declared.error.BlockAssemblyError.{BlockAssemblyError}
use Rattle.picture.specs.declared.call.PictureDecoded.{PictureDecoded}
use Rattle.picture_state.specs.declared.picture.Picture.{Picture}

-- ---- memory that is long enough

-- the state has its five numbers
unfoldable pub state_long : List ℕ → Bool
state_long s = leb 5 (length s)

-- state or neighbours have `least` numbers, the matrix 64 and the answer its nine
unfoldable pub all_long : ℕ → ℕ → ℕ → ℕ → Bool
all_long least n w a = leb least n && (leb 64 w && leb answer_length a)

-- ---- an opening

-- any number but 0 is method 1
abbrev pub opened_by : ℕ → ℕ → ℕ → ℕ → Result Picture BlockAssemblyError
opened_by w h d q = open_of w h d (not (eqb q 0))

abbrev pub opened_number : Result Picture BlockAssemblyError → ℕ
opened_number o = number_in (opened_outcome o)

abbrev pub opened_state : Result Picture BlockAssemblyError → List ℕ → List ℕ
opened_state (Ok p) old = state_after p old
opened_state (Err e) old = old

-- ---- a call in a picture

-- what it is lent
pub record Lent : Type 0 where
  pub state : List ℕ
  pub bytes : List ℕ
  pub start : ℕ
  pub kind : ℕ
  pub y : ℕ
  pub c : ℕ
  pub scale : ℕ
  pub flags : ℕ
  pub matrix : List ℕ
  pub samples : List ℤ
  pub store : List ℤ
  pub answer : List ℕ

-- what it gives and leaves there
pub record Left : Type 0 where
  pub number : ℕ
  pub state : List ℕ
  pub samples : List ℤ
  pub store : List ℤ
  pub answer : List ℕ

abbrev pub lent : List ℕ → List ℕ → ℕ → ℕ → ℕ → ℕ → ℕ → ℕ → List ℕ → List ℤ → List ℤ → List ℕ → Lent
lent s b at k y c q f w xs st a =
    record { state = s; bytes = b; start = at; kind = k; y = y; c = c; scale = q; flags = f; matrix = w; samples = xs; store = st; answer = a }

abbrev pub left : ℕ → List ℕ → List ℤ → List ℤ → List ℕ → Left
left n s xs st a = record { number = n; state = s; samples = xs; store = st; answer = a }

-- the picture with one more accepted; a refusal leaves the state
abbrev pub state_out : Result PictureDecoded BlockAssemblyError → List ℕ → List ℕ
state_out (Ok d) old = state_after d.picture old
state_out (Err e) old = old

module _ (x : Lent) where
  -- state, matrix and answer are long enough
  abbrev pub room_in : Bool
  room_in = all_long 5 (length x.state) (length x.matrix) (length x.answer)

  -- what the call brings to the picture
  abbrev pub brought_in : Input
  brought_in = given x.bytes x.start (header_by x.kind x.y x.c x.flags) (context_by x.scale x.flags) (matrix_of x.matrix) x.samples

  -- the picture's answer; where memory is too short 14, before any other test
  abbrev pub decoded_in : Result PictureDecoded BlockAssemblyError
  decoded_in = cond room_in (answer_out (picture_of x.state) brought_in x.store) (Err TooShort)

  unfoldable pub left_in : Left
  left_in =
      record {
        number = (told_of decoded_in x.start).number;
        state = state_out decoded_in x.state;
        samples = cond room_in (samples_out (picture_of x.state) brought_in x.store) x.samples;
        store = cond room_in (store_out (picture_of x.state) brought_in x.store) x.store;
        answer = answer_after (told_of decoded_in x.start) x.answer;
      }

-- ---- a macroblock read alone

-- what it is lent
pub record LentAlone : Type 0 where
  pub bytes : List ℕ
  pub start : ℕ
  pub kind : ℕ
  pub y : ℕ
  pub c : ℕ
  pub scale : ℕ
  pub depth : ℕ
  pub flags : ℕ
  pub neighbours : List ℤ
  pub matrix : List ℕ
  pub samples : List ℤ
  pub answer : List ℕ

-- what it gives and leaves there
pub record LeftAlone : Type 0 where
  pub number : ℕ
  pub samples : List ℤ
  pub answer : List ℕ

abbrev pub lent_alone : List ℕ → ℕ → ℕ → ℕ → ℕ → ℕ → ℕ → ℕ → List ℤ → List ℕ → List ℤ → List ℕ → LentAlone
lent_alone b at k y c q d f n w xs a =
    record { bytes = b; start = at; kind = k; y = y; c = c; scale = q; depth = d; flags = f; neighbours = n; matrix = w; samples = xs; answer = a }

abbrev pub left_over : ℕ → List ℤ → List ℕ → LeftAlone
left_over n xs a = record { number = n; samples = xs; answer = a }

module _ (x : LentAlone) where
  -- neighbours, matrix and answer are long enough
  abbrev pub room_alone : Bool
  room_alone = all_long 21 (length x.neighbours) (length x.matrix) (length x.answer)

  -- what the lent numbers say, handed to the decoder's answer or its samples
  abbrev pub brought : {A : Type 0} → (MacroblockHeader → MacroblockTextureContext → BlockPredictors → List (List ℕ) → A) → A
  brought f = f (header_by x.kind x.y x.c x.flags) (texture_context_by x.scale x.depth x.flags) (neighbours_of x.neighbours) (matrix_of x.matrix)

  -- the decoder's answer; where memory is too short 14, before any other test
  abbrev pub decoded_alone : Result MacroblockDecoded BlockAssemblyError
  decoded_alone = cond room_alone (brought (λ h t n w. macroblock_answer x.bytes x.start h (dc_coded x.flags) (reversible x.flags) t n w x.samples)) (Err TooShort)

  unfoldable pub left_alone : LeftAlone
  left_alone =
      record {
        number = (told_alone decoded_alone x.start).number;
        samples = cond room_alone (brought (λ h t n w. samplesAlone x.bytes x.start h (dc_coded x.flags) (reversible x.flags) t n w x.samples)) x.samples;
        answer = answer_after (told_alone decoded_alone x.start) x.answer;
      }
