-- What is said to each form, and the state between lines. Definitions only.
use Rattle.std.specs.Prelude.{Bool, cond, false, true, List, [], ℕ, ◌%◌, ◌/◌, eqb, ℤ, Err, Ok, Result}
use Rattle.rounding.specs.declared.HalfIntegerRounding.TheVariants.{AwayFromZero}
use Rattle.assembly.specs.Answer.{number_of}
use Rattle.assembly.specs.Matrix.{default_intra}
use Rattle.forms.specs.Forms.{Form, form_of, malformed, mb, picture}
use Rattle.forms.specs.declared.kind.Kind.{Kind}
use Rattle.forms.specs.declared.kind.Kind.TheVariants.{Inter, Inter4V, InterQ, Intra, IntraQ, Missing, Skipped}
use Rattle.headers.specs.declared.header.DerivedMbType.{DerivedMbType}
use Rattle.headers.specs.declared.header.DerivedMbType.TheVariants.{Inter as TypeInter, Inter4V as TypeInter4V, InterQ as TypeInterQ, Intra as TypeIntra, IntraQ as TypeIntraQ, Missing as NoType}
use Rattle.headers.specs.declared.header.MacroblockHeader.{MacroblockHeader}
use Rattle.picture.specs.Call.{Input, answer_out, given, samples_out, store_out}
use Rattle.picture_state.specs.Picture.{open_of, picture_of}
use Rattle.picture_state.specs.declared.picture.MacroblockContext.{MacroblockContext}
use Rattle.picture_state.specs.declared.picture.Picture.{Picture}
use Rattle.samples.specs.Samples.{macroblock_samples}
use Rattle.still_lines.specs.Spans.{part, span_of}
use Rattle.still_lines.specs.Text.{end_text, mb_refused_text, mb_text, picture_refused_text, picture_text}
use Rattle.still_lines.specs.declared.still.Still.{Still}
use Rattle.picture.specs.declared.call.PictureDecoded.{PictureDecoded}
use Rattle.assembly.specs.declared.error.BlockAssemblyError.{BlockAssemblyError}

-- before any line: no picture
abbrev pub unopened : Still
unopened = record { has_picture = false; picture = picture_of 1 1 8 false 0 }

-- the `end` line of an open picture
abbrev pub end_said : Still → List ℕ
end_said s = cond s.has_picture (end_text s.picture.accepted) []

-- ---- an opening: accepted, it first ends the picture before it; refused, the open picture goes on

abbrev pub opened_by : ℕ → ℕ → ℕ → ℕ → Result Picture BlockAssemblyError
opened_by w h d m = open_of w h d (eqb m 1)

abbrev pub still_opened : Still → Result Picture BlockAssemblyError → Still
still_opened s (Ok p) = record { has_picture = true; picture = p }
still_opened s (Err e) = s

abbrev pub text_opened : Still → ℕ → ℕ → ℕ → ℕ → Result Picture BlockAssemblyError → List ℕ
text_opened s w h d m (Ok p) = picture_text (end_said s) w h d m
text_opened s w h d m (Err e) = picture_refused_text (number_of e)

-- ---- a macroblock: the default matrix, DC codes, rounding away from zero, and no other options

abbrev pub type_of : Kind → DerivedMbType
type_of Intra = TypeIntra
type_of IntraQ = TypeIntraQ
type_of Inter = TypeInter
type_of InterQ = TypeInterQ
type_of Inter4V = TypeInter4V
type_of Missing = NoType
type_of Skipped = NoType

abbrev pub is_skipped : Kind → Bool
is_skipped Intra = false
is_skipped IntraQ = false
is_skipped Inter = false
is_skipped InterQ = false
is_skipped Inter4V = false
is_skipped Missing = false
is_skipped Skipped = true

abbrev pub header_of : Kind → ℕ → ℕ → ℕ → MacroblockHeader
header_of k a y c = record { not_coded = is_skipped k; mb_type = type_of k; cbpc = c % 256; ac_pred_flag = eqb a 1; cbpy = y % 256 }

abbrev pub context_of : ℕ → ℕ → MacroblockContext
context_of q a =
    record {
      quantiser_scale = q;
      ac_pred_flag = eqb a 1;
      alternate_vertical_scan = false;
      intra_mismatch_exempt = false;
      idct_rounding = AwayFromZero;
      use_intra_dc_vlc = true;
      reversible_vlc = false;
    }

abbrev pub input_of : ℕ → ℕ → Kind → ℕ → ℕ → List ℕ → List ℤ → Input
input_of q a k y c bytes samples = given bytes 0 (header_of k a y c) (context_of q a) default_intra samples

-- the place that is due; a width of 0 is no picture's
abbrev pub column_of : Picture → ℕ
column_of p = cond (eqb p.width 0) 0 (p.accepted % p.width)

abbrev pub row_of : Picture → ℕ
row_of p = cond (eqb p.width 0) 0 (p.accepted / p.width)

abbrev pub still_decoded : Still → Result PictureDecoded BlockAssemblyError → Still
still_decoded s (Ok d) = record { has_picture = s.has_picture; picture = d.picture }
still_decoded s (Err e) = s

-- the least and the greatest of luma, Cb and Cr as they are after the call
abbrev pub text_decoded : Picture → List ℤ → Result PictureDecoded BlockAssemblyError → List ℕ
text_decoded p after (Ok d) =
    mb_text (column_of p) (row_of p) d.bits (span_of (part after 0 256)).least (span_of (part after 0 256)).greatest (span_of (part after 256 320)).least (span_of (part after 256 320)).greatest
    (span_of (part after 320 macroblock_samples)).least (span_of (part after 320 macroblock_samples)).greatest
text_decoded p after (Err e) = mb_refused_text (column_of p) (row_of p) (number_of e)

-- ---- a line, with the samples and the store

module _ (s : Still) (samples store : List ℤ) where
  abbrev pub still_by : Form → Still
  still_by malformed = s
  still_by (picture w h d m) = still_opened s (opened_by w h d m)
  still_by (mb q a k y c bytes) = cond s.has_picture (still_decoded s (answer_out s.picture (input_of q a k y c bytes samples) store)) s

  abbrev pub text_by : Form → List ℕ
  text_by malformed = []
  text_by (picture w h d m) = text_opened s w h d m (opened_by w h d m)
  text_by (mb q a k y c bytes) =
      cond s.has_picture (text_decoded s.picture (samples_out s.picture (input_of q a k y c bytes samples) store) (answer_out s.picture (input_of q a k y c bytes samples) store)) []

  abbrev pub samples_by : Form → List ℤ
  samples_by malformed = samples
  samples_by (picture w h d m) = samples
  samples_by (mb q a k y c bytes) = cond s.has_picture (samples_out s.picture (input_of q a k y c bytes samples) store) samples

  abbrev pub store_by : Form → List ℤ
  store_by malformed = store
  store_by (picture w h d m) = store
  store_by (mb q a k y c bytes) = cond s.has_picture (store_out s.picture (input_of q a k y c bytes samples) store) store

  unfoldable pub still_after : List ℕ → Still
  still_after l = still_by (form_of l)

  unfoldable pub text_after : List ℕ → List ℕ
  text_after l = text_by (form_of l)

  unfoldable pub samples_after : List ℕ → List ℤ
  samples_after l = samples_by (form_of l)

  unfoldable pub store_after : List ℕ → List ℤ
  store_after l = store_by (form_of l)
