-- What lent numbers mean. Definitions only.
use Rattle.std.specs.Prelude.{Bool, cond, not, List, [], ◌++◌, ◌∷◌, ℕ, ◌%◌, ◌*◌, ◌+◌, ◌/◌, ◌^◌, eqb, nat_abs, pos, ℤ, drop, get_or}
use Rattle.numbers.specs.Grid.{block}
use Rattle.rounding.specs.declared.HalfIntegerRounding.{HalfIntegerRounding}
use Rattle.rounding.specs.declared.HalfIntegerRounding.TheVariants.{AwayFromZero, ToEven}
use Rattle.prediction.specs.declared.predictor.BlockPredictors.{BlockPredictors}
use Rattle.assembly.specs.declared.context.MacroblockTextureContext.{MacroblockTextureContext}
use Rattle.headers.specs.declared.header.DerivedMbType.{DerivedMbType}
use Rattle.headers.specs.declared.header.DerivedMbType.TheVariants.{Inter, Inter4V, InterQ, Intra, IntraQ, Missing}
use Rattle.headers.specs.declared.header.MacroblockHeader.{MacroblockHeader}
use Rattle.record.specs.Record.{quantiser_of, seven_from}
use Rattle.picture_state.specs.declared.picture.MacroblockContext.{MacroblockContext}
use Rattle.picture_state.specs.declared.picture.Picture.{Picture}

-- ---- flags: one bit each, from the lowest

unfoldable pub flag_at : ℕ → ℕ → Bool
flag_at flags k = eqb (flags / 2 ^ k % 2) 1

abbrev pub not_coded : ℕ → Bool
not_coded flags = flag_at flags 0

abbrev pub ac_pred : ℕ → Bool
ac_pred flags = flag_at flags 1

abbrev pub alternate_scan : ℕ → Bool
alternate_scan flags = flag_at flags 2

abbrev pub mismatch_exempt : ℕ → Bool
mismatch_exempt flags = flag_at flags 3

abbrev pub rounding : ℕ → HalfIntegerRounding
rounding flags = cond (flag_at flags 4) ToEven AwayFromZero

abbrev pub dc_coded : ℕ → Bool
dc_coded flags = flag_at flags 5

abbrev pub reversible : ℕ → Bool
reversible flags = flag_at flags 6

abbrev pub method_one : ℕ → Bool
method_one flags = flag_at flags 7

-- ---- header and context

-- any number but 1 to 5 is no type
unfoldable pub type_of : ℕ → DerivedMbType
type_of n = cond (eqb n 1) Inter (cond (eqb n 2) InterQ (cond (eqb n 3) Inter4V (cond (eqb n 4) Intra (cond (eqb n 5) IntraQ Missing))))

unfoldable pub header_by : ℕ → ℕ → ℕ → ℕ → MacroblockHeader
header_by kind y c flags = record { not_coded = not_coded flags; mb_type = type_of kind; cbpc = c; ac_pred_flag = ac_pred flags; cbpy = y }

-- of a call in a picture
unfoldable pub context_by : ℕ → ℕ → MacroblockContext
context_by q flags =
    record {
      quantiser_scale = q;
      ac_pred_flag = ac_pred flags;
      alternate_vertical_scan = alternate_scan flags;
      intra_mismatch_exempt = mismatch_exempt flags;
      idct_rounding = rounding flags;
      use_intra_dc_vlc = dc_coded flags;
      reversible_vlc = reversible flags;
    }

-- of a macroblock read alone
unfoldable pub texture_context_by : ℕ → ℕ → ℕ → MacroblockTextureContext
texture_context_by q depth flags =
    record {
      quantiser_scale = q;
      bits_per_pixel = depth;
      quant_type = method_one flags;
      ac_pred_flag = ac_pred flags;
      alternate_vertical_scan = alternate_scan flags;
      intra_mismatch_exempt = mismatch_exempt flags;
      idct_rounding = rounding flags;
    }

-- ---- matrix, state and neighbours

-- 64 numbers, row by row
unfoldable pub matrix_of : List ℕ → List (List ℕ)
matrix_of l = block (λ (v u : ℕ). get_or l (8 * v + u) 0)

-- the picture of a state; any number but 0 is method 1
unfoldable pub picture_of : List ℕ → Picture
picture_of s = record { width = get_or s 0 0; height = get_or s 1 0; bits_per_pixel = get_or s 2 0; quant_type = not (eqb (get_or s 3 0) 0); accepted = get_or s 4 0 }

-- the first five numbers are the picture, the rest is as before
unfoldable pub state_after : Picture → List ℕ → List ℕ
state_after p old = (p.width ∷ p.height ∷ p.bits_per_pixel ∷ cond p.quant_type 1 0 ∷ p.accepted ∷ []) ++ drop 5 old

-- any number but 0 is yes
unfoldable pub there : ℤ → Bool
there z = not (eqb (nat_abs z) 0)

-- the DCs of A, B and C; the quantisers of A and C, a negative one as 0; whether A's column and C's row are there; A's column and C's row
unfoldable pub neighbours_of : List ℤ → BlockPredictors
neighbours_of l =
    record {
      fa_dc = get_or l 0 (pos 0);
      fb_dc = get_or l 1 (pos 0);
      fc_dc = get_or l 2 (pos 0);
      qp_a = quantiser_of (get_or l 3 (pos 0));
      qp_c = quantiser_of (get_or l 4 (pos 0));
      a_has_column = there (get_or l 5 (pos 0));
      a_first_column = seven_from l 7;
      c_has_row = there (get_or l 6 (pos 0));
      c_first_row = seven_from l 14;
    }
