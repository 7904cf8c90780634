-- The header record of a macroblock (6.2.6, Table B.1), refusals 9 and 10, and what a header says: its fields and the quantiser after it (6.3.6). Definitions only.
use Rattle.std.specs.Prelude.{Bool, cond, false, not, true, List, [], ◌∷◌, ℕ, eqb, negsuc, pos, ℤ, ◌+ℤ◌, Result, ⊤, Option, None, Some}
use Rattle.codes.specs.Header.{cbpc_at, cbpy_at}
use Rattle.ranges.specs.Range.{limited_quantiser}
use Rattle.assembly.specs.Answer.{first_bad}
use Rattle.assembly.specs.Pattern.{pattern_of}
use Rattle.assembly.specs.declared.context.MacroblockTextureContext.{MacroblockTextureContext}
use Rattle.assembly.specs.declared.error.BlockAssemblyError.{BlockAssemblyError}
use Rattle.assembly.specs.declared.error.BlockAssemblyError.TheVariants.{NotCoded, NotIntra}
use Rattle.headers.specs.declared.header.DerivedMbType.{DerivedMbType}
use Rattle.headers.specs.declared.header.DerivedMbType.TheVariants.{Inter, Inter4V, InterQ, Intra, IntraQ, Missing}
use Rattle.headers.specs.declared.header.MacroblockHeader.{MacroblockHeader}
use Rattle.headers.specs.declared.parse.HeaderFields.{HeaderFields}
use Rattle.headers.specs.Header.{Header, changes_at, row_of}

abbrev pub is_intra : DerivedMbType → Bool
is_intra Missing = false
is_intra Inter = false
is_intra InterQ = false
is_intra Inter4V = false
is_intra Intra = true
is_intra IntraQ = true

-- 9, then 10
abbrev pub header_tests : MacroblockHeader → List (Bool × BlockAssemblyError)
header_tests h = (not h.not_coded, NotCoded) ∷ (is_intra h.mb_type, NotIntra) ∷ []

abbrev pub header_check : MacroblockHeader → Result ⊤ BlockAssemblyError
header_check h = first_bad (header_tests h)

-- which blocks are coded
abbrev pub pattern_by : MacroblockHeader → List Bool
pattern_by h = pattern_of h.cbpy h.cbpc

-- ---- what the header of an I-VOP says

-- the type of a row of mcbpc
abbrev pub type_by : ℕ → DerivedMbType
type_by row = cond (changes_at row) IntraQ Intra

-- with a row of mcbpc, a flag and a row of cbpy
abbrev pub record_by : ℕ → ℕ → ℕ → MacroblockHeader
record_by mcbpc flag cbpy = record { not_coded = false; mb_type = type_by mcbpc; cbpc = cbpc_at mcbpc; ac_pred_flag = eqb flag 1; cbpy = cbpy_at cbpy }

abbrev pub header_of : Header → MacroblockHeader
header_of h = record_by (row_of h.0) h.1.0 h.1.1.0

-- Table 6-32: 00 is -1, 01 is -2, 10 is 1, 11 is 2
abbrev pub delta_by : ℕ → ℤ
delta_by code = cond (eqb code 0) (negsuc 0) (cond (eqb code 1) (negsuc 1) (cond (eqb code 2) (pos 1) (pos 2)))

-- 0 where there is no dquant
abbrev pub delta_of : Option ℕ → ℤ
delta_of None = pos 0
delta_of (Some code) = delta_by code

-- the quantiser after a header, limited, of the quantiser before it
abbrev pub new_quantiser : ℕ → Header → ℕ
new_quantiser q h = limited_quantiser (pos q +ℤ delta_of h.1.1.1)

abbrev pub fields_of : ℕ → Header → HeaderFields
fields_of q h = record { header = header_of h; dquant_delta = delta_of h.1.1.1; quantiser_scale = new_quantiser q h }

-- the pattern of a header
abbrev pub pattern_in : Header → List Bool
pattern_in h = pattern_by (header_of h)

-- a context with a header's new quantiser and flag
abbrev pub context_with : HeaderFields → MacroblockTextureContext → MacroblockTextureContext
context_with f x =
    record {
      quantiser_scale = f.quantiser_scale;
      bits_per_pixel = x.bits_per_pixel;
      quant_type = x.quant_type;
      ac_pred_flag = f.header.ac_pred_flag;
      alternate_vertical_scan = x.alternate_vertical_scan;
      intra_mismatch_exempt = x.intra_mismatch_exempt;
      idct_rounding = x.idct_rounding;
    }
