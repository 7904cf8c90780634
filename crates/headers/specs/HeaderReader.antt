-- The reader of a header, in reading order: 1, 17 or 16 at mcbpc, 1 at ac_pred_flag, 1, 17 or 16 at cbpy, 1 at dquant. Definitions only.
use Rattle.std.specs.Prelude.{Bool, cond, ℕ, suc, zero, ltb, length}
use Rattle.bits.specs.Bits.{Bits}
use Rattle.codes.specs.Header.{cbpy_codes, cbpy_lens, mcbpc_codes, mcbpc_lens}
use Rattle.fields.specs.Inside.{invalid}
use Rattle.fields.specs.Reader.{Res, bind, code, field, mapped, no, ok}
use Rattle.fields.specs.declared.code.CodeKind.TheVariants.{Header as HeaderCode}
use Rattle.fields.specs.declared.error.TextureParseError.TheVariants.{Truncated}
use Rattle.sentences.specs.ComposeReader.{read_opt, read_pair, read_then}
use Rattle.headers.specs.Header.{Header, Mcbpc, Rest, changes_at, row_of}

-- one stuffing code more
abbrev pub one_more : Mcbpc → Mcbpc
one_more m = (suc m.0, m.1)

-- mcbpc, stuffing skipped; the fuel is the number of bits, of which each code takes one at least
unfoldable pub mcbpc_in : ℕ → Bits → Res Mcbpc
mcbpc_in zero b = no Truncated
mcbpc_in (suc n) b = bind (code mcbpc_codes mcbpc_lens 9 9 (invalid HeaderCode) b) (λ i r. cond (ltb i 8) (ok (0, i) r) (mapped one_more (mcbpc_in n r)))

unfoldable pub read_mcbpc : Bits → Res Mcbpc
read_mcbpc b = mcbpc_in (length b) b

abbrev pub read_rest : Bool → Bits → Res Rest
read_rest changes = read_pair (field 1) (read_pair (code cbpy_codes cbpy_lens 6 16 (invalid HeaderCode)) (read_opt changes (field 2)))

unfoldable pub read_header : Bits → Res Header
read_header = read_then read_mcbpc (λ (m : Mcbpc). read_rest (changes_at (row_of m)))
