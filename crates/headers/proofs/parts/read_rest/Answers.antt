-- `headers::parts::read_rest` meets its contract: ac_pred_flag, cbpy, dquant. Assumes nothing.
use Rattle.std.proofs.Common.{arith}
use Rattle.bits.specs.Bits.{bits_from}
use Rattle.codes.specs.Header.{cbpy_codes, cbpy_lens}
use Rattle.fields.proofs.ChainLaws.{code-says, field-says, number_in, number_is, refused-is}
use Rattle.fields.specs.Inside.{Readable, SaysNumber, invalid}
use Rattle.fields.specs.Reader.{code, field}
use Rattle.fields.specs.declared.code.CodeKind.TheVariants.{Header}
use Rattle.numbers.proofs.Parts.{err_by}
use Rattle.headers.proofs.PartLaws.{no_cbpy, no_flag, rest-said, says_as}
use Rattle.headers.specs.Header.{changes_at}
use Rattle.headers.proofs.parts.read_rest.Goals as goal
use Rattle.headers.proofs.parts.read_rest.Goals.{After-read_cbpy, After-read_flag}

-- the flag
flag : (r : After-read_flag) → SaysNumber r.args.«data».now r.read_flag.result (field 1 (bits_from r.args.«data».now r.args.c.bit_pos))
flag r = field-says r.args.«data».now r.args.c r.requires.0 _ 1 (omega arith) r.read_flag.ensures

-- it was read
there : (h : After-read_cbpy) → SaysNumber h.args.«data».now h.read_flag.result (field 1 (bits_from h.args.«data».now h.args.c.bit_pos))
there h = field-says h.args.«data».now h.args.c h.requires.0 _ 1 (omega arith) h.read_flag.ensures

readable : (h : After-read_cbpy) → Readable h.args.«data».now h.in_ok-ac_pred_flag.next
readable h = (number_in h.args.«data».now _ _ (there h) h.in_ok-ac_pred_flag.was, h.requires.0.1)

-- cbpy
cbpy : (h : After-read_cbpy) → SaysNumber h.args.«data».now h.read_cbpy.result (code cbpy_codes cbpy_lens 6 16 (invalid Header) (bits_from h.args.«data».now h.in_ok-ac_pred_flag.next.bit_pos))
cbpy h = code-says h.args.«data».now h.in_ok-ac_pred_flag.next (readable h) _ cbpy_codes cbpy_lens 6 16 (invalid Header) h.read_cbpy.ensures

pub read_dquant-requires : goal.read_dquant-requires
read_dquant-requires c =
    let h = (goal.at.read_dquant-requires c).After-read_cbpy in
    ((number_in c.args.«data».now _ _ (cbpy h) c.in_ok-cbpy.was, c.requires.0.1), c.requires.1)

pub returns-in_err-ac_pred_flag : goal.returns-in_err-ac_pred_flag
returns-in_err-ac_pred_flag c =
    let r = (goal.at.returns-in_err-ac_pred_flag c).After-read_flag in
    let a = c.args in
    says_as (err_by c.from_residual.ensures) (no_flag a.«data».now a.mcbpc (changes_at a.mcbpc) _ (refused-is a.«data».now _ _ (flag r) c.in_err-ac_pred_flag.was))

pub returns-in_err-cbpy : goal.returns-in_err-cbpy
returns-in_err-cbpy c =
    let h = (goal.at.returns-in_err-cbpy c).After-read_cbpy in
    let a = c.args in
    let d = a.«data».now in
    says_as (err_by c.from_residual-in_err-cbpy.ensures) (no_cbpy d a.mcbpc (changes_at a.mcbpc) _ (number_is d _ _ (there h) c.in_ok-ac_pred_flag.was) (refused-is d _ _ (cbpy h) c.in_err-cbpy.was))

pub returns : goal.returns
returns c =
    let h = (goal.at.returns c).After-read_cbpy in
    let a = c.args in
    let d = a.«data».now in
    rest-said d a.mcbpc (changes_at a.mcbpc) _ (number_is d _ _ (there h) c.in_ok-ac_pred_flag.was) _ (number_is d _ _ (cbpy h) c.in_ok-cbpy.was) c.read_dquant.ensures
