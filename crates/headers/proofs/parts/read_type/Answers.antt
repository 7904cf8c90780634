-- `headers::parts::read_type` meets its contract: stuffing changes nothing of the row that is still to come, and takes bits. Assumes nothing.
use Rattle.std.proofs.Common.{arith, refl, sym, ◌∙◌}
use Rattle.bits.proofs.BitLaws.{length-bits_from}
use Rattle.bits.specs.Bits.{bits_from}
use Rattle.codes.specs.Header.{mcbpc_codes, mcbpc_lens}
use Rattle.fields.proofs.ChainLaws.{code-says, number_in, number_is, refused-is}
use Rattle.fields.specs.Inside.{SaysNumber, invalid}
use Rattle.fields.specs.declared.code.CodeKind.TheVariants.{Header}
use Rattle.numbers.proofs.Parts.{err_by}
use Rattle.headers.proofs.McbpcLaws.{code_less, coded, row-found, row_later, row-refused}
use Rattle.headers.proofs.PartLaws.{says_as}
use Rattle.headers.proofs.parts.read_type.Goals as goal
use Rattle.headers.proofs.parts.read_type.Goals.{After-read_mcbpc}

-- what was read is the code's
says : (r : After-read_mcbpc) → SaysNumber r.args.«data».now r.read_mcbpc.result (coded (bits_from r.args.«data».now r.loop-row.at.bit_pos))
says r = code-says r.args.«data».now r.loop-row.at (r.loop-row.invariant.0, r.requires.1) _ mcbpc_codes mcbpc_lens 9 9 (invalid Header) r.read_mcbpc.ensures

pub loop-row-init : goal.loop-row-init
loop-row-init c = (c.requires.0, refl)

pub returns-in_err-row : goal.returns-in_err-row
returns-in_err-row c =
    let r = (goal.at.returns-in_err-row c).After-read_mcbpc in
    let d = c.args.«data».now in
    let l = c.loop-row in
    says_as (err_by c.from_residual.ensures) (record { is = sym (l.invariant.1 ∙ row-refused (bits_from d l.at.bit_pos) (refused-is d _ _ (says r) c.in_err-row.was)); inside = tt })

pub returns-then-row-lt8 : goal.returns-then-row-lt8
returns-then-row-lt8 c =
    let r = (goal.at.returns-then-row-lt8 c).After-read_mcbpc in
    let d = c.args.«data».now in
    let l = c.loop-row in
    record {
      is = sym (l.invariant.1 ∙ row-found (bits_from d l.at.bit_pos) (number_is d _ _ (says r) c.in_ok-row.was) c.if-row-lt8.true);
      inside = number_in d _ _ (says r) c.in_ok-row.was;
    }

pub loop-row-smaller : goal.loop-row-smaller
loop-row-smaller c =
    let r = (goal.at.loop-row-smaller c).After-read_mcbpc in
    let d = c.args.«data».now in
    let l = c.loop-row in
    let m = code_less (bits_from d l.at.bit_pos) (number_is d _ _ (says r) c.in_ok-row.was) in
    omega (arith, l.invariant.0, number_in d _ _ (says r) c.in_ok-row.was, length-bits_from d l.at.bit_pos, length-bits_from d c.in_ok-row.next.bit_pos)

pub loop-row-preserved : goal.loop-row-preserved
loop-row-preserved c =
    let r = (goal.at.loop-row-preserved c).After-read_mcbpc in
    let d = c.args.«data».now in
    let l = c.loop-row in (
      number_in d _ _ (says r) c.in_ok-row.was,
      l.invariant.1 ∙ row_later (bits_from d l.at.bit_pos) (number_is d _ _ (says r) c.in_ok-row.was) c.if-row-lt8.false,
    )
