-- `headers::parts::read_dquant` meets its contract: nothing, or two bits and what they say. Assumes nothing.
use Rattle.std.proofs.Common.{ap, arith, refl, ◌∙◌}
use lib.IntN.{ℤ}
use Rattle.bits.specs.Bits.{bits_from}
use Rattle.fields.proofs.ChainLaws.{field-says, number_in, number_is, refused-is}
use Rattle.fields.proofs.ReadLaws.{field-sound}
use Rattle.fields.specs.Inside.{SaysNumber}
use Rattle.fields.specs.Reader.{field}
use Rattle.numbers.proofs.Parts.{err_by}
use Rattle.numbers.proofs.Words.{held}
use Rattle.headers.proofs.PartLaws.{cut_dquant, dquant_said, no_dquant, says_as}
use Rattle.headers.proofs.parts.read_dquant.Goals as goal
use Rattle.headers.proofs.parts.read_dquant.Goals.{After-read_field}

-- what was read are two bits
says : (r : After-read_field) → SaysNumber r.args.«data».now r.read_field.result (field 2 (bits_from r.args.«data».now r.args.c.bit_pos))
says r = field-says r.args.«data».now r.args.c r.requires.0 _ 2 (omega arith) r.read_field.ensures.value

pub returns-then-mcbpc-lt4 : goal.returns-then-mcbpc-lt4
returns-then-mcbpc-lt4 c =
    let a = c.args in
    no_dquant a.«data».now a.mcbpc a.ac_pred_flag a.cbpy _ c.if-mcbpc-lt4.true a.c refl c.requires.0.0

pub dquant_value-requires : goal.dquant_value-requires
dquant_value-requires c =
    let r = (goal.at.dquant_value-requires c).After-read_field in
    let d = c.args.«data».now in
    (field-sound 2 (bits_from d c.args.c.bit_pos) (number_is d _ _ (says r) c.in_ok-code.was)).0

pub returns-in_err-code : goal.returns-in_err-code
returns-in_err-code c =
    let r = (goal.at.returns-in_err-code c).After-read_field in
    let a = c.args in
    let d = a.«data».now in
    says_as (err_by c.from_residual.ensures) (cut_dquant d a.mcbpc a.ac_pred_flag a.cbpy _ c.if-mcbpc-lt4.false c.requires.1 (refused-is d _ _ (says r) c.in_err-code.was))

pub returns : goal.returns
returns c =
    let r = (goal.at.returns c).After-read_field in
    let a = c.args in
    let d = a.«data».now in
    let v = c.dquant_value in
    dquant_said d a.mcbpc a.ac_pred_flag a.cbpy _ c.if-mcbpc-lt4.false c.requires.1 _ (number_is d _ _ (says r) c.in_ok-code.was) (number_in d _ _ (says r) c.in_ok-code.was) _
    (ap (λ (z : ℤ). record { mcbpc = a.mcbpc; ac_pred_flag = a.ac_pred_flag; cbpy = a.cbpy; dquant_delta = z }) (held v.result v.type_inv ∙ v.ensures))
