-- `headers::parts::read_parts` meets its contract: mcbpc, then what follows it. Assumes nothing.
use Rattle.fields.proofs.ChainLaws.{number_in, number_is, refused-is}
use Rattle.numbers.proofs.Parts.{err_by}
use Rattle.headers.proofs.PartLaws.{no_row, parts_said, row_small, says_as}
use Rattle.headers.proofs.parts.read_parts.Goals as goal

pub read_rest-requires : goal.read_rest-requires
read_rest-requires c =
    let d = c.args.«data».now in
    let q = c.in_ok-mcbpc.was in
    ((number_in d _ _ c.read_type.ensures q, c.requires.1), row_small d _ (number_is d _ _ c.read_type.ensures q))

pub returns-in_err-mcbpc : goal.returns-in_err-mcbpc
returns-in_err-mcbpc c =
    let d = c.args.«data».now in
    says_as (err_by c.from_residual.ensures) (no_row d _ (refused-is d _ _ c.read_type.ensures c.in_err-mcbpc.was))

pub returns : goal.returns
returns c =
    let d = c.args.«data».now in
    parts_said d _ _ (number_is d _ _ c.read_type.ensures c.in_ok-mcbpc.was) c.read_rest.ensures
