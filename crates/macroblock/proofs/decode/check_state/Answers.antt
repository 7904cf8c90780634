-- `macroblock::decode::check_state` meets its contract: the tests without a header, then 9 and 10. Assumes nothing.
use Rattle.std.proofs.Common.{sym, ◌∙◌}
use Rattle.numbers.proofs.Parts.{err_by}
use Rattle.macroblock.proofs.StateLaws.{state-after, state-bad}
use Rattle.macroblock.proofs.decode.check_state.Goals as goal

pub returns-in_err-check_room : goal.returns-in_err-check_room
returns-in_err-check_room c =
    let a = c.args in
    err_by c.from_residual.ensures ∙ sym (state-bad a.«data».now a.c.bit_pos a.header a.ctx a.predictors a.w a.room (sym c.check_room.ensures ∙ c.in_err-check_room.was))

pub returns : goal.returns
returns c =
    let a = c.args in
    c.check_header.ensures.value
    ∙ sym (state-after a.«data».now a.c.bit_pos a.header a.ctx a.predictors a.w a.room (sym c.check_room.ensures ∙ c.in_ok-check_room.was))
