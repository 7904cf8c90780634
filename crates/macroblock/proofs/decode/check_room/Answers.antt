-- `macroblock::decode::check_room` meets its contract: the tests of a block, then 14. Assumes nothing.
use borrow.Author.Tests.{lt-leb}
use Rattle.std.proofs.Common.{le-leb, sym, ◌∙◌}
use Rattle.std.specs.Prelude.{false, true}
use Rattle.numbers.proofs.Parts.{err_by}
use Rattle.macroblock.proofs.StateLaws.{room_after, room_bad}
use Rattle.macroblock.proofs.decode.check_room.Goals as goal

pub returns-in_err-check : goal.returns-in_err-check
returns-in_err-check c =
    let a = c.args in
    err_by c.from_residual.ensures ∙ sym (room_bad a.«data».now a.c.bit_pos a.ctx a.predictors a.w a.room (sym c.check.ensures.value ∙ c.in_err-check.was))

pub returns-then-room-lt-SAMPLES : goal.returns-then-room-lt-SAMPLES
returns-then-room-lt-SAMPLES c =
    let a = c.args in
    sym (room_after a.«data».now a.c.bit_pos a.ctx a.predictors a.w a.room false (sym c.check.ensures.value ∙ c.in_ok-check.was) (lt-leb 384 a.room c.if-room-lt-SAMPLES.true))

pub returns : goal.returns
returns c =
    let a = c.args in
    sym (room_after a.«data».now a.c.bit_pos a.ctx a.predictors a.w a.room true (sym c.check.ensures.value ∙ c.in_ok-check.was) (le-leb 384 a.room c.if-room-lt-SAMPLES.false))
