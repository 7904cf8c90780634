-- `picture_state::state::check_neighbours` meets its contract: 13, or what is due. Assumes nothing.
use mathlib.Core.Bool.{false, true}
use Rattle.std.proofs.Common.{◌∙◌, ap, sym}
use Rattle.numbers.proofs.Tests.{flag_passes, flag_refuses}
use Rattle.picture_state.proofs.StateLaws.{due_is, neighbours_by}
use Rattle.picture_state.specs.State.{checked_by}
use Rattle.picture_state.proofs.state.check_neighbours.Goals as goal

pub returns-then-not-stored_fine : goal.returns-then-not-stored_fine
returns-then-not-stored_fine c =
    let a = c.args in
    sym (ap (checked_by a.p a.ctx) (neighbours_by a.p a.ctx a.store.now _ false c.place_of-place.ensures (flag_refuses c.stored_fine.ensures c.if-not-stored_fine.true)))

pub returns : goal.returns
returns c =
    let a = c.args in
    due_is a.p a.ctx _ _ c.place_of-place.ensures c.offset_of-own.ensures.0
    ∙ sym (ap (checked_by a.p a.ctx) (neighbours_by a.p a.ctx a.store.now _ true c.place_of-place.ensures (flag_passes c.stored_fine.ensures c.if-not-stored_fine.false)))
