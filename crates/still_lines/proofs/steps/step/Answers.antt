-- `still_lines::steps::step` meets its contract: room, a byte, and what it ends. Assumes nothing.
use mathlib.Core.Bool.{true}
use mathlib.Core.Path.{◌≡◌}
use Rattle.numbers.proofs.Tests.{flag_passes, flag_refuses}
use Rattle.still_lines.proofs.RoomLaws.{done, room_data, room_line, room_text, undone}
use Rattle.still_lines.proofs.StepLaws.{fed_fits, moved}
use Rattle.still_lines.specs.Steps.{left, lent, roomy, step_by}
use Rattle.still_lines.specs.declared.steps.Stepped.TheVariants.{Went}
use Rattle.still_lines.proofs.steps.step.Goals as goal
use Rattle.still_lines.proofs.steps.step.Goals.{Else-not-has_room}

-- there is room
room : (k : Else-not-has_room) → let a = k.args in roomy a.line.now a.«data».now a.out.now ≡ true
room k = flag_passes k.has_room.ensures k.if-not-has_room.false

pub returns-then-not-has_room : goal.returns-then-not-has_room
unfolding step_by
returns-then-not-has_room c = undone _ _ (flag_refuses c.has_room.ensures c.if-not-has_room.true)

pub keep-requires : goal.keep-requires
keep-requires c =
    let k = (goal.at.keep-requires c).Else-not-has_room in
    let a = c.args in
    room_line a.line.now a.«data».now a.out.now (room k)

pub told-t-requires : goal.told-t-requires
told-t-requires c =
    let k = (goal.at.told-t-requires c).Else-not-has_room in
    let a = c.args in
    let l = room_line a.line.now a.«data».now a.out.now (room k) in (
      fed_fits a.line.now a.r.n a.b l c.feed-fed.ensures c.keep.ensures,
      (room_data a.line.now a.«data».now a.out.now (room k), room_text a.line.now a.«data».now a.out.now (room k)),
    )

pub returns : goal.returns
unfolding step_by
returns c =
    let k = (goal.at.returns c).Else-not-has_room in
    let a = c.args in
    let t = c.told-t.ensures in
    let o = moved a.r.still a.samples.now a.store.now a.«data».now a.out.now c.keep.ensures c.feed-fed.ensures (t.still_value, (t.bytes, (t.samples, (t.store, t.out)))) in
    let w = o.0 in
    done _ _ (room k)
    (λ i. left (Went (record { still = w.0 i; n = w.1.0 i }) (w.1.1.0 i)) (lent (c.keep.ensures i) (o.1.0 i) (o.1.1.0 i) (o.1.1.1.0 i) (o.1.1.1.1 i)))
