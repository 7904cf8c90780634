-- `still_lines::steps::finish` meets its contract: room, the rest of a line, the `end` line. Assumes nothing.
use mathlib.Core.Bool.{true}
use mathlib.Core.Path.{◌≡◌, ap, ◌∙◌}
use Prim.Native.Nat.{◌≤◌}
use native.Mathlib.Omega.{arith}
use lib.ListN.{length}
use Rattle.numbers.proofs.Tests.{flag_passes, flag_refuses}
use Rattle.still_lines.proofs.RoomLaws.{done, room_data, room_line, room_text, undone}
use Rattle.still_lines.proofs.StepLaws.{moved, rest_fits}
use Rattle.still_lines.proofs.TextLaws.{said-long, second_count, second_out}
use Rattle.lines.specs.Fed.{rest_of}
use Rattle.still_lines.specs.Steps.{finish_by, left, lent, roomy, text_fed}
use Rattle.still_lines.specs.Still.{end_said}
use Rattle.still_lines.specs.declared.steps.Stepped.TheVariants.{Went}
use Rattle.still_lines.proofs.steps.finish.Goals as goal
use Rattle.still_lines.proofs.steps.finish.Goals.{Else-not-has_room}

-- there is room
room : (k : Else-not-has_room) → let a = k.args in roomy a.line.now a.«data».now a.out.now ≡ true
room k = flag_passes k.has_room.ensures k.if-not-has_room.false

pub returns-then-not-has_room : goal.returns-then-not-has_room
unfolding finish_by
returns-then-not-has_room c = undone _ _ (flag_refuses c.has_room.ensures c.if-not-has_room.true)

pub told-t-requires : goal.told-t-requires
told-t-requires c =
    let k = (goal.at.told-t-requires c).Else-not-has_room in
    let a = c.args in (
      rest_fits a.line.now a.r.n (room_line a.line.now a.«data».now a.out.now (room k)) c.rest-fed.ensures,
      (room_data a.line.now a.«data».now a.out.now (room k), room_text a.line.now a.«data».now a.out.now (room k)),
    )

pub put-said-requires : goal.put-said-requires
put-said-requires c =
    let k = (goal.at.put-said-requires c).Else-not-has_room in
    let a = c.args in
    let x = c.told-t.ensures in
    let n = c.ended-end.ensures.1 in
    let r = room_text a.line.now a.«data».now a.out.now (room k) in
    let text = text_fed a.r.still a.line.now a.samples.now a.store.now c.rest-fed.result in
    let few : length text ≤ 256 = omega (arith, x.still_value.1.1) in
    let long = ap length x.out ∙ said-long text a.out.now (omega arith) in
    (omega arith, omega (arith, long, x.still_value.1.1.1))

pub returns : goal.returns
unfolding finish_by
returns c =
    let k = (goal.at.returns c).Else-not-has_room in
    let a = c.args in
    let t = c.told-t.ensures in
    let o = moved a.r.still a.samples.now a.store.now a.«data».now a.out.now (λ i. a.line.now) c.rest-fed.ensures (t.still_value, (t.bytes, (t.samples, (t.store, t.out)))) in
    let w = o.0 in
    let end = c.ended-end.ensures.0 ∙ ap end_said w.0 in
    let text = text_fed a.r.still a.line.now a.samples.now a.store.now (rest_of a.r.n) in
    let count = second_count end text w.1.1.0 c.put-said.ensures.value.0 in
    let out = second_out end text w.1.1.0 a.out.now o.1.1.1.1 c.put-said.ensures.out in
    done _ _ (room k) (λ i. left (Went (record { still = w.0 i; n = 0 }) (count i)) (lent a.line.now (o.1.0 i) (o.1.1.0 i) (o.1.1.1.0 i) (out i)))
