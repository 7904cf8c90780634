-- `window_reader::list::list_at` meets its contract: what is left to answer stays the same after each event, and each takes bits. Assumes nothing.
use mathlib.Core.Path.{subst⁻¹}
use Prim.Native.Nat.{◌*◌, ◌+◌, ◌-◌}
use native.Mathlib.Omega.{arith}
use borrow.Author.Rules.{rules}
use lib.ListN.{length}
use Rattle.window_reader.proofs.ListLaws.{Stands, Turn, put_last, put_on, stands_first, turn}
use Rattle.window_reader.proofs.PackedLaws.{event-le, packs-le}
use Rattle.window_reader.specs.Told.{ListTold}
use Rattle.window_reader.specs.declared.list.ListAt.{ListAt}
use Rattle.window_reader.proofs.list.list_at.Statement.{statement}
use Rattle.window_reader.proofs.list.list_at.Tie as tie

abbrev invariant-loop-e : tie.invariant-loop-e
invariant-loop-e «data» short long start places₀ at₀ place₀ spelled₀ places at place spelled = Stands «data» start at place spelled places

abbrev decreases-loop-e : tie.decreases-loop-e
decreases-loop-e «data» short long start places₀ at₀ place₀ spelled₀ places at place spelled = 8 * length «data» - at

-- the turn at an event that was told
here : (k : tie.Else-e-eq0 invariant-loop-e decreases-loop-e) → let l = k.before.before.before.before in
    Turn l.args.«data».now l.loop-e.at k.event_at-e.result
here k =
    let l = k.before.before.before.before in
    turn l.args.«data».now l.loop-e.at k.event_at-e.result (k.event_at-e.ensures k.if-e-eq0.false)

-- where the list stands after it
on : (c : tie.Else-e invariant-loop-e decreases-loop-e) → let p = c.before.before.before in let k = p.before.before in
    let l = k.before.before.before.before in
    let a = l.args in
    let e = k.event_at-e.result in
    Stands a.«data».now a.start e.next p.put_at-after.result (l.loop-e.spelled + e.spelled) p.put_at-after.new.places
on c =
    let p = c.before.before.before in
    let k = p.before.before in
    let l = k.before.before.before.before in
    let a = l.args in
    put_on a.«data».now a.start l.loop-e.at l.loop-e.place l.loop-e.spelled l.loop-e.places l.loop-e.invariant k.event_at-e.result (here k) _ _
    p.put_at-after.ensures.0 p.put_at-after.ensures.1 c.if-after-eq0.false c.if-e.false

-- the turn at a second event
there : (k : tie.Else-f-eq0 invariant-loop-e decreases-loop-e) → let e = k.before.before.before.before.before.before.before.before.before.before in
    Turn e.args.«data».now e.event_at-e.result.next k.second_at-f.result
there k =
    let e = k.before.before.before.before.before.before.before.before.before.before in
    turn e.args.«data».now e.event_at-e.result.next k.second_at-f.result
    (k.second_at-f.ensures k.if-f-eq0.false)

loop-e-init : tie.Need-loop-e-init invariant-loop-e decreases-loop-e
loop-e-init c = let s = c.before.before.before in stands_first s.args.«data».now s.args.start s.args.places.now s.requires.0.0 s.requires.2

ahead-w-requires : tie.Need-ahead-w-requires invariant-loop-e decreases-loop-e
ahead-w-requires c κs = tt

event_at-e-requires : tie.Need-event_at-e-requires invariant-loop-e decreases-loop-e
event_at-e-requires c κs =
    let l = c.before in
    let p = l.requires in
    ((l.loop-e.invariant.inside, p.0.1), p.1, c.ahead-w.ensures)

no_list-requires : tie.Need-no_list-requires invariant-loop-e decreases-loop-e
no_list-requires c κs = search rules

returns-then-e-eq0 : tie.Need-returns-then-e-eq0 invariant-loop-e decreases-loop-e
returns-then-e-eq0 c = λ z. absurd (z c.no_list.ensures)

put_at-after-requires : tie.Need-put_at-after-requires invariant-loop-e decreases-loop-e
put_at-after-requires c κs =
    let k = c.before in
    let s = k.loop-e.invariant in
    let t = here k in
    (s.place-le, t.run_le, t.level-le, s.long)

no_list-requires-then-after-eq0 : tie.Need-no_list-requires-then-after-eq0 invariant-loop-e decreases-loop-e
no_list-requires-then-after-eq0 c κs = search rules

returns-then-after-eq0 : tie.Need-returns-then-after-eq0 invariant-loop-e decreases-loop-e
returns-then-after-eq0 c = λ z. absurd (z c.no_list-then-after-eq0.ensures)

overflow_add-spelled : tie.Need-overflow_add-spelled invariant-loop-e decreases-loop-e
overflow_add-spelled c =
    let k = c.before.before.before.before in
    let s = k.loop-e.invariant in
    let t = here k in
    omega (arith, packs-le (let h = s.place-le in omega arith) s.packs, event-le t.e t.weighs)

list_to-requires : tie.Need-list_to-requires invariant-loop-e decreases-loop-e
list_to-requires c κs = search rules

returns-then-e : tie.Need-returns-then-e invariant-loop-e decreases-loop-e
returns-then-e c = λ z.
    let t = c.before in
    let p = t.before.before.before in
    let k = p.before.before in
    let l = k.before.before.before.before in
    let a = l.args in
    subst⁻¹ (λ (r : ListAt). ListTold a.«data».now a.start r p.put_at-after.new.places) c.list_to.ensures
    (put_last a.«data».now a.start l.loop-e.at l.loop-e.place l.loop-e.spelled l.loop-e.places l.loop-e.invariant k.event_at-e.result (here k) _ _
    p.put_at-after.ensures.0 p.put_at-after.ensures.1 t.if-after-eq0.false t.if-e.true)

second_at-f-requires : tie.Need-second_at-f-requires invariant-loop-e decreases-loop-e
second_at-f-requires c κs =
    let k = c.before.before.before.before.before in
    let l = k.before.before.before.before in
    let p = l.requires in
    let t = (here k).less in
    ((l.loop-e.invariant.inside, p.0.1), p.1, k.ahead-w.ensures, omega (arith, t))

loop-e-smaller-then-f-eq0 : tie.Need-loop-e-smaller-then-f-eq0 invariant-loop-e decreases-loop-e
loop-e-smaller-then-f-eq0 c = (here c.before.before.before.before.before.before.before.before).less

loop-e-preserved-then-f-eq0 : tie.Need-loop-e-preserved-then-f-eq0 invariant-loop-e decreases-loop-e
loop-e-preserved-then-f-eq0 c = on c.before.before.before

put_at-more-requires : tie.Need-put_at-more-requires invariant-loop-e decreases-loop-e
put_at-more-requires c κs =
    let k = c.before in
    let s = on k.before.before.before in
    let t = there k in
    (s.place-le, t.run_le, t.level-le, s.long)

no_list-requires-then-more-eq0 : tie.Need-no_list-requires-then-more-eq0 invariant-loop-e decreases-loop-e
no_list-requires-then-more-eq0 c κs = search rules

returns-then-more-eq0 : tie.Need-returns-then-more-eq0 invariant-loop-e decreases-loop-e
returns-then-more-eq0 c = λ z. absurd (z c.no_list-then-more-eq0.ensures)

overflow_add-spelled-in-loop-e : tie.Need-overflow_add-spelled-in-loop-e invariant-loop-e decreases-loop-e
overflow_add-spelled-in-loop-e c =
    let k = c.before.before.before.before in
    let s = on k.before.before.before in
    let t = there k in
    omega (arith, packs-le (let h = s.place-le in omega arith) s.packs, event-le t.e t.weighs)

list_to-requires-then-f : tie.Need-list_to-requires-then-f invariant-loop-e decreases-loop-e
list_to-requires-then-f c κs = search rules

returns-then-f : tie.Need-returns-then-f invariant-loop-e decreases-loop-e
returns-then-f c = λ z.
    let t = c.before in
    let p = t.before.before.before in
    let k = p.before.before in
    let f = k.before.before.before in
    let m = f.before.before.before in
    let e = m.event_at-e.result in
    let l = m.before.before.before.before.before.before in
    let a = l.args in
    subst⁻¹ (λ (r : ListAt). ListTold a.«data».now a.start r p.put_at-more.new.places) c.list_to-then-f.ensures
    (put_last a.«data».now a.start e.next m.put_at-after.result (l.loop-e.spelled + e.spelled) _ (on f) k.second_at-f.result (there k) _ _
    p.put_at-more.ensures.0 p.put_at-more.ensures.1 t.if-more-eq0.false t.if-f.true)

loop-e-smaller : tie.Need-loop-e-smaller invariant-loop-e decreases-loop-e
loop-e-smaller c =
    let k = c.before.before.before.before.before in
    let t = (there k).less in
    let u = (here k.before.before.before.before.before.before.before.before).less in
    omega (arith, t, u)

loop-e-preserved : tie.Need-loop-e-preserved invariant-loop-e decreases-loop-e
loop-e-preserved c =
    let p = c.before.before.before in
    let k = p.before.before in
    let f = k.before.before.before in
    let m = f.before.before.before in
    let e = m.event_at-e.result in
    let l = m.before.before.before.before.before.before in
    let a = l.args in
    put_on a.«data».now a.start e.next m.put_at-after.result (l.loop-e.spelled + e.spelled) _ (on f) k.second_at-f.result (there k) _ _
    p.put_at-more.ensures.0 p.put_at-more.ensures.1 c.if-more-eq0.false c.if-f.false

pub list_at_spec : {M : Type 1} → statement M
list_at_spec =
    tie.close
    (tie.spec
    invariant-loop-e
    decreases-loop-e
    loop-e-init
    ahead-w-requires
    event_at-e-requires
    no_list-requires
    returns-then-e-eq0
    put_at-after-requires
    no_list-requires-then-after-eq0
    returns-then-after-eq0
    overflow_add-spelled
    list_to-requires
    returns-then-e
    second_at-f-requires
    loop-e-smaller-then-f-eq0
    loop-e-preserved-then-f-eq0
    put_at-more-requires
    no_list-requires-then-more-eq0
    returns-then-more-eq0
    overflow_add-spelled-in-loop-e
    list_to-requires-then-f
    returns-then-f
    loop-e-smaller
    loop-e-preserved)
