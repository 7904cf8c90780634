-- `texture::list::read_list` meets its contract: what is left to answer stays the same after each event, and each takes bits. Assumes nothing.
use Rattle.std.proofs.Common.{Ok, ap, arith, refl, sym, ◌≡◌, ◌≤◌, ◌∙◌}
use mathlib.Core.Path.{subst⁻¹}
use Rattle.bits.specs.Bits.{bits_from}
use Rattle.bits.specs.declared.cursor.Cursor.{Cursor}
use Rattle.events.specs.Event.{value_of}
use Rattle.events.specs.Spellings.{total_of}
use Rattle.events.specs.declared.event.AcEvent.{AcEvent}
use Rattle.events.specs.declared.spelling.Spellings.{Spellings}
use Rattle.texture.proofs.LoopLaws.{Held, Turn, ended, ended_is, put_held, rest, rest-last, rest-no, rest-start, rest_more, turn, turn-no}
use Rattle.texture.specs.Inside.{State, listed_of, put_of, state_of}
use Rattle.texture.specs.Places.{zeros}
use Rattle.texture.proofs.list.read_list.Goals as goal
use Rattle.texture.proofs.list.read_list.Goals.{After-put-l, After-read_event}

-- the turn at an event that was read
here : (k : After-read_event) {v : AcEvent} {next : Cursor} → k.read_event.result ≡ Ok (v, next) → Turn k.args.«data».now k.args.reversible k.args.table k.loop-why.at.bit_pos v next
here k q = turn k.args.«data».now k.args.reversible k.args.table k.loop-why.at.bit_pos k.loop-why.invariant.0 k.requires.0.1 _ k.read_event.ensures q

-- the state before it and after it
abbrev before : After-put-l → State
before c = state_of c.loop-why.l c.loop-why.qfs

abbrev after : After-put-l → State
after c = state_of c.put-l.result c.put-l.new.qfs

abbrev At : After-put-l → Type 0
At c = Turn c.args.«data».now c.args.reversible c.args.table c.loop-why.at.bit_pos c.in-Ok.v c.in-Ok.next

state-is : (c : After-put-l) (t : At c) → after c ≡ put_of (before c) (value_of c.args.table t.e)
state-is c t = c.put-l.ensures ∙ ap (put_of (before c)) (sym t.is)

held_then : (c : After-put-l) → At c → Held (after c)
held_then c t = subst⁻¹ Held c.put-l.ensures (put_held (before c) c.in-Ok.v t.bounds.run_le c.loop-why.invariant.1)

pub loop-why-init : goal.loop-why-init
loop-why-init c =
    let a = c.args in
    let e = c.none.ensures in (
      c.requires.0.0,
      record {
        place-le = let h = c.requires.2 in omega arith;
        bad-le = omega arith;
        few = subst⁻¹ (λ (n : Spellings). total_of n ≤ a.first) e (omega arith);
        long = refl;
      },
      ap (λ (n : Spellings). rest a.reversible a.table (record { place = a.first; bad = 0; spellings = n; qfs = zeros }) (bits_from a.«data».now a.c.bit_pos)) (sym e),
    )

pub returns-in-Err : goal.returns-in-Err
returns-in-Err c =
    let l = c.loop-why in
    let a = c.args in
    let d = a.«data».now in
    let b = bits_from d l.at.bit_pos in
    let q = turn-no d a.reversible a.table l.at.bit_pos l.invariant.0 c.requires.0.1 _ c.read_event.ensures c.in-Err.is in
    c.refusal.ensures
    ∙ ap (listed_of d) (sym (rest-no a.reversible a.table (state_of l.l l.qfs) b q) ∙ sym l.invariant.2 ∙ rest-start a.reversible a.table a.first (bits_from d a.c.bit_pos))

pub put-l-requires : goal.put-l-requires
put-l-requires c =
    let h = c.loop-why.invariant.1 in
    let b = (here (goal.at.put-l-requires c).After-read_event c.in-Ok.is).bounds in
    (h.place-le, h.few, b.run_le, b.level-le, h.long)

pub close-requires : goal.close-requires
close-requires c =
    let p = goal.at.close-requires c in
    (held_then p.After-put-l (here p.After-read_event c.in-Ok.is)).bad-le

pub returns-then-v : goal.returns-then-v
returns-then-v c =
    let p = (goal.at.returns-then-v c).After-put-l in
    let t = here (goal.at.returns-then-v c).After-read_event c.in-Ok.is in
    let a = c.args in
    let d = a.«data».now in
    let next = c.in-Ok.next in
    c.close.ensures ∙ ended_is d (after p) next t.inside
    ∙ ap (listed_of d)
    (ap (λ (x : State). ended x (bits_from d next.bit_pos)) (state-is p t)
    ∙ sym (rest-last a.reversible a.table (before p) (bits_from d c.loop-why.at.bit_pos) t.e (bits_from d next.bit_pos) t.read (ap (λ (v : AcEvent). v.last) t.is ∙ c.if-v.true))
    ∙ sym c.loop-why.invariant.2 ∙ rest-start a.reversible a.table a.first (bits_from d a.c.bit_pos))

pub loop-why-smaller : goal.loop-why-smaller
loop-why-smaller c = (here (goal.at.loop-why-smaller c).After-read_event c.in-Ok.is).less

pub loop-why-preserved : goal.loop-why-preserved
loop-why-preserved c =
    let p = (goal.at.loop-why-preserved c).After-put-l in
    let t = here (goal.at.loop-why-preserved c).After-read_event c.in-Ok.is in
    let a = c.args in
    let d = a.«data».now in
    let next = c.in-Ok.next in (
      t.inside,
      held_then p t,
      c.loop-why.invariant.2
          ∙ rest_more a.reversible a.table (before p) (bits_from d c.loop-why.at.bit_pos) t.e (bits_from d next.bit_pos) t.read (ap (λ (v : AcEvent). v.last) t.is ∙ c.if-v.false)
          ∙ ap (λ (x : State). rest a.reversible a.table x (bits_from d next.bit_pos)) (sym (state-is p t)),
    )
