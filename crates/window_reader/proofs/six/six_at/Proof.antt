-- `window_reader::six::six_at` meets its contract: a loop of six blocks. Assumes nothing.
use mathlib.Core.Bool.{false}
use mathlib.Core.Path.{refl, subst}
use Prim.Native.Nat.{◌-◌}
use native.Mathlib.Nat.{le_refl}
use native.Mathlib.Omega.{arith}
use borrow.Author.Rules.{rules}
use lib.ListN.{get_or}
use Rattle.codes.specs.declared.dc_size.DcComponent.{DcComponent}
use Rattle.window_reader.proofs.PackedLaws.{packs-le}
use Rattle.window_reader.proofs.SixLaws.{Rows, rows_first, rows_last, rows_on}
use Rattle.window_reader.specs.Told.{BlockTold}
use Rattle.window_reader.proofs.six.six_at.Statement.{statement}
use Rattle.window_reader.proofs.six.six_at.Tie as tie

abbrev invariant-loop-i : tie.invariant-loop-i
invariant-loop-i «data» short long start rows₀ ends₀ pattern at₀ spelled₀ i₀ rows ends at spelled i = Rows «data» start pattern i at spelled rows ends

abbrev decreases-loop-i : tie.decreases-loop-i
decreases-loop-i «data» short long start rows₀ ends₀ pattern at₀ spelled₀ i₀ rows ends at spelled i = 6 - i

loop-i-init : tie.Need-loop-i-init invariant-loop-i decreases-loop-i
loop-i-init c = let s = c.before.before.before in let a = s.args in rows_first a.«data».now a.start a.pattern a.rows.now a.ends.now s.requires.0.0 s.requires.2 s.requires.3

component-requires : tie.Need-component-requires invariant-loop-i decreases-loop-i
component-requires c κs = search rules

bounds-pattern-i : tie.Need-bounds-pattern-i invariant-loop-i decreases-loop-i
bounds-pattern-i c = let t = c.loop-i-test.true in omega arith

offset_bounds-rows-i : tie.Need-offset_bounds-rows-i invariant-loop-i decreases-loop-i
offset_bounds-rows-i c = let t = c.loop-i-test.true in omega arith

bounds-rows-i : tie.Need-bounds-rows-i invariant-loop-i decreases-loop-i
bounds-rows-i c = let t = c.loop-i-test.true in omega arith

block_at-one-requires : tie.Need-block_at-one-requires invariant-loop-i decreases-loop-i
block_at-one-requires c κs =
    let l = c.loop-i in
    let p = c.requires in
    ((l.invariant.inside, p.0.1), p.1, l.invariant.beyond l.i (le_refl l.i) c.loop-i-test.true)

returns-then-one-eq0 : tie.Need-returns-then-one-eq0 invariant-loop-i decreases-loop-i
returns-then-one-eq0 c = λ z. absurd (z refl)

offset_bounds-ends-i : tie.Need-offset_bounds-ends-i invariant-loop-i decreases-loop-i
offset_bounds-ends-i c = let t = c.loop-i-test.true in omega arith

bounds-ends-i : tie.Need-bounds-ends-i invariant-loop-i decreases-loop-i
bounds-ends-i c = let t = c.loop-i-test.true in omega arith

overflow_add-spelled : tie.Need-overflow_add-spelled invariant-loop-i decreases-loop-i
overflow_add-spelled c =
    let k = c.before.before.before in
    let l = k.loop-i in
    let top = l.invariant.turn-le in
    let few = packs-le (omega (arith, top)) l.invariant.packs in
    let more = packs-le (omega arith) (k.block_at-one.ensures c.if-one-eq0.false).packs in
    omega (arith, few, more)

overflow_step-i : tie.Need-overflow_step-i invariant-loop-i decreases-loop-i
overflow_step-i c = let t = c.loop-i-test.true in omega arith

loop-i-smaller : tie.Need-loop-i-smaller invariant-loop-i decreases-loop-i
loop-i-smaller c = let t = c.loop-i-test.true in omega arith

loop-i-preserved : tie.Need-loop-i-preserved invariant-loop-i decreases-loop-i
loop-i-preserved c =
    let k = c.before.before.before in
    let l = k.loop-i in
    let a = k.args in
    let d = a.«data».now in
    let one = k.block_at-one in
    let qfs = one.new.places in
    rows_on d a.start a.pattern l.i l.at l.spelled l.rows l.ends l.invariant k.loop-i-test.true one.result qfs
    (subst (λ (m : DcComponent). BlockTold d l.at m (get_or a.pattern l.i false) one.result qfs) k.component.ensures (one.ensures c.if-one-eq0.false))

returns : tie.Need-returns invariant-loop-i decreases-loop-i
returns c = λ z.
    let l = c.loop-i in
    let a = c.args in
    rows_last a.«data».now a.start a.pattern l.i l.at l.spelled l.rows l.ends l.invariant c.loop-i-test.false

pub six_at_spec : {M : Type 1} → statement M
six_at_spec =
    tie.close
    (tie.spec
    invariant-loop-i
    decreases-loop-i
    loop-i-init
    component-requires
    bounds-pattern-i
    offset_bounds-rows-i
    bounds-rows-i
    block_at-one-requires
    returns-then-one-eq0
    offset_bounds-ends-i
    bounds-ends-i
    overflow_add-spelled
    overflow_step-i
    loop-i-smaller
    loop-i-preserved
    returns)
