-- `idct::limits::row_within` meets its contract, one test a turn. Assumes nothing.
use mathlib.Core.Bool.{◌&&◌}
use mathlib.Core.Path.{◌≡◌, refl, ap, ◌∙◌}
use Prim.Native.Nat.{◌-◌, ◌≤◌}
use native.Mathlib.Omega.{arith}
use lib.IntN.{pos}
use lib.ListN.{drop}
use mir.Facts.{to_z-of_z}
use mir.Syntax.{w32}
use mir.Val.{of_z, to_z}
use borrow.Author.Rules.{rules}
use Rattle.numbers.specs.Every.{every}
use Rattle.ranges.specs.Range.{within}
use Rattle.numbers.proofs.EveryLaws.{test_done, test_more}
use Rattle.idct.proofs.limits.row_within.Statement.{statement}
use Rattle.idct.proofs.limits.row_within.Tie as tie

abbrev invariant-loop-u : tie.invariant-loop-u
invariant-loop-u lo hi row fine₀ u₀ fine u = (u ≤ 8) × (every (within (to_z w32 lo) (to_z w32 hi)) row ≡ (fine && every (within (to_z w32 lo) (to_z w32 hi)) (drop u row)))

abbrev decreases-loop-u : tie.decreases-loop-u
decreases-loop-u lo hi row fine₀ u₀ fine u = 8 - u

loop-u-init : tie.Need-loop-u-init invariant-loop-u decreases-loop-u
loop-u-init c = (omega arith, refl)

offset_bounds-row-u : tie.Need-offset_bounds-row-u invariant-loop-u decreases-loop-u
offset_bounds-row-u c = omega arith

bounds-row-u : tie.Need-bounds-row-u invariant-loop-u decreases-loop-u
bounds-row-u c = omega arith

inside-within-requires : tie.Need-inside-within-requires invariant-loop-u decreases-loop-u
inside-within-requires c κs = search rules

overflow_step-u : tie.Need-overflow_step-u invariant-loop-u decreases-loop-u
overflow_step-u c = omega arith

loop-u-smaller : tie.Need-loop-u-smaller invariant-loop-u decreases-loop-u
loop-u-smaller c = omega arith

loop-u-preserved : tie.Need-loop-u-preserved invariant-loop-u decreases-loop-u
loop-u-preserved c =
    let l = c.loop-u in
    let a = c.args in
    let k = c.inside-arg-1.given in
    (omega arith, test_more (within (to_z w32 (of_z w32 a.lo)) (to_z w32 (of_z w32 a.hi))) (pos 0) a.row _ l.u l.fine c.inside-within.result (omega arith) l.invariant.1 (c.inside-within.ensures ∙ ap (within (to_z w32 (of_z w32 a.lo)) (to_z w32 (of_z w32 a.hi))) (search rules)))

returns : tie.Need-returns invariant-loop-u decreases-loop-u
returns c =
    let s = c.before.before in
    let lo = to_z-of_z {w = w32} {z = s.args.lo} s.ranges.lo in
    let hi = to_z-of_z {w = w32} {z = s.args.hi} s.ranges.hi in
    test_done (within (to_z w32 (of_z w32 s.args.lo)) (to_z w32 (of_z w32 s.args.hi))) (pos 0) s.args.row _ c.loop-u.u c.loop-u.fine (omega arith) c.loop-u.invariant.1
    ∙ (λ i. every (within (lo i) (hi i)) s.args.row)

pub row_within_spec : {M : Type 1} → statement M
row_within_spec =
    tie.close
    (tie.spec
    invariant-loop-u
    decreases-loop-u
    loop-u-init
    offset_bounds-row-u
    bounds-row-u
    inside-within-requires
    overflow_step-u
    loop-u-smaller
    loop-u-preserved
    returns)
