-- `eights::settled` meets its contract, one test a turn. Assumes nothing.
use mathlib.Core.Bool.{Bool, ◌&&◌}
use mathlib.Core.Path.{◌≡◌, refl}
use Prim.Native.Nat.{◌-◌, ◌≤◌}
use native.Mathlib.Omega.{arith}
use lib.Ieee.{Float, lt, nan}
use lib.ListN.{drop, get_or}
use Rattle.numbers.specs.Every.{every}
use Rattle.rounding.specs.Near.{well_within_square}
use Rattle.numbers.proofs.EveryLaws.{test_done, test_more}
use Rattle.eights.proofs.settled.Statement.{statement}
use Rattle.eights.proofs.settled.Tie as tie

abbrev well : Float → Bool
well w = lt w well_within_square

abbrev invariant-loop-x : tie.invariant-loop-x
invariant-loop-x worst fine₀ x₀ fine x = (x ≤ 8) × (every well worst ≡ (fine && every well (drop x worst)))

abbrev decreases-loop-x : tie.decreases-loop-x
decreases-loop-x worst fine₀ x₀ fine x = 8 - x

loop-x-init : tie.Need-loop-x-init invariant-loop-x decreases-loop-x
loop-x-init c = (omega arith, refl)

offset_bounds-worst-x : tie.Need-offset_bounds-worst-x invariant-loop-x decreases-loop-x
offset_bounds-worst-x c = omega arith

bounds-worst-x : tie.Need-bounds-worst-x invariant-loop-x decreases-loop-x
bounds-worst-x c = omega arith

overflow_step-x : tie.Need-overflow_step-x invariant-loop-x decreases-loop-x
overflow_step-x c = omega arith

loop-x-smaller : tie.Need-loop-x-smaller invariant-loop-x decreases-loop-x
loop-x-smaller c = omega arith

loop-x-preserved : tie.Need-loop-x-preserved invariant-loop-x decreases-loop-x
loop-x-preserved c =
    let l = c.loop-x in
    let a = c.args in
    (omega arith, test_more well nan a.worst _ l.x l.fine (well (get_or a.worst l.x nan)) (omega arith) l.invariant.1 refl)

returns : tie.Need-returns invariant-loop-x decreases-loop-x
returns c = test_done well nan c.args.worst _ c.loop-x.x c.loop-x.fine (omega arith) c.loop-x.invariant.1

pub settled_spec : {M : Type 1} → statement M
settled_spec =
    tie.close
    (tie.spec
    invariant-loop-x
    decreases-loop-x
    loop-x-init
    offset_bounds-worst-x
    bounds-worst-x
    overflow_step-x
    loop-x-smaller
    loop-x-preserved
    returns)
