-- `eights::near_row` meets its contract, one store a turn. Assumes nothing.
use mathlib.Core.List.{List}
use mathlib.Core.Path.{◌≡◌, refl}
use Prim.Native.Nat.{ℕ, ◌-◌, ◌≤◌}
use native.Mathlib.Omega.{arith}
use lib.Ieee.{Float, nan, binary64, of_bits}
use lib.ListN.{get_or}
use Rattle.numbers.proofs.Fill.{part, cells-none, cells-more, cells_all}
use Rattle.numbers.specs.Grid.{build}
use Rattle.rounding.specs.Near.{near_f}
use Rattle.eights.proofs.near_row.Statement.{statement}
use Rattle.eights.proofs.near_row.Tie as tie

abbrev z : ℕ → Float
z k = of_bits binary64 0

abbrev f : List Float → ℕ → Float
f sums x = near_f (get_or sums x nan)

abbrev invariant-loop-x : tie.invariant-loop-x
invariant-loop-x sums out₀ x₀ out x = (x ≤ 8) × (out ≡ part 8 (f sums) z x)

abbrev decreases-loop-x : tie.decreases-loop-x
decreases-loop-x sums out₀ x₀ out x = 8 - x

loop-x-init : tie.Need-loop-x-init invariant-loop-x decreases-loop-x
unfolding build
loop-x-init c = (omega arith, cells-none 8 (f c.args.sums) z _ refl)

offset_bounds-sums-x : tie.Need-offset_bounds-sums-x invariant-loop-x decreases-loop-x
offset_bounds-sums-x c = omega arith

bounds-sums-x : tie.Need-bounds-sums-x invariant-loop-x decreases-loop-x
bounds-sums-x c = omega arith

offset_bounds-out-x : tie.Need-offset_bounds-out-x invariant-loop-x decreases-loop-x
offset_bounds-out-x c = omega arith

bounds-out-x : tie.Need-bounds-out-x invariant-loop-x decreases-loop-x
bounds-out-x c = omega arith

overflow_step-x : tie.Need-overflow_step-x invariant-loop-x decreases-loop-x
overflow_step-x c = omega arith

loop-x-smaller : tie.Need-loop-x-smaller invariant-loop-x decreases-loop-x
loop-x-smaller c = omega arith

loop-x-preserved : tie.Need-loop-x-preserved invariant-loop-x decreases-loop-x
loop-x-preserved c = (omega arith, cells-more 8 _ _ nan _ _ _ c.loop-x-test.true c.loop-x.invariant.1 refl)

returns : tie.Need-returns invariant-loop-x decreases-loop-x
returns c = cells_all 8 _ _ _ _ c.loop-x-test.false c.loop-x.invariant.0 c.loop-x.invariant.1

pub near_row_spec : {M : Type 1} → statement M
near_row_spec =
    tie.close
    (tie.spec
    invariant-loop-x
    decreases-loop-x
    loop-x-init
    offset_bounds-sums-x
    bounds-sums-x
    offset_bounds-out-x
    bounds-out-x
    overflow_step-x
    loop-x-smaller
    loop-x-preserved
    returns)
