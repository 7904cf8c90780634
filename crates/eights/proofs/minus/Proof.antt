-- `eights::minus` meets its contract, one store a turn. Assumes nothing.
use mathlib.Core.List.{List}
use mathlib.Core.Path.{◌≡◌, refl}
use Prim.Native.Nat.{ℕ, ◌-◌, ◌≤◌}
use native.Mathlib.Omega.{arith}
use lib.Ieee.{Float, nan, binary64, of_bits, sub}
use lib.ListN.{get_or}
use Rattle.numbers.proofs.Fill.{part, cells-none, cells-more, cells_all}
use Rattle.numbers.specs.Grid.{build}
use Rattle.eights.proofs.minus.Statement.{statement}
use Rattle.eights.proofs.minus.Tie as tie

abbrev z : ℕ → Float
z k = of_bits binary64 0

abbrev g : List Float → List Float → ℕ → Float
g a b x = sub binary64 (get_or a x nan) (get_or b x nan)

abbrev invariant-loop-x : tie.invariant-loop-x
invariant-loop-x a b out₀ x₀ out x = (x ≤ 8) × (out ≡ part 8 (g a b) z x)

abbrev decreases-loop-x : tie.decreases-loop-x
decreases-loop-x a b out₀ x₀ out x = 8 - x

loop-x-init : tie.Need-loop-x-init invariant-loop-x decreases-loop-x
unfolding build
loop-x-init c = (omega arith, cells-none 8 (g c.args.a c.args.b) z _ refl)

offset_bounds-a-x : tie.Need-offset_bounds-a-x invariant-loop-x decreases-loop-x
offset_bounds-a-x c = omega arith

bounds-a-x : tie.Need-bounds-a-x invariant-loop-x decreases-loop-x
bounds-a-x c = omega arith

offset_bounds-b-x : tie.Need-offset_bounds-b-x invariant-loop-x decreases-loop-x
offset_bounds-b-x c = omega arith

bounds-b-x : tie.Need-bounds-b-x invariant-loop-x decreases-loop-x
bounds-b-x c = omega arith

offset_bounds-out-x : tie.Need-offset_bounds-out-x invariant-loop-x decreases-loop-x
offset_bounds-out-x c = omega arith

bounds-out-x : tie.Need-bounds-out-x invariant-loop-x decreases-loop-x
bounds-out-x c = omega arith

overflow_step-x : tie.Need-overflow_step-x invariant-loop-x decreases-loop-x
overflow_step-x c = omega arith

loop-x-smaller : tie.Need-loop-x-smaller invariant-loop-x decreases-loop-x
loop-x-smaller c = omega arith

loop-x-preserved : tie.Need-loop-x-preserved invariant-loop-x decreases-loop-x
loop-x-preserved c = (omega arith, cells-more 8 _ _ nan _ _ _ c.loop-x-test.true c.loop-x.invariant.1 refl)

returns : tie.Need-returns invariant-loop-x decreases-loop-x
returns c = cells_all 8 _ _ _ _ c.loop-x-test.false c.loop-x.invariant.0 c.loop-x.invariant.1

pub minus_spec : {M : Type 1} → statement M
minus_spec =
    tie.close
    (tie.spec
    invariant-loop-x
    decreases-loop-x
    loop-x-init
    offset_bounds-a-x
    bounds-a-x
    offset_bounds-b-x
    bounds-b-x
    offset_bounds-out-x
    bounds-out-x
    overflow_step-x
    loop-x-smaller
    loop-x-preserved
    returns)
