-- `eights::farther` meets its contract, one store a turn. Assumes nothing.
use mathlib.Core.List.{List}
use mathlib.Core.Path.{◌≡◌, refl}
use Prim.Native.Nat.{ℕ, ◌-◌, ◌≤◌}
use native.Mathlib.Omega.{arith}
use lib.Ieee.{Float, nan, binary64, of_bits, sub}
use lib.ListN.{get_or}
use Rattle.numbers.proofs.Fill.{part, cells-none, cells-more, cells_all}
use Rattle.numbers.specs.Grid.{build}
use Rattle.rounding.specs.Near.{square_f}
use Rattle.eights.specs.Eights.{greater_f}
use Rattle.eights.proofs.farther.Statement.{statement}
use Rattle.eights.proofs.farther.Tie as tie

abbrev z : ℕ → Float
z k = of_bits binary64 0

abbrev f : List Float → List Float → List Float → ℕ → Float
f worst sums near x = greater_f (get_or worst x nan) (square_f (sub binary64 (get_or sums x nan) (get_or near x nan)))

abbrev invariant-loop-x : tie.invariant-loop-x
invariant-loop-x worst sums near out₀ x₀ out x = (x ≤ 8) × (out ≡ part 8 (f worst sums near) z x)

abbrev decreases-loop-x : tie.decreases-loop-x
decreases-loop-x worst sums near out₀ x₀ out x = 8 - x

loop-x-init : tie.Need-loop-x-init invariant-loop-x decreases-loop-x
unfolding build
loop-x-init c = (omega arith, cells-none 8 (f c.args.worst c.args.sums c.args.near) z _ refl)

offset_bounds-sums-x : tie.Need-offset_bounds-sums-x invariant-loop-x decreases-loop-x
offset_bounds-sums-x c = omega arith

bounds-sums-x : tie.Need-bounds-sums-x invariant-loop-x decreases-loop-x
bounds-sums-x c = omega arith

offset_bounds-near-x : tie.Need-offset_bounds-near-x invariant-loop-x decreases-loop-x
offset_bounds-near-x c = omega arith

bounds-near-x : tie.Need-bounds-near-x invariant-loop-x decreases-loop-x
bounds-near-x c = omega arith

offset_bounds-worst-x : tie.Need-offset_bounds-worst-x invariant-loop-x decreases-loop-x
offset_bounds-worst-x c = omega arith

bounds-worst-x : tie.Need-bounds-worst-x invariant-loop-x decreases-loop-x
bounds-worst-x c = omega arith

greater-requires : tie.Need-greater-requires invariant-loop-x decreases-loop-x
greater-requires c κs = tt

offset_bounds-out-x : tie.Need-offset_bounds-out-x invariant-loop-x decreases-loop-x
offset_bounds-out-x c = omega arith

bounds-out-x : tie.Need-bounds-out-x invariant-loop-x decreases-loop-x
bounds-out-x c = omega arith

overflow_step-x : tie.Need-overflow_step-x invariant-loop-x decreases-loop-x
overflow_step-x c = omega arith

loop-x-smaller : tie.Need-loop-x-smaller invariant-loop-x decreases-loop-x
loop-x-smaller c = omega arith

loop-x-preserved : tie.Need-loop-x-preserved invariant-loop-x decreases-loop-x
loop-x-preserved c =
    let i = c.before in
    (omega arith, cells-more 8 _ _ nan _ _ _ i.loop-x-test.true i.loop-x.invariant.1 c.greater.ensures)

returns : tie.Need-returns invariant-loop-x decreases-loop-x
returns c = cells_all 8 _ _ _ _ c.loop-x-test.false c.loop-x.invariant.0 c.loop-x.invariant.1

pub farther_spec : {M : Type 1} → statement M
farther_spec =
    tie.close
    (tie.spec
    invariant-loop-x
    decreases-loop-x
    loop-x-init
    offset_bounds-sums-x
    bounds-sums-x
    offset_bounds-near-x
    bounds-near-x
    offset_bounds-worst-x
    bounds-worst-x
    greater-requires
    offset_bounds-out-x
    bounds-out-x
    overflow_step-x
    loop-x-smaller
    loop-x-preserved
    returns)
