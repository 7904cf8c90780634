-- `eights::four_terms` meets its contract, one store a turn. Assumes nothing.
use mathlib.Core.List.{List}
use mathlib.Core.Path.{◌≡◌, refl}
use Prim.Native.Nat.{ℕ, ◌-◌, ◌≤◌}
use native.Mathlib.Omega.{arith}
use lib.Ieee.{Float, nan, binary64, of_bits, add, mul}
use lib.ListN.{get_or}
use Rattle.numbers.proofs.Fill.{part, cells-none, cells-more, cells_all}
use Rattle.numbers.specs.Grid.{build}
use Rattle.eights.proofs.four_terms.Statement.{statement}
use Rattle.eights.proofs.four_terms.Tie as tie

abbrev z : ℕ → Float
z k = of_bits binary64 0

abbrev g : Float → List Float → List Float → ℕ → Float
g f sums cosines x = add binary64 (get_or sums x nan) (mul binary64 f (get_or cosines x nan))

abbrev invariant-loop-x : tie.invariant-loop-x
invariant-loop-x f sums cosines out₀ x₀ out x = (x ≤ 4) × (out ≡ part 4 (g f sums cosines) z x)

abbrev decreases-loop-x : tie.decreases-loop-x
decreases-loop-x f sums cosines out₀ x₀ out x = 4 - x

loop-x-init : tie.Need-loop-x-init invariant-loop-x decreases-loop-x
unfolding build
loop-x-init c = (omega arith, cells-none 4 (g c.args.f c.args.sums c.args.cosines) z _ refl)

offset_bounds-sums-x : tie.Need-offset_bounds-sums-x invariant-loop-x decreases-loop-x
offset_bounds-sums-x c = omega arith

bounds-sums-x : tie.Need-bounds-sums-x invariant-loop-x decreases-loop-x
bounds-sums-x c = omega arith

offset_bounds-cosines-x : tie.Need-offset_bounds-cosines-x invariant-loop-x decreases-loop-x
offset_bounds-cosines-x c = omega arith

bounds-cosines-x : tie.Need-bounds-cosines-x invariant-loop-x decreases-loop-x
bounds-cosines-x c = omega arith

offset_bounds-out-x : tie.Need-offset_bounds-out-x invariant-loop-x decreases-loop-x
offset_bounds-out-x c = omega arith

bounds-out-x : tie.Need-bounds-out-x invariant-loop-x decreases-loop-x
bounds-out-x c = omega arith

overflow_step-x : tie.Need-overflow_step-x invariant-loop-x decreases-loop-x
overflow_step-x c = omega arith

loop-x-smaller : tie.Need-loop-x-smaller invariant-loop-x decreases-loop-x
loop-x-smaller c = omega arith

loop-x-preserved : tie.Need-loop-x-preserved invariant-loop-x decreases-loop-x
loop-x-preserved c = (omega arith, cells-more 4 _ _ nan _ _ _ c.loop-x-test.true c.loop-x.invariant.1 refl)

returns : tie.Need-returns invariant-loop-x decreases-loop-x
returns c = cells_all 4 _ _ _ _ c.loop-x-test.false c.loop-x.invariant.0 c.loop-x.invariant.1

pub four_terms_spec : {M : Type 1} → statement M
four_terms_spec =
    tie.close
    (tie.spec
    invariant-loop-x
    decreases-loop-x
    loop-x-init
    offset_bounds-sums-x
    bounds-sums-x
    offset_bounds-cosines-x
    bounds-cosines-x
    offset_bounds-out-x
    bounds-out-x
    overflow_step-x
    loop-x-smaller
    loop-x-preserved
    returns)
