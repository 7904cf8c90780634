-- `eights::row_in` meets its contract, one store a turn. Assumes nothing.
use mathlib.Core.Path.{◌≡◌, refl, ap}
use Prim.Native.Nat.{ℕ, ◌-◌, ◌≤◌}
use native.Mathlib.Omega.{arith}
use lib.Ieee.{Float, nan, binary64, of_bits, of_int}
use lib.IntN.{pos}
use lib.ListN.{get_or}
use borrow.Author.Rules.{rules}
use Rattle.numbers.proofs.Fill.{part, cells-none, cells-more, cells_all}
use Rattle.numbers.specs.Grid.{build}
use Rattle.eights.proofs.row_in.Statement.{statement}
use Rattle.eights.proofs.row_in.Tie as tie

abbrev z : ℕ → Float
z k = of_bits binary64 0

abbrev invariant-loop-u : tie.invariant-loop-u
invariant-loop-u row input₀ u₀ input u = (u ≤ 8) × (input ≡ part 8 (λ (k : ℕ). of_int binary64 (get_or row k (pos 0))) z u)

abbrev decreases-loop-u : tie.decreases-loop-u
decreases-loop-u row input₀ u₀ input u = 8 - u

loop-u-init : tie.Need-loop-u-init invariant-loop-u decreases-loop-u
unfolding build
loop-u-init c = (omega arith, cells-none 8 (λ (k : ℕ). of_int binary64 (get_or c.args.row k (pos 0))) z _ refl)

offset_bounds-row-u : tie.Need-offset_bounds-row-u invariant-loop-u decreases-loop-u
offset_bounds-row-u c = omega arith

bounds-row-u : tie.Need-bounds-row-u invariant-loop-u decreases-loop-u
bounds-row-u c = omega arith

int_to_float-input : tie.Need-int_to_float-input invariant-loop-u decreases-loop-u
int_to_float-input c = search rules

offset_bounds-input-u : tie.Need-offset_bounds-input-u invariant-loop-u decreases-loop-u
offset_bounds-input-u c = omega arith

bounds-input-u : tie.Need-bounds-input-u invariant-loop-u decreases-loop-u
bounds-input-u c = omega arith

overflow_step-u : tie.Need-overflow_step-u invariant-loop-u decreases-loop-u
overflow_step-u c = omega arith

loop-u-smaller : tie.Need-loop-u-smaller invariant-loop-u decreases-loop-u
loop-u-smaller c = omega arith

loop-u-preserved : tie.Need-loop-u-preserved invariant-loop-u decreases-loop-u
loop-u-preserved c = (omega arith, cells-more 8 _ _ nan _ _ _ c.loop-u-test.true c.loop-u.invariant.1 (ap (of_int binary64) (let h = c.row_known-1.given in let g = c.input-1.given in search rules)))

returns : tie.Need-returns invariant-loop-u decreases-loop-u
returns c = cells_all 8 _ _ _ _ c.loop-u-test.false c.loop-u.invariant.0 c.loop-u.invariant.1

pub row_in_spec : {M : Type 1} → statement M
row_in_spec =
    tie.close
    (tie.spec
    invariant-loop-u
    decreases-loop-u
    loop-u-init
    offset_bounds-row-u
    bounds-row-u
    int_to_float-input
    offset_bounds-input-u
    bounds-input-u
    overflow_step-u
    loop-u-smaller
    loop-u-preserved
    returns)
