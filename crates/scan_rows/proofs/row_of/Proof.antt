-- `scan_rows::row_of` meets its contract: each turn stores the place that the row names next. Assumes nothing.
use mathlib.Core.Path.{◌≡◌, refl}
use Prim.Native.Nat.{ℕ, ◌-◌, ◌≤◌, ◌<◌}
use native.Mathlib.Omega.{arith}
use lib.IntN.{pos}
use lib.ListN.{get_or}
use Rattle.numbers.specs.Grid.{build}
use Rattle.numbers.proofs.Fill.{part, cells-none, cells-more, cells_all}
use Rattle.numbers.proofs.Words.{held}
use Rattle.scan_rows.proofs.RowLaws.{inside-below}
use Rattle.scan_rows.proofs.row_of.Statement.{statement}
use Rattle.scan_rows.proofs.row_of.Tie as tie

abbrev invariant-loop-u : tie.invariant-loop-u
invariant-loop-u qfs at row₀ u₀ row u = (u ≤ 8) × (row ≡ part 8 (λ (j : ℕ). get_or qfs (get_or at j 0) (pos 0)) (λ (j : ℕ). pos 0) u)

abbrev decreases-loop-u : tie.decreases-loop-u
decreases-loop-u qfs at row₀ u₀ row u = 8 - u

loop-u-init : tie.Need-loop-u-init invariant-loop-u decreases-loop-u
unfolding build
loop-u-init c = (omega arith, cells-none 8 _ (λ (j : ℕ). pos 0) _ refl)

bounds-at-u : tie.Need-bounds-at-u invariant-loop-u decreases-loop-u
bounds-at-u c = omega arith

below : (c : tie.In-loop-u invariant-loop-u decreases-loop-u) → get_or c.args.at c.loop-u.u 0 < 64
below c = inside-below c.args.at c.requires.1 c.loop-u.u

overflow_cast-k : tie.Need-overflow_cast-k invariant-loop-u decreases-loop-u
overflow_cast-k c = omega (arith, below c)

offset_bounds-qfs-k : tie.Need-offset_bounds-qfs-k invariant-loop-u decreases-loop-u
offset_bounds-qfs-k c = omega (arith, below c)

bounds-qfs-k : tie.Need-bounds-qfs-k invariant-loop-u decreases-loop-u
bounds-qfs-k c = omega (arith, below c)

offset_bounds-row-u : tie.Need-offset_bounds-row-u invariant-loop-u decreases-loop-u
offset_bounds-row-u c = omega arith

bounds-row-u : tie.Need-bounds-row-u invariant-loop-u decreases-loop-u
bounds-row-u c = omega arith

overflow_step-u : tie.Need-overflow_step-u invariant-loop-u decreases-loop-u
overflow_step-u c = omega arith

loop-u-smaller : tie.Need-loop-u-smaller invariant-loop-u decreases-loop-u
loop-u-smaller c = omega arith

loop-u-preserved : tie.Need-loop-u-preserved invariant-loop-u decreases-loop-u
loop-u-preserved c =
    let a = c.args in
    let l = c.loop-u in
    let y = get_or a.qfs.now (get_or a.at l.u 0) (pos 0) in
    (omega arith, cells-more 8 _ _ (pos 0) _ _ _ c.loop-u-test.true l.invariant.1 (held y c.row-1.given))

returns : tie.Need-returns invariant-loop-u decreases-loop-u
returns c =
    let l = c.loop-u in
    cells_all 8 _ _ _ _ c.loop-u-test.false l.invariant.0 l.invariant.1

pub row_of_spec : {M : Type 1} → statement M
row_of_spec =
    tie.close
    (tie.spec
    invariant-loop-u
    decreases-loop-u
    loop-u-init
    bounds-at-u
    overflow_cast-k
    offset_bounds-qfs-k
    bounds-qfs-k
    offset_bounds-row-u
    bounds-row-u
    overflow_step-u
    loop-u-smaller
    loop-u-preserved
    returns)
