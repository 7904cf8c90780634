-- `scan::inverse_scan` meets its contract: each turn stores the place that the grid names, which is below 64. Assumes nothing.
use mathlib.Core.List.{List}
use mathlib.Core.Path.{◌≡◌, refl, ap, ◌∙◌}
use Prim.Native.Nat.{ℕ, ◌≤◌, ◌<◌, ◌-◌}
use native.Mathlib.Omega.{arith}
use lib.IntN.{ℤ, pos}
use lib.ListN.{get_or}
use borrow.Author.Rules.{rules}
use Rattle.numbers.specs.Grid.{build, cell_n, grid}
use Rattle.numbers.proofs.Fill.{rows, filled, rows_none, rows_all, row-begins, row_ends, fill_more}
use Rattle.scan.proofs.ScanLaws.{grid-below}
use Rattle.scan.proofs.inverse_scan.Statement.{statement}
use Rattle.scan.proofs.inverse_scan.Tie as tie

abbrev f : List ℤ → List (List ℕ) → ℕ → ℕ → ℤ
f qfs g v u = get_or qfs (cell_n g v u) (pos 0)

abbrev z : ℕ → ℕ → ℤ
z v u = pos 0

abbrev invariant-loop-u : tie.invariant-loop-u
invariant-loop-u qfs grid pqf₀ v u₀ pqf u = (v < 8) × (u ≤ 8) × (pqf ≡ filled 8 8 (f qfs grid) z v u)

abbrev decreases-loop-u : tie.decreases-loop-u
decreases-loop-u qfs grid pqf₀ v u₀ pqf u = 8 - u

abbrev invariant-loop-v : tie.invariant-loop-v
invariant-loop-v qfs grid pqf₀ v₀ pqf v = (v ≤ 8) × (pqf ≡ rows 8 8 (f qfs grid) z v)

abbrev decreases-loop-v : tie.decreases-loop-v
decreases-loop-v qfs grid pqf₀ v₀ pqf v = 8 - v

scan_grid-grid-requires : tie.Need-scan_grid-grid-requires invariant-loop-u decreases-loop-u invariant-loop-v decreases-loop-v
scan_grid-grid-requires c κs = tt

loop-v-init : tie.Need-loop-v-init invariant-loop-u decreases-loop-u invariant-loop-v decreases-loop-v
unfolding build
loop-v-init c = (omega arith, rows_none 8 8 (f c.args.qfs c.scan_grid-grid.result) z _ refl)

loop-u-init : tie.Need-loop-u-init invariant-loop-u decreases-loop-u invariant-loop-v decreases-loop-v
loop-u-init c = (c.loop-v-test.true, omega arith, row-begins 8 8 _ _ _ _ c.loop-v-test.true c.loop-v.invariant.1)

offset_bounds-grid-v : tie.Need-offset_bounds-grid-v invariant-loop-u decreases-loop-u invariant-loop-v decreases-loop-v
offset_bounds-grid-v c = omega arith

bounds-grid-v : tie.Need-bounds-grid-v invariant-loop-u decreases-loop-u invariant-loop-v decreases-loop-v
bounds-grid-v c = omega arith

bounds-grid-u : tie.Need-bounds-grid-u invariant-loop-u decreases-loop-u invariant-loop-v decreases-loop-v
bounds-grid-u c = omega arith

bounds-qfs-n : tie.Need-bounds-qfs-n invariant-loop-u decreases-loop-u invariant-loop-v decreases-loop-v
bounds-qfs-n c =
    let g = c.before.before.before.before.before in
    rw g.scan_grid-grid.ensures (grid-below g.args.scan_type _ _)

overflow_cast-n : tie.Need-overflow_cast-n invariant-loop-u decreases-loop-u invariant-loop-v decreases-loop-v
overflow_cast-n c = omega (arith, bounds-qfs-n c)

offset_bounds-qfs-n : tie.Need-offset_bounds-qfs-n invariant-loop-u decreases-loop-u invariant-loop-v decreases-loop-v
offset_bounds-qfs-n c = omega (arith, bounds-qfs-n c)

offset_bounds-pqf-v : tie.Need-offset_bounds-pqf-v invariant-loop-u decreases-loop-u invariant-loop-v decreases-loop-v
offset_bounds-pqf-v c = omega arith

offset_bounds-pqf-u : tie.Need-offset_bounds-pqf-u invariant-loop-u decreases-loop-u invariant-loop-v decreases-loop-v
offset_bounds-pqf-u c = omega arith

bounds-pqf-v : tie.Need-bounds-pqf-v invariant-loop-u decreases-loop-u invariant-loop-v decreases-loop-v
bounds-pqf-v c = omega arith

bounds-pqf-u : tie.Need-bounds-pqf-u invariant-loop-u decreases-loop-u invariant-loop-v decreases-loop-v
bounds-pqf-u c = omega arith

overflow_step-u : tie.Need-overflow_step-u invariant-loop-u decreases-loop-u invariant-loop-v decreases-loop-v
overflow_step-u c = omega arith

loop-u-smaller : tie.Need-loop-u-smaller invariant-loop-u decreases-loop-u invariant-loop-v decreases-loop-v
loop-u-smaller c = omega arith

loop-u-preserved : tie.Need-loop-u-preserved invariant-loop-u decreases-loop-u invariant-loop-v decreases-loop-v
loop-u-preserved c =
    let l = c.before.before.before in
    let h = c.pqf-1.given in
    (l.loop-u.invariant.0, omega arith, fill_more 8 8 _ _ (pos 0) _ _ _ _ _ l.loop-u.invariant.0 c.loop-u-test.true l.loop-u.invariant.2 (search rules))

overflow_step-v : tie.Need-overflow_step-v invariant-loop-u decreases-loop-u invariant-loop-v decreases-loop-v
overflow_step-v c = omega arith

loop-v-smaller : tie.Need-loop-v-smaller invariant-loop-u decreases-loop-u invariant-loop-v decreases-loop-v
loop-v-smaller c = omega arith

loop-v-preserved : tie.Need-loop-v-preserved invariant-loop-u decreases-loop-u invariant-loop-v decreases-loop-v
loop-v-preserved c =
    let l = c.before in
    (omega arith, row_ends 8 8 _ _ _ _ _ l.loop-u.invariant.0 c.loop-u-test.false l.loop-u.invariant.1 l.loop-u.invariant.2)

returns : tie.Need-returns invariant-loop-u decreases-loop-u invariant-loop-v decreases-loop-v
returns c =
    let a = c.before in
    rows_all 8 8 _ _ _ _ c.loop-v-test.false a.loop-v.invariant.0 a.loop-v.invariant.1
    ∙ ap (λ (g : List (List ℕ)). grid 8 8 (f a.args.qfs g)) a.scan_grid-grid.ensures

pub inverse_scan_spec : {M : Type 1} → statement M
inverse_scan_spec =
    tie.close
    (tie.spec
    invariant-loop-u
    decreases-loop-u
    invariant-loop-v
    decreases-loop-v
    scan_grid-grid-requires
    loop-v-init
    loop-u-init
    offset_bounds-grid-v
    bounds-grid-v
    bounds-grid-u
    overflow_cast-n
    offset_bounds-qfs-n
    bounds-qfs-n
    offset_bounds-pqf-v
    offset_bounds-pqf-u
    bounds-pqf-v
    bounds-pqf-u
    overflow_step-u
    loop-u-smaller
    loop-u-preserved
    overflow_step-v
    loop-v-smaller
    loop-v-preserved
    returns)
