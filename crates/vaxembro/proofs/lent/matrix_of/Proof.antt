-- `vaxembro::lent::matrix_of` meets its contract: each turn copies one number. Assumes nothing.
use mathlib.Core.List.{List}
use mathlib.Core.Path.{◌≡◌, refl}
use Prim.Native.Nat.{ℕ, ◌*◌, ◌+◌, ◌-◌, ◌<◌, ◌≤◌}
use native.Mathlib.Omega.{arith}
use lib.ListN.{get_or}
use Rattle.numbers.proofs.Fill.{rows, filled, rows_none, rows_all, row-begins, row_ends, fill_more}
use Rattle.numbers.specs.Grid.{build}
use Rattle.vaxembro.specs.Lent.{matrix_of}
use Rattle.vaxembro.proofs.lent.matrix_of.Statement.{statement}
use Rattle.vaxembro.proofs.lent.matrix_of.Tie as tie

abbrev f : List ℕ → ℕ → ℕ → ℕ
f l v u = get_or l (8 * v + u) 0

abbrev z : ℕ → ℕ → ℕ
z v u = 0

abbrev invariant-loop-u : tie.invariant-loop-u
invariant-loop-u lent w₀ v u₀ w u = (v < 8) × (u ≤ 8) × (w ≡ filled 8 8 (f lent) z v u)

abbrev decreases-loop-u : tie.decreases-loop-u
decreases-loop-u lent w₀ v u₀ w u = 8 - u

abbrev invariant-loop-v : tie.invariant-loop-v
invariant-loop-v lent w₀ v₀ w v = (v ≤ 8) × (w ≡ rows 8 8 (f lent) z v)

abbrev decreases-loop-v : tie.decreases-loop-v
decreases-loop-v lent w₀ v₀ w v = 8 - v

loop-v-init : tie.Need-loop-v-init invariant-loop-u decreases-loop-u invariant-loop-v decreases-loop-v
unfolding build
loop-v-init c = (omega arith, rows_none 8 8 (f c.args.lent.now) z _ refl)

loop-u-init : tie.Need-loop-u-init invariant-loop-u decreases-loop-u invariant-loop-v decreases-loop-v
loop-u-init c = (c.loop-v-test.true, omega arith, row-begins 8 8 _ _ _ _ c.loop-v-test.true c.loop-v.invariant.1)

overflow_mul-w : tie.Need-overflow_mul-w invariant-loop-u decreases-loop-u invariant-loop-v decreases-loop-v
overflow_mul-w c = omega arith

overflow_add-w : tie.Need-overflow_add-w invariant-loop-u decreases-loop-u invariant-loop-v decreases-loop-v
overflow_add-w c = omega arith

bounds-lent-v : tie.Need-bounds-lent-v invariant-loop-u decreases-loop-u invariant-loop-v decreases-loop-v
bounds-lent-v c = omega arith

offset_bounds-w-v : tie.Need-offset_bounds-w-v invariant-loop-u decreases-loop-u invariant-loop-v decreases-loop-v
offset_bounds-w-v c = omega arith

bounds-w-v : tie.Need-bounds-w-v invariant-loop-u decreases-loop-u invariant-loop-v decreases-loop-v
bounds-w-v c = omega arith

bounds-w-u : tie.Need-bounds-w-u invariant-loop-u decreases-loop-u invariant-loop-v decreases-loop-v
bounds-w-u c = omega arith

overflow_step-u : tie.Need-overflow_step-u invariant-loop-u decreases-loop-u invariant-loop-v decreases-loop-v
overflow_step-u c = omega arith

loop-u-smaller : tie.Need-loop-u-smaller invariant-loop-u decreases-loop-u invariant-loop-v decreases-loop-v
loop-u-smaller c = omega arith

loop-u-preserved : tie.Need-loop-u-preserved invariant-loop-u decreases-loop-u invariant-loop-v decreases-loop-v
loop-u-preserved c =
    let l = c.before.before in
    (l.loop-u.invariant.0, omega arith, fill_more 8 8 _ _ 0 _ _ _ _ _ l.loop-u.invariant.0 c.loop-u-test.true l.loop-u.invariant.2 refl)

overflow_step-v : tie.Need-overflow_step-v invariant-loop-u decreases-loop-u invariant-loop-v decreases-loop-v
overflow_step-v c = omega arith

loop-v-smaller : tie.Need-loop-v-smaller invariant-loop-u decreases-loop-u invariant-loop-v decreases-loop-v
loop-v-smaller c = omega arith

loop-v-preserved : tie.Need-loop-v-preserved invariant-loop-u decreases-loop-u invariant-loop-v decreases-loop-v
loop-v-preserved c =
    let l = c.before in
    (omega arith, row_ends 8 8 _ _ _ _ _ l.loop-u.invariant.0 c.loop-u-test.false l.loop-u.invariant.1 l.loop-u.invariant.2)

returns : tie.Need-returns invariant-loop-u decreases-loop-u invariant-loop-v decreases-loop-v
unfolding matrix_of
returns c = let a = c.before in rows_all 8 8 _ _ _ _ c.loop-v-test.false a.loop-v.invariant.0 a.loop-v.invariant.1

pub matrix_of_spec : {M : Type 1} → statement M
matrix_of_spec =
    tie.close
    (tie.spec
    invariant-loop-u
    decreases-loop-u
    invariant-loop-v
    decreases-loop-v
    loop-v-init
    loop-u-init
    overflow_mul-w
    overflow_add-w
    bounds-lent-v
    offset_bounds-w-v
    bounds-w-v
    bounds-w-u
    overflow_step-u
    loop-u-smaller
    loop-u-preserved
    overflow_step-v
    loop-v-smaller
    loop-v-preserved
    returns)
