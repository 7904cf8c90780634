-- `coefficients::level::saturate_block` meets its contract: the rows before v, and in row v the levels before u, are limited. Assumes nothing.
use mathlib.Core.List.{List}
use mathlib.Core.Path.{◌≡◌, refl, ap, ◌∙◌}
use Prim.Native.Nat.{ℕ, ◌-◌, ◌≤◌, ◌<◌}
use native.Mathlib.Omega.{arith}
use lib.IntN.{ℤ, pos}
use Rattle.numbers.proofs.Words.{held}
use Rattle.coefficients.proofs.level.saturate_block.Statement.{statement}
use Rattle.coefficients.specs.Level.{saturated}
use Rattle.numbers.proofs.Fill.{rows, filled, rows_none, rows_all, row-begins, row_ends, fill_more}
use Rattle.numbers.specs.Grid.{build, cell}
use Rattle.coefficients.proofs.level.saturate_block.Tie as tie

abbrev f : List (List ℤ) → ℕ → ℕ → ℤ
f b v u = saturated (cell b v u)

abbrev z : ℕ → ℕ → ℤ
z v u = pos 0

abbrev invariant-loop-u : tie.invariant-loop-u
invariant-loop-u b out₀ v u₀ out u = (v < 8) × (u ≤ 8) × (out ≡ filled 8 8 (f b) z v u)

abbrev decreases-loop-u : tie.decreases-loop-u
decreases-loop-u b out₀ v u₀ out u = 8 - u

abbrev invariant-loop-v : tie.invariant-loop-v
invariant-loop-v b out₀ v₀ out v = (v ≤ 8) × (out ≡ rows 8 8 (f b) z v)

abbrev decreases-loop-v : tie.decreases-loop-v
decreases-loop-v b out₀ v₀ out v = 8 - v

loop-v-init : tie.Need-loop-v-init invariant-loop-u decreases-loop-u invariant-loop-v decreases-loop-v
unfolding build
loop-v-init c = (omega arith, rows_none 8 8 (f c.args.block) z _ refl)

loop-u-init : tie.Need-loop-u-init invariant-loop-u decreases-loop-u invariant-loop-v decreases-loop-v
loop-u-init c = (c.loop-v-test.true, omega arith, row-begins 8 8 _ _ _ _ c.loop-v-test.true c.loop-v.invariant.1)

offset_bounds-block-v : tie.Need-offset_bounds-block-v invariant-loop-u decreases-loop-u invariant-loop-v decreases-loop-v
offset_bounds-block-v c = omega arith

offset_bounds-block-u : tie.Need-offset_bounds-block-u invariant-loop-u decreases-loop-u invariant-loop-v decreases-loop-v
offset_bounds-block-u c = omega arith

bounds-block-v : tie.Need-bounds-block-v invariant-loop-u decreases-loop-u invariant-loop-v decreases-loop-v
bounds-block-v c = omega arith

bounds-block-u : tie.Need-bounds-block-u invariant-loop-u decreases-loop-u invariant-loop-v decreases-loop-v
bounds-block-u c = omega arith

saturate_qf-requires : tie.Need-saturate_qf-requires invariant-loop-u decreases-loop-u invariant-loop-v decreases-loop-v
saturate_qf-requires c κs = tt

offset_bounds-out-v : tie.Need-offset_bounds-out-v invariant-loop-u decreases-loop-u invariant-loop-v decreases-loop-v
offset_bounds-out-v c = omega arith

offset_bounds-out-u : tie.Need-offset_bounds-out-u invariant-loop-u decreases-loop-u invariant-loop-v decreases-loop-v
offset_bounds-out-u c = omega arith

bounds-out-v : tie.Need-bounds-out-v invariant-loop-u decreases-loop-u invariant-loop-v decreases-loop-v
bounds-out-v c = omega arith

bounds-out-u : tie.Need-bounds-out-u invariant-loop-u decreases-loop-u invariant-loop-v decreases-loop-v
bounds-out-u c = omega arith

overflow_step-u : tie.Need-overflow_step-u invariant-loop-u decreases-loop-u invariant-loop-v decreases-loop-v
overflow_step-u c = omega arith

loop-u-smaller : tie.Need-loop-u-smaller invariant-loop-u decreases-loop-u invariant-loop-v decreases-loop-v
loop-u-smaller c = omega arith

loop-u-preserved : tie.Need-loop-u-preserved invariant-loop-u decreases-loop-u invariant-loop-v decreases-loop-v
loop-u-preserved c =
    let l = c.loop-u in
    let z = cell c.args.block c.loop-v.v l.u in (
      l.invariant.0,
      omega arith,
      fill_more 8 8 _ _ (pos 0) _ _ _ _ _ l.invariant.0 c.loop-u-test.true l.invariant.2
          (held c.saturate_qf.result c.saturate_qf.type_inv ∙ c.saturate_qf.ensures ∙ ap saturated (held z c.saturate_qf-arg-1.given)),
    )

overflow_step-v : tie.Need-overflow_step-v invariant-loop-u decreases-loop-u invariant-loop-v decreases-loop-v
overflow_step-v c = omega arith

loop-v-smaller : tie.Need-loop-v-smaller invariant-loop-u decreases-loop-u invariant-loop-v decreases-loop-v
loop-v-smaller c = omega arith

loop-v-preserved : tie.Need-loop-v-preserved invariant-loop-u decreases-loop-u invariant-loop-v decreases-loop-v
loop-v-preserved c = (omega arith, row_ends 8 8 _ _ _ _ _ c.loop-u.invariant.0 c.loop-u-test.false c.loop-u.invariant.1 c.loop-u.invariant.2)

returns : tie.Need-returns invariant-loop-u decreases-loop-u invariant-loop-v decreases-loop-v
returns c = rows_all 8 8 _ _ _ _ c.loop-v-test.false c.loop-v.invariant.0 c.loop-v.invariant.1

pub saturate_block_spec : {M : Type 1} → statement M
saturate_block_spec =
    tie.close
    (tie.spec
    invariant-loop-u
    decreases-loop-u
    invariant-loop-v
    decreases-loop-v
    loop-v-init
    loop-u-init
    offset_bounds-block-v
    offset_bounds-block-u
    bounds-block-v
    bounds-block-u
    saturate_qf-requires
    offset_bounds-out-v
    offset_bounds-out-u
    bounds-out-v
    bounds-out-u
    overflow_step-u
    loop-u-smaller
    loop-u-preserved
    overflow_step-v
    loop-v-smaller
    loop-v-preserved
    returns)
