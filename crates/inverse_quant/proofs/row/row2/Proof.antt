-- `inverse_quant::row::row2` meets its contract: each turn stores method 2's value, limited. Assumes nothing.
use mathlib.Core.Path.{◌≡◌, refl, ap, ◌∙◌}
use Prim.Native.Nat.{ℕ, ◌-◌, ◌≤◌}
use native.Mathlib.Omega.{arith}
use lib.IntN.{ℤ, pos}
use lib.ListN.{get_or}
use mir.Syntax.{w32}
use mir.Val.{of_z, to_z}
use Rattle.numbers.specs.Grid.{build}
use Rattle.numbers.proofs.Expressions.{back, loc}
use Rattle.numbers.proofs.Fill.{part, cells-none, cells-more, cells_all}
use Rattle.numbers.proofs.Words.{held}
use Rattle.dequantise.specs.Methods.{limited_f, method2}
use Rattle.inverse_quant.specs.ByRows.{row_by2}
use Rattle.dequantise.specs.declared.context.InverseQuantContext.{InverseQuantContext}
use Rattle.inverse_quant.proofs.row.row2.Statement.{statement}
use Rattle.inverse_quant.proofs.row.row2.Tie as tie

abbrev rule : InverseQuantContext → ℤ → ℤ
rule ctx z = limited_f ctx.bits_per_pixel (method2 z ctx.quantiser_scale)

abbrev invariant-loop-u : tie.invariant-loop-u
invariant-loop-u ctx levels row₀ u₀ row u = (u ≤ 8) × (row ≡ part 8 (λ (k : ℕ). rule ctx (get_or levels k (pos 0))) (λ (k : ℕ). pos 0) u)

abbrev decreases-loop-u : tie.decreases-loop-u
decreases-loop-u ctx levels row₀ u₀ row u = 8 - u

-- the level, as the call has it
level : (a : tie.At-loop-u invariant-loop-u decreases-loop-u) → let z = get_or a.args.levels a.loop-u.u (pos 0) in to_z w32 (of_z w32 z) ≡ z
level a = back {w = w32} (loc (get_or a.args.levels a.loop-u.u (pos 0)) 2048 (a.requires.0 a.loop-u.u)) tt

loop-u-init : tie.Need-loop-u-init invariant-loop-u decreases-loop-u
unfolding build
loop-u-init c = (omega arith, cells-none 8 _ (λ (k : ℕ). pos 0) _ refl)

offset_bounds-levels-u : tie.Need-offset_bounds-levels-u invariant-loop-u decreases-loop-u
offset_bounds-levels-u c = omega arith

bounds-levels-u : tie.Need-bounds-levels-u invariant-loop-u decreases-loop-u
bounds-levels-u c = omega arith

value2-requires : tie.Need-value2-requires invariant-loop-u decreases-loop-u
value2-requires c κs =
    let a = c.before.before in
    (rw (level a) (a.requires.0 a.loop-u.u), a.requires.1)

offset_bounds-row-u : tie.Need-offset_bounds-row-u invariant-loop-u decreases-loop-u
offset_bounds-row-u c = omega arith

bounds-row-u : tie.Need-bounds-row-u invariant-loop-u decreases-loop-u
bounds-row-u c = omega arith

overflow_step-u : tie.Need-overflow_step-u invariant-loop-u decreases-loop-u
overflow_step-u c = omega arith

loop-u-smaller : tie.Need-loop-u-smaller invariant-loop-u decreases-loop-u
loop-u-smaller c = omega arith

loop-u-preserved : tie.Need-loop-u-preserved invariant-loop-u decreases-loop-u
loop-u-preserved c =
    let i = c.before.before in
    let a = i.before in
    let s = a.before in (
      omega arith,
      cells-more 8 _ _ (pos 0) _ _ _ i.loop-u-test.true a.loop-u.invariant.1
          (held c.value2.result c.value2.type_inv ∙ c.value2.ensures ∙ ap (rule s.args.ctx) (level a)),
    )

returns : tie.Need-returns invariant-loop-u decreases-loop-u
unfolding row_by2
returns c = cells_all 8 _ _ _ _ c.loop-u-test.false c.loop-u.invariant.0 c.loop-u.invariant.1

pub row2_spec : {M : Type 1} → statement M
row2_spec =
    tie.close
    (tie.spec
    invariant-loop-u
    decreases-loop-u
    loop-u-init
    offset_bounds-levels-u
    bounds-levels-u
    value2-requires
    offset_bounds-row-u
    bounds-row-u
    overflow_step-u
    loop-u-smaller
    loop-u-preserved
    returns)
