-- `inverse_quant::rows::fill2` meets its contract, one row a turn: the rows above are put. Assumes nothing.
use mathlib.Core.List.{List, []}
use mathlib.Core.Path.{◌≡◌, ap, ◌∙◌}
use Prim.Native.Nat.{ℕ, ◌-◌, ◌≤◌}
use native.Mathlib.Omega.{arith}
use lib.IntN.{ℤ}
use lib.ListN.{get_or}
use Rattle.numbers.proofs.Fill.{part, part-above, cells-none, cells-more, cells_all}
use Rattle.coefficients.proofs.RefusalLaws.{block-good}
use Rattle.inverse_quant.specs.ByRows.{row_by2, zeros}
use Rattle.inverse_quant.proofs.rows.fill2.Statement.{statement}
use Rattle.inverse_quant.proofs.rows.fill2.Tie as tie

abbrev invariant-loop-v : tie.invariant-loop-v
invariant-loop-v qf ctx f₀ v₀ f v = (v ≤ 8) × (f ≡ part 8 (λ (k : ℕ). row_by2 ctx (get_or qf k [])) (λ (k : ℕ). zeros) v)

abbrev decreases-loop-v : tie.decreases-loop-v
decreases-loop-v qf ctx f₀ v₀ f v = 8 - v

loop-v-init : tie.Need-loop-v-init invariant-loop-v decreases-loop-v
loop-v-init c = (omega arith, cells-none 8 _ (λ (k : ℕ). zeros) _ c.requires.3)

offset_bounds-qf-v : tie.Need-offset_bounds-qf-v invariant-loop-v decreases-loop-v
offset_bounds-qf-v c = omega arith

bounds-qf-v : tie.Need-bounds-qf-v invariant-loop-v decreases-loop-v
bounds-qf-v c = omega arith

offset_bounds-f-v : tie.Need-offset_bounds-f-v invariant-loop-v decreases-loop-v
offset_bounds-f-v c = omega arith

bounds-f-v : tie.Need-bounds-f-v invariant-loop-v decreases-loop-v
bounds-f-v c = omega arith

-- the row is still zeros
put2-requires : tie.Need-put2-requires invariant-loop-v decreases-loop-v
put2-requires c κs =
    let i = c.before.before in
    let a = i.before in
    let s = a.before in
    let v = a.loop-v.v in
    (block-good s.args.qf.now s.requires.2 v, s.requires.0, ap (λ (b : List (List ℤ)). get_or b v []) a.loop-v.invariant.1 ∙ part-above 8 _ (λ (k : ℕ). zeros) v v [] i.loop-v-test.true (omega arith))

overflow_step-v : tie.Need-overflow_step-v invariant-loop-v decreases-loop-v
overflow_step-v c = omega arith

loop-v-smaller : tie.Need-loop-v-smaller invariant-loop-v decreases-loop-v
loop-v-smaller c = omega arith

loop-v-preserved : tie.Need-loop-v-preserved invariant-loop-v decreases-loop-v
loop-v-preserved c =
    let i = c.before.before.before in
    let a = i.before in
    (omega arith, cells-more 8 _ (λ (k : ℕ). zeros) [] a.loop-v.f a.loop-v.v _ i.loop-v-test.true a.loop-v.invariant.1 c.put2.ensures)

returns : tie.Need-returns invariant-loop-v decreases-loop-v
returns c =
    let l = c.loop-v in
    cells_all 8 _ (λ (k : ℕ). zeros) l.f l.v c.loop-v-test.false l.invariant.0 l.invariant.1

pub fill2_spec : {M : Type 1} → statement M
fill2_spec =
    tie.close
    (tie.spec
    invariant-loop-v
    decreases-loop-v
    loop-v-init
    offset_bounds-qf-v
    bounds-qf-v
    offset_bounds-f-v
    bounds-f-v
    put2-requires
    overflow_step-v
    loop-v-smaller
    loop-v-preserved
    returns)
