-- `inverse_quant::rows::fill1` meets its contract, one row a turn: the rows above are put and added to the sums, none of which leaves 8 * 2 ^ 15. Assumes nothing.
use mathlib.Core.List.{List, []}
use mathlib.Core.Path.{◌≡◌, ap, refl, sym, subst, ◌∙◌}
use Prim.Native.Nat.{ℕ, ◌+◌, ◌-◌, ◌*◌, ◌≤◌}
use native.Mathlib.Omega.{arith}
use lib.IntN.{ℤ, pos, nat_abs, ◌+ℤ◌}
use lib.ListN.{get_or, length, take}
use lib.Seq.{take_all}
use Rattle.numbers.specs.Grid.{build}
use Rattle.numbers.specs.Sum.{sum_z}
use Rattle.numbers.proofs.Fill.{get_or-build, length-build, part, part-above, cells-none, cells-more, cells_all}
use Rattle.numbers.proofs.Words.{held}
use Rattle.coefficients.proofs.RefusalLaws.{block-good}
use Rattle.mismatch.specs.Mismatch.{sum_of}
use Rattle.inverse_quant.specs.ByRows.{row_by1, rows_by1, with_row, zeros}
use Rattle.inverse_quant.proofs.BlockSums.{rows_next}
use Rattle.inverse_quant.proofs.ByRowsLaws.{long_row1, square1, values_row1}
use Rattle.inverse_quant.proofs.RowSums.{added_small, sum_added, zeros-none}
use Rattle.inverse_quant.proofs.ZeroLaws.{sum_zeros}
use Rattle.inverse_quant.proofs.rows.fill1.Statement.{statement}
use Rattle.inverse_quant.proofs.rows.fill1.Tie as tie

abbrev invariant-loop-v : tie.invariant-loop-v
invariant-loop-v qf w ctx f₀ sums₀ v₀ f sums v =
    (v ≤ 8)
    × (f ≡ part 8 (λ (k : ℕ). row_by1 ctx (get_or w k []) (get_or qf k [])) (λ (k : ℕ). zeros) v)
    × (length sums ≡ 8)
    × ((u : ℕ) → nat_abs (get_or sums u (pos 0)) ≤ v * 32768)
    × (sum_z sums ≡ sum_of (take v (rows_by1 ctx w qf)))

abbrev decreases-loop-v : tie.decreases-loop-v
decreases-loop-v qf w ctx f₀ sums₀ v₀ f sums v = 8 - v

-- what the rows come to
abbrev whole : tie.Start invariant-loop-v decreases-loop-v → List (List ℤ)
whole s = rows_by1 s.args.ctx s.args.w.now s.args.qf.now

loop-v-init : tie.Need-loop-v-init invariant-loop-v decreases-loop-v
unfolding sum_of build
loop-v-init c = (omega arith, cells-none 8 _ (λ (k : ℕ). zeros) _ c.requires.3, refl, zeros-none, sym sum_zeros)

offset_bounds-qf-v : tie.Need-offset_bounds-qf-v invariant-loop-v decreases-loop-v
offset_bounds-qf-v c = omega arith

bounds-qf-v : tie.Need-bounds-qf-v invariant-loop-v decreases-loop-v
bounds-qf-v c = omega arith

offset_bounds-w-v : tie.Need-offset_bounds-w-v invariant-loop-v decreases-loop-v
offset_bounds-w-v c = omega arith

bounds-w-v : tie.Need-bounds-w-v invariant-loop-v decreases-loop-v
bounds-w-v c = omega arith

offset_bounds-f-v : tie.Need-offset_bounds-f-v invariant-loop-v decreases-loop-v
offset_bounds-f-v c = omega arith

bounds-f-v : tie.Need-bounds-f-v invariant-loop-v decreases-loop-v
bounds-f-v c = omega arith

-- the row is still zeros, and the sums are of seven rows at most
put1-more-requires : tie.Need-put1-more-requires invariant-loop-v decreases-loop-v
put1-more-requires c κs =
    let i = c.before.before.before in
    let a = i.before in
    let s = a.before in
    let v = a.loop-v.v in
    let zero = ap (λ (b : List (List ℤ)). get_or b v []) a.loop-v.invariant.1 ∙ part-above 8 _ (λ (k : ℕ). zeros) v v [] i.loop-v-test.true (omega arith) in
    (block-good s.args.qf.now s.requires.2 v, s.requires.0, zero, λ u. omega (arith, a.loop-v.invariant.3 u, i.loop-v-test.true))

overflow_step-v : tie.Need-overflow_step-v invariant-loop-v decreases-loop-v
overflow_step-v c = omega arith

loop-v-smaller : tie.Need-loop-v-smaller invariant-loop-v decreases-loop-v
loop-v-smaller c = omega arith

loop-v-preserved : tie.Need-loop-v-preserved invariant-loop-v decreases-loop-v
loop-v-preserved c =
    let i = c.before.before.before.before in
    let a = i.before in
    let s = a.before in
    let x = s.args in
    let v = a.loop-v.v in
    let row = row_by1 x.ctx (get_or x.w.now v []) (get_or x.qf.now v []) in
    let e = c.put1-more.ensures.1 in
    let long = long_row1 x.ctx (get_or x.w.now v []) (get_or x.qf.now v []) in
    let z : v * 32768 + 32768 ≡ (v + 1) * 32768 = omega arith in
    let small = added_small a.loop-v.sums row (v * 32768) 32768 a.loop-v.invariant.3 (values_row1 x.ctx (get_or x.w.now v []) (get_or x.qf.now v []) s.requires.0.depth) in
    let this = get_or-build 8 (λ (k : ℕ). row_by1 x.ctx (get_or x.w.now k []) (get_or x.qf.now k [])) v [] i.loop-v-test.true in (
      omega arith,
      cells-more 8 _ (λ (k : ℕ). zeros) [] a.loop-v.f v _ i.loop-v-test.true a.loop-v.invariant.1 c.put1-more.ensures.0,
      ap length e ∙ length-build 8 _,
      λ u. rw e (subst (λ (n : ℕ). nat_abs (get_or (with_row a.loop-v.sums row) u (pos 0)) ≤ n) z (small u)),
      ap sum_z e ∙ sum_added a.loop-v.sums row a.loop-v.invariant.2 long
          ∙ (λ j. a.loop-v.invariant.4 j +ℤ sum_z (sym this j))
          ∙ sym (rows_next (whole s) v),
    )

sum_of-requires : tie.Need-sum_of-requires invariant-loop-v decreases-loop-v
sum_of-requires c κs = let l = c.loop-v in λ u. omega (arith, l.invariant.3 u, l.invariant.0)

returns : tie.Need-returns invariant-loop-v decreases-loop-v
returns c =
    let o = c.before in
    let a = o.before in
    let l = a.loop-v in
    let s = a.before in
    let x = s.args in (
      cells_all 8 _ (λ (k : ℕ). zeros) l.f l.v o.loop-v-test.false l.invariant.0 l.invariant.1,
      held c.sum_of.result c.sum_of.type_inv ∙ c.sum_of.ensures ∙ l.invariant.4
          ∙ ap sum_of (take_all l.v (whole s) (omega (arith, (square1 x.ctx x.w.now x.qf.now).long, o.loop-v-test.false))),
    )

pub fill1_spec : {M : Type 1} → statement M
fill1_spec =
    tie.close
    (tie.spec
    invariant-loop-v
    decreases-loop-v
    loop-v-init
    offset_bounds-qf-v
    bounds-qf-v
    offset_bounds-w-v
    bounds-w-v
    offset_bounds-f-v
    bounds-f-v
    put1-more-requires
    overflow_step-v
    loop-v-smaller
    loop-v-preserved
    sum_of-requires
    returns)
