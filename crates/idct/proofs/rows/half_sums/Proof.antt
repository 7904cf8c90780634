-- `idct::rows::half_sums` meets its contract: one term a turn, at every x. Assumes nothing.
use mathlib.Core.Path.{◌≡◌, ap, ◌∙◌}
use Prim.Native.Nat.{ℕ, ◌+◌, ◌-◌, ◌*◌, ◌≤◌, ◌<◌}
use native.Mathlib.Omega.{arith}
use borrow.Author.Rules.{rules}
use Rattle.numbers.specs.Grid.{build}
use Rattle.exact_transform.specs.EvenOdd.{half_sum}
use Rattle.idct.proofs.EvenOddLaws.{half-more, half-none, half-row}
use Rattle.idct.proofs.rows.half_sums.Statement.{statement}
use Rattle.idct.proofs.rows.half_sums.Tie as tie

abbrev invariant-loop-k : tie.invariant-loop-k
invariant-loop-k row p table sums₀ k₀ sums k = (k ≤ 4) × (sums ≡ build 4 (half_sum row p k))

abbrev decreases-loop-k : tie.decreases-loop-k
decreases-loop-k row p table sums₀ k₀ sums k = 4 - k

loop-k-init : tie.Need-loop-k-init invariant-loop-k decreases-loop-k
unfolding build
loop-k-init c = (omega arith, half-none c.args.row.now c.args.p)

overflow_mul-u : tie.Need-overflow_mul-u invariant-loop-k decreases-loop-k
overflow_mul-u c = omega arith

overflow_add-u : tie.Need-overflow_add-u invariant-loop-k decreases-loop-k
overflow_add-u c = omega arith

c-requires : tie.Need-c-requires invariant-loop-k decreases-loop-k
c-requires c κs = tt

offset_bounds-row-u : tie.Need-offset_bounds-row-u invariant-loop-k decreases-loop-k
offset_bounds-row-u c = omega arith

bounds-row-u : tie.Need-bounds-row-u invariant-loop-k decreases-loop-k
bounds-row-u c = omega arith

int_to_float-f : tie.Need-int_to_float-f invariant-loop-k decreases-loop-k
int_to_float-f c = search rules

offset_bounds-table-u : tie.Need-offset_bounds-table-u invariant-loop-k decreases-loop-k
offset_bounds-table-u c = omega arith

bounds-table-u : tie.Need-bounds-table-u invariant-loop-k decreases-loop-k
bounds-table-u c = omega arith

four_terms-more-requires : tie.Need-four_terms-more-requires invariant-loop-k decreases-loop-k
four_terms-more-requires c κs = tt

overflow_step-k : tie.Need-overflow_step-k invariant-loop-k decreases-loop-k
overflow_step-k c = omega arith

loop-k-smaller : tie.Need-loop-k-smaller invariant-loop-k decreases-loop-k
loop-k-smaller c = omega arith

loop-k-preserved : tie.Need-loop-k-preserved invariant-loop-k decreases-loop-k
loop-k-preserved c =
    let i = c.before.before.before.before.before in
    let o = i.before in
    let s = o.before in
    let a = s.args in
    let k = o.loop-k.k in
    let u : ℕ = 2 * k + a.p in
    let l : u < 8 = omega (arith, i.loop-k-test.true, s.requires.1) in
    (omega arith, half-more a.row.now a.p k o.loop-k.sums _ c.four_terms-more.result _ _ c.four_terms-more.ensures o.loop-k.invariant.1 (half-row a.table.now u s.requires.0 l) c.c.ensures (let h = c.row_known-1.given in let g = c.f-1.given in search rules))

returns : tie.Need-returns invariant-loop-k decreases-loop-k
returns c =
    let l = c.loop-k in
    let a = c.args in
    let h : l.k ≡ 4 = omega (arith, l.invariant.0, c.loop-k-test.false) in
    l.invariant.1 ∙ ap (λ (m : ℕ). build 4 (half_sum a.row.now a.p m)) h

pub half_sums_spec : {M : Type 1} → statement M
half_sums_spec =
    tie.close
    (tie.spec
    invariant-loop-k
    decreases-loop-k
    loop-k-init
    overflow_mul-u
    overflow_add-u
    c-requires
    offset_bounds-row-u
    bounds-row-u
    int_to_float-f
    offset_bounds-table-u
    bounds-table-u
    four_terms-more-requires
    overflow_step-k
    loop-k-smaller
    loop-k-preserved
    returns)
