-- `idct::short::sums_of` meets its contract: the terms of one kept row a turn. Assumes nothing.
use mathlib.Core.Path.{◌≡◌, ap, ◌∙◌}
use Prim.Native.Nat.{ℕ, ◌-◌, ◌≤◌}
use native.Mathlib.Omega.{arith}
use lib.ListN.{get_or}
use Rattle.numbers.specs.Grid.{build}
use Rattle.exact_transform.specs.EvenOdd.{sum_of_kept}
use Rattle.idct.proofs.EvenOddLaws.{half_cosine_at}
use Rattle.idct.proofs.KeptLaws.{sums_none, sums-one-more}
use Rattle.idct.proofs.short.sums_of.Statement.{statement}
use Rattle.idct.proofs.short.sums_of.Tie as tie

abbrev invariant-loop-j : tie.invariant-loop-j
invariant-loop-j terms which n table y sums₀ j₀ sums j = (j ≤ n) × (sums ≡ build 8 (sum_of_kept terms which j y))

abbrev decreases-loop-j : tie.decreases-loop-j
decreases-loop-j terms which n table y sums₀ j₀ sums j = n - j

loop-j-init : tie.Need-loop-j-init invariant-loop-j decreases-loop-j
unfolding build
loop-j-init c =
    let a = c.args in
    (omega arith, sums_none a.terms.now a.which.now a.y)

offset_bounds-terms-j : tie.Need-offset_bounds-terms-j invariant-loop-j decreases-loop-j
offset_bounds-terms-j c = omega arith

bounds-terms-j : tie.Need-bounds-terms-j invariant-loop-j decreases-loop-j
bounds-terms-j c = omega arith

offset_bounds-which-j : tie.Need-offset_bounds-which-j invariant-loop-j decreases-loop-j
offset_bounds-which-j c = omega arith

bounds-which-j : tie.Need-bounds-which-j invariant-loop-j decreases-loop-j
bounds-which-j c = omega arith

offset_bounds-table-v : tie.Need-offset_bounds-table-v invariant-loop-j decreases-loop-j
offset_bounds-table-v c = omega (arith, c.requires.3 _ c.loop-j-test.true)

offset_bounds-table-y : tie.Need-offset_bounds-table-y invariant-loop-j decreases-loop-j
offset_bounds-table-y c = omega arith

bounds-table-v : tie.Need-bounds-table-v invariant-loop-j decreases-loop-j
bounds-table-v c = c.requires.3 _ c.loop-j-test.true

bounds-table-y : tie.Need-bounds-table-y invariant-loop-j decreases-loop-j
bounds-table-y c = omega arith

add_row-added-requires : tie.Need-add_row-added-requires invariant-loop-j decreases-loop-j
add_row-added-requires c κs = tt

overflow_step-j : tie.Need-overflow_step-j invariant-loop-j decreases-loop-j
overflow_step-j c = omega arith

loop-j-smaller : tie.Need-loop-j-smaller invariant-loop-j decreases-loop-j
loop-j-smaller c = omega arith

loop-j-preserved : tie.Need-loop-j-preserved invariant-loop-j decreases-loop-j
loop-j-preserved c =
    let a = c.args in
    let v = get_or a.which.now c.loop-j.j 0 in
    (omega arith, sums-one-more a.terms.now a.which.now c.loop-j.j a.y c.loop-j.sums c.add_row-added.result _ c.loop-j.invariant.1 (half_cosine_at a.table.now v a.y c.requires.0 (c.requires.3 _ c.loop-j-test.true) c.requires.2) c.add_row-added.ensures)

returns : tie.Need-returns invariant-loop-j decreases-loop-j
returns c =
    let l = c.loop-j in
    let a = c.args in
    let h : l.j ≡ a.n = omega (arith, l.invariant.0, c.loop-j-test.false) in
    l.invariant.1 ∙ ap (λ (m : ℕ). build 8 (sum_of_kept a.terms.now a.which.now m a.y)) h

pub sums_of_spec : {M : Type 1} → statement M
sums_of_spec =
    tie.close
    (tie.spec
    invariant-loop-j
    decreases-loop-j
    loop-j-init
    offset_bounds-terms-j
    bounds-terms-j
    offset_bounds-which-j
    bounds-which-j
    offset_bounds-table-v
    offset_bounds-table-y
    bounds-table-v
    bounds-table-y
    add_row-added-requires
    overflow_step-j
    loop-j-smaller
    loop-j-preserved
    returns)
