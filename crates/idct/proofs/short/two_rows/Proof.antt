-- `idct::short::two_rows` meets its contract: the terms of one kept row a turn. Assumes nothing.
use mathlib.Core.Path.{◌≡◌, ap, ◌∙◌}
use Prim.Native.Nat.{ℕ, ◌+◌, ◌-◌, ◌≤◌, ◌<◌}
use native.Mathlib.Omega.{arith}
use lib.ListN.{get_or}
use Rattle.numbers.specs.Grid.{build}
use Rattle.exact_transform.specs.EvenOdd.{sum_of_kept}
use Rattle.idct.proofs.KeptLaws.{cosine_at, sums_none, sums-one-more}
use Rattle.idct.proofs.short.two_rows.Statement.{statement}
use Rattle.idct.proofs.short.two_rows.Tie as tie

abbrev invariant-loop-j : tie.invariant-loop-j
invariant-loop-j terms which n table y sums₀ more₀ j₀ sums more j = (j ≤ n) × (sums ≡ build 8 (sum_of_kept terms which j y)) × (more ≡ build 8 (sum_of_kept terms which j (y + 1)))

abbrev decreases-loop-j : tie.decreases-loop-j
decreases-loop-j terms which n table y sums₀ more₀ j₀ sums more j = n - j

loop-j-init : tie.Need-loop-j-init invariant-loop-j decreases-loop-j
unfolding build
loop-j-init c =
    let a = c.args in
    (omega arith, sums_none a.terms.now a.which.now a.y, sums_none a.terms.now a.which.now (a.y + 1))

offset_bounds-terms-j : tie.Need-offset_bounds-terms-j invariant-loop-j decreases-loop-j
offset_bounds-terms-j c = omega arith

bounds-terms-j : tie.Need-bounds-terms-j invariant-loop-j decreases-loop-j
bounds-terms-j c = omega arith

offset_bounds-which-j : tie.Need-offset_bounds-which-j invariant-loop-j decreases-loop-j
offset_bounds-which-j c = omega arith

bounds-which-j : tie.Need-bounds-which-j invariant-loop-j decreases-loop-j
bounds-which-j c = omega arith

offset_bounds-table-v : tie.Need-offset_bounds-table-v invariant-loop-j decreases-loop-j
offset_bounds-table-v c = omega (arith, c.requires.3 _ c.loop-j-test.true)

offset_bounds-table-y : tie.Need-offset_bounds-table-y invariant-loop-j decreases-loop-j
offset_bounds-table-y c = omega (arith, c.requires.3 _ c.loop-j-test.true)

bounds-table-v : tie.Need-bounds-table-v invariant-loop-j decreases-loop-j
bounds-table-v c = omega (arith, c.requires.3 _ c.loop-j-test.true)

bounds-table-y : tie.Need-bounds-table-y invariant-loop-j decreases-loop-j
bounds-table-y c = omega (arith, c.requires.3 _ c.loop-j-test.true)

add_row-first-requires : tie.Need-add_row-first-requires invariant-loop-j decreases-loop-j
add_row-first-requires c κs = tt

overflow_add-y : tie.Need-overflow_add-y invariant-loop-j decreases-loop-j
overflow_add-y c = omega arith

offset_bounds-table-v-in-loop-j : tie.Need-offset_bounds-table-v-in-loop-j invariant-loop-j decreases-loop-j
offset_bounds-table-v-in-loop-j c = omega (arith, c.requires.3 _ c.loop-j-test.true)

offset_bounds-table-y-in-loop-j : tie.Need-offset_bounds-table-y-in-loop-j invariant-loop-j decreases-loop-j
offset_bounds-table-y-in-loop-j c = omega arith

bounds-table-v-in-loop-j : tie.Need-bounds-table-v-in-loop-j invariant-loop-j decreases-loop-j
bounds-table-v-in-loop-j c = c.requires.3 _ c.loop-j-test.true

bounds-table-y-in-loop-j : tie.Need-bounds-table-y-in-loop-j invariant-loop-j decreases-loop-j
bounds-table-y-in-loop-j c = omega arith

add_row-second-requires : tie.Need-add_row-second-requires invariant-loop-j decreases-loop-j
add_row-second-requires c κs = tt

overflow_step-j : tie.Need-overflow_step-j invariant-loop-j decreases-loop-j
overflow_step-j c = omega arith

loop-j-smaller : tie.Need-loop-j-smaller invariant-loop-j decreases-loop-j
loop-j-smaller c = omega arith

loop-j-preserved : tie.Need-loop-j-preserved invariant-loop-j decreases-loop-j
loop-j-preserved c =
    let a = c.args in
    let v = get_or a.which.now c.loop-j.j 0 in
    let y : a.y < 8 = omega arith in (
      omega arith,
      sums-one-more a.terms.now a.which.now c.loop-j.j a.y c.loop-j.sums c.add_row-first.result _ c.loop-j.invariant.1 (cosine_at a.table.now v a.y c.requires.0 (c.requires.3 _ c.loop-j-test.true) y) c.add_row-first.ensures,
      sums-one-more a.terms.now a.which.now c.loop-j.j (a.y + 1) c.loop-j.more c.add_row-second.result _ c.loop-j.invariant.2 (cosine_at a.table.now v (a.y + 1) c.requires.0 (c.requires.3 _ c.loop-j-test.true) c.requires.2) c.add_row-second.ensures,
    )

returns : tie.Need-returns invariant-loop-j decreases-loop-j
returns c =
    let l = c.loop-j in
    let a = c.args in
    let h : l.j ≡ a.n = omega (arith, l.invariant.0, c.loop-j-test.false) in
    (l.invariant.1 ∙ ap (λ (m : ℕ). build 8 (sum_of_kept a.terms.now a.which.now m a.y)) h, l.invariant.2 ∙ ap (λ (m : ℕ). build 8 (sum_of_kept a.terms.now a.which.now m (a.y + 1))) h)

pub two_rows_spec : {M : Type 1} → statement M
two_rows_spec =
    tie.close
    (tie.spec
    invariant-loop-j
    decreases-loop-j
    loop-j-init
    offset_bounds-terms-j
    bounds-terms-j
    offset_bounds-which-j
    bounds-which-j
    offset_bounds-table-v
    offset_bounds-table-y
    bounds-table-v
    bounds-table-y
    add_row-first-requires
    overflow_add-y
    offset_bounds-table-v-in-loop-j
    offset_bounds-table-y-in-loop-j
    bounds-table-v-in-loop-j
    bounds-table-y-in-loop-j
    add_row-second-requires
    overflow_step-j
    loop-j-smaller
    loop-j-preserved
    returns)
