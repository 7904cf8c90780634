-- `idct::short::near_samples` meets its contract, a row and its mirror a turn. Assumes nothing.
use mathlib.Core.List.{List}
use mathlib.Core.Path.{refl, ◌∙◌}
use Prim.Native.Nat.{ℕ, ◌+◌, ◌-◌, ◌≤◌, ◌<◌}
use native.Mathlib.Omega.{arith}
use lib.Ieee.{Float}
use lib.IntN.{ℤ}
use mir.Facts.{to_z-of_z}
use mir.Syntax.{w32}
use mir.Val.{of_z, to_z}
use Rattle.numbers.specs.Grid.{build}
use Rattle.numbers.specs.Limit.{clamp_z}
use Rattle.rounding.specs.Near.{near_z}
use Rattle.exact_transform.specs.EvenOdd.{value_of_both}
use Rattle.idct.proofs.Doubts.{Cleared, cleared_all, cleared_more, cleared_none, near_castable, near-clipped, sum_at}
use Rattle.idct.proofs.EvenOddLaws.{Done, Rows, done_all, done_high, done-low, done_none, minus_is, plus-is, rows_all, rows_more, rows_none}
use Rattle.idct.proofs.short.near_samples.Statement.{statement}
use Rattle.idct.proofs.short.near_samples.Tie as tie

abbrev f : ℤ → ℤ → List (List Float) → List ℕ → ℕ → List (List Float) → List ℕ → ℕ → ℕ → List ℤ
f lo hi evens even m odds odd n y = build 8 (λ (x : ℕ). clamp_z (near_z (value_of_both evens even m odds odd n y x)) lo hi)

abbrev invariant-loop-y : tie.invariant-loop-y
invariant-loop-y evens even m odds odd n table lo hi out₀ worst₀ y₀ out worst y = (y ≤ 4) × Rows (f (to_z w32 lo) (to_z w32 hi) evens even m odds odd n) (Done y y) out × Cleared (value_of_both evens even m odds odd n) (Done y y) worst

abbrev decreases-loop-y : tie.decreases-loop-y
decreases-loop-y evens even m odds odd n table lo hi out₀ worst₀ y₀ out worst y = 4 - y

eight_rows-requires : tie.Need-eight_rows-requires invariant-loop-y decreases-loop-y
eight_rows-requires c κs = tt

loop-y-init : tie.Need-loop-y-init invariant-loop-y decreases-loop-y
unfolding build
loop-y-init c =
    let a = c.args in
    (omega arith, rows_none (f (to_z w32 (of_z w32 a.lo)) (to_z w32 (of_z w32 a.hi)) a.evens.now a.even.now a.m a.odds.now a.odd.now a.n) (Done 0 0) _ c.eight_rows.ensures done_none, cleared_none (value_of_both a.evens.now a.even.now a.m a.odds.now a.odd.now a.n) (Done 0 0) _ done_none refl)

sums_of-e-requires : tie.Need-sums_of-e-requires invariant-loop-y decreases-loop-y
sums_of-e-requires c κs =
    (c.requires.0, c.requires.1, omega (arith, c.loop-y-test.true), c.requires.3)

sums_of-o-requires : tie.Need-sums_of-o-requires invariant-loop-y decreases-loop-y
sums_of-o-requires c κs =
    (c.requires.0, c.requires.2, omega (arith, c.loop-y-test.true), c.requires.4)

plus-sums-requires : tie.Need-plus-sums-requires invariant-loop-y decreases-loop-y
plus-sums-requires c κs = tt

near_row-near-requires : tie.Need-near_row-near-requires invariant-loop-y decreases-loop-y
near_row-near-requires c κs = tt

farther-far-requires : tie.Need-farther-far-requires invariant-loop-y decreases-loop-y
farther-far-requires c κs = tt

clipped_row-requires : tie.Need-clipped_row-requires invariant-loop-y decreases-loop-y
clipped_row-requires c κs =
    let a = c.args in
    let y = c.loop-y.y in
    let h = c.loop-y-test.true in
    let g : y < 8 = omega arith in
    near_castable (value_of_both a.evens.now a.even.now a.m a.odds.now a.odd.now a.n y) c.plus-sums.result c.near_row-near.result (plus-is a.evens.now a.even.now a.m a.odds.now a.odd.now a.n y h _ _ _ c.sums_of-e.ensures c.sums_of-o.ensures c.plus-sums.ensures) c.near_row-near.ensures (λ x q. c.requires.5 y x g q)

offset_bounds-out-y : tie.Need-offset_bounds-out-y invariant-loop-y decreases-loop-y
offset_bounds-out-y c = omega arith

bounds-out-y : tie.Need-bounds-out-y invariant-loop-y decreases-loop-y
bounds-out-y c = omega arith

minus-more-requires : tie.Need-minus-more-requires invariant-loop-y decreases-loop-y
minus-more-requires c κs = tt

near_row-next-requires : tie.Need-near_row-next-requires invariant-loop-y decreases-loop-y
near_row-next-requires c κs = tt

farther-worst-requires : tie.Need-farther-worst-requires invariant-loop-y decreases-loop-y
farther-worst-requires c κs = tt

clipped_row-requires-in-loop-y : tie.Need-clipped_row-requires-in-loop-y invariant-loop-y decreases-loop-y
clipped_row-requires-in-loop-y c κs =
    let a = c.args in
    let y = c.loop-y.y in
    let h = c.loop-y-test.true in
    let g : 7 - y < 8 = omega arith in
    near_castable (value_of_both a.evens.now a.even.now a.m a.odds.now a.odd.now a.n (7 - y)) c.minus-more.result c.near_row-next.result (minus_is a.evens.now a.even.now a.m a.odds.now a.odd.now a.n y h _ _ _ c.sums_of-e.ensures c.sums_of-o.ensures c.minus-more.ensures) c.near_row-next.ensures (λ x q. c.requires.5 (7 - y) x g q)

overflow_sub-y : tie.Need-overflow_sub-y invariant-loop-y decreases-loop-y
overflow_sub-y c = omega arith

offset_bounds-out-y-in-loop-y : tie.Need-offset_bounds-out-y-in-loop-y invariant-loop-y decreases-loop-y
offset_bounds-out-y-in-loop-y c = omega arith

bounds-out-y-in-loop-y : tie.Need-bounds-out-y-in-loop-y invariant-loop-y decreases-loop-y
bounds-out-y-in-loop-y c = omega arith

overflow_step-y : tie.Need-overflow_step-y invariant-loop-y decreases-loop-y
overflow_step-y c = omega arith

loop-y-smaller : tie.Need-loop-y-smaller invariant-loop-y decreases-loop-y
loop-y-smaller c = omega arith

loop-y-preserved : tie.Need-loop-y-preserved invariant-loop-y decreases-loop-y
loop-y-preserved c =
    let l = c.loop-y in
    let a = c.args in
    let lo = to_z w32 (of_z w32 a.lo) in
    let hi = to_z w32 (of_z w32 a.hi) in
    let y = l.y in
    let h = c.loop-y-test.true in
    let low : y < 8 = omega arith in
    let high : 7 - y < 8 = omega arith in
    let value = value_of_both a.evens.now a.even.now a.m a.odds.now a.odd.now a.n in
    let sums = c.plus-sums.result in
    let more = c.minus-more.result in
    let near = c.near_row-near in
    let next = c.near_row-next in
    let one = plus-is a.evens.now a.even.now a.m a.odds.now a.odd.now a.n y h _ _ sums c.sums_of-e.ensures c.sums_of-o.ensures c.plus-sums.ensures in
    let two = minus_is a.evens.now a.even.now a.m a.odds.now a.odd.now a.n y h _ _ more c.sums_of-e.ensures c.sums_of-o.ensures c.minus-more.ensures in
    let first = cleared_more value (Done y y) y l.worst sums near.result c.farther-far.result (Done (y + 1) y) (done-low y) l.invariant.2 (λ x q. c.requires.5 y x low q) (sum_at (value y) sums one) near.ensures c.farther-far.ensures in
    let second = cleared_more value (Done (y + 1) y) (7 - y) c.farther-far.result more next.result c.farther-worst.result (Done (y + 1) (y + 1)) (λ j. done_high y j h) first (λ x q. c.requires.5 (7 - y) x high q) (sum_at (value (7 - y)) more two) next.ensures c.farther-worst.ensures in
    let goal = f lo hi a.evens.now a.even.now a.m a.odds.now a.odd.now a.n in
    let upper = rows_more goal (Done y y) l.out (Done (y + 1) y) y c.clipped_row.result low (near-clipped (value y) sums near.result one near.ensures lo hi c.clipped_row.result c.clipped_row.ensures) (done-low y) l.invariant.1 in
    let lower = rows_more goal (Done (y + 1) y) _ (Done (y + 1) (y + 1)) (7 - y) c.clipped_row-in-loop-y.result high (near-clipped (value (7 - y)) more next.result two next.ensures lo hi c.clipped_row-in-loop-y.result c.clipped_row-in-loop-y.ensures) (λ j. done_high y j h) upper in
    (omega arith, lower, second)

settled-requires : tie.Need-settled-requires invariant-loop-y decreases-loop-y
settled-requires c κs = tt

returns : tie.Need-returns invariant-loop-y decreases-loop-y
returns c =
    let l = c.loop-y in
    let a = c.args in
    let lo = to_z-of_z {w = w32} {z = a.lo} c.ranges.lo in
    let hi = to_z-of_z {w = w32} {z = a.hi} c.ranges.hi in
    let h = c.loop-y-test.false in (
      rows_all (f (to_z w32 (of_z w32 a.lo)) (to_z w32 (of_z w32 a.hi)) a.evens.now a.even.now a.m a.odds.now a.odd.now a.n) (Done l.y l.y) l.out (λ y p. done_all l.y y h p) l.invariant.1 ∙ (λ i. build 8 (f (lo i) (hi i) a.evens.now a.even.now a.m a.odds.now a.odd.now a.n)),
      λ e y x p q. cleared_all (value_of_both a.evens.now a.even.now a.m a.odds.now a.odd.now a.n) (Done l.y l.y) l.worst c.settled.result l.invariant.2 c.settled.ensures e y x (done_all l.y y h p) q,
    )

pub near_samples_spec : {M : Type 1} → statement M
near_samples_spec =
    tie.close
    (tie.spec
    invariant-loop-y
    decreases-loop-y
    eight_rows-requires
    loop-y-init
    sums_of-e-requires
    sums_of-o-requires
    plus-sums-requires
    near_row-near-requires
    farther-far-requires
    clipped_row-requires
    offset_bounds-out-y
    bounds-out-y
    minus-more-requires
    near_row-next-requires
    farther-worst-requires
    clipped_row-requires-in-loop-y
    overflow_sub-y
    offset_bounds-out-y-in-loop-y
    bounds-out-y-in-loop-y
    overflow_step-y
    loop-y-smaller
    loop-y-preserved
    settled-requires
    returns)
