-- `idct::short::ruled` meets its contract, two rows a turn. Assumes nothing.
use mathlib.Core.List.{List, []}
use mathlib.Core.Path.{◌≡◌, refl, ◌∙◌}
use Prim.Native.Nat.{ℕ, ◌+◌, ◌-◌, ◌*◌, ◌≤◌, ◌<◌}
use native.Mathlib.Omega.{arith}
use lib.Ieee.{Float}
use lib.IntN.{ℤ}
use lib.ListN.{get_or}
use mir.Facts.{to_z-of_z}
use mir.Syntax.{w32}
use mir.Val.{of_z, to_z}
use Rattle.numbers.proofs.Fill.{cells-none, is-build, part}
use Rattle.numbers.specs.Grid.{build}
use Rattle.numbers.specs.Limit.{clamp_z}
use Rattle.rounding.specs.Rounding.{whole_of}
use Rattle.rounding.specs.declared.HalfIntegerRounding.{HalfIntegerRounding}
use Rattle.exact_transform.specs.EvenOdd.{sum_of_kept}
use Rattle.idct.specs.ShortWays.{half_of_kept}
use Rattle.idct.proofs.Doubts.{row_bounded, row_ruled}
use Rattle.idct.proofs.Pairs.{pair_more, pairs_all}
use Rattle.idct.proofs.short.ruled.Statement.{statement}
use Rattle.idct.proofs.short.ruled.Tie as tie

-- the rows at entry
abbrev old : List (List ℤ) → ℕ → List ℤ
old out y = get_or out y []

abbrev f : ℤ → ℤ → HalfIntegerRounding → List (List Float) → List ℕ → ℕ → ℕ → List ℤ
f lo hi rounding terms which n y = build 8 (λ (x : ℕ). clamp_z (whole_of rounding (half_of_kept terms which n y x)) lo hi)

abbrev invariant-loop-p : tie.invariant-loop-p
invariant-loop-p terms which n table lo hi rounding out₀ p₀ out p = (p ≤ 4) × (out ≡ part 8 (f (to_z w32 lo) (to_z w32 hi) rounding terms which n) (old out₀) (2 * p))

abbrev decreases-loop-p : tie.decreases-loop-p
decreases-loop-p terms which n table lo hi rounding out₀ p₀ out p = 4 - p

eight_rows-requires : tie.Need-eight_rows-requires invariant-loop-p decreases-loop-p
eight_rows-requires c κs = tt

loop-p-init : tie.Need-loop-p-init invariant-loop-p decreases-loop-p
loop-p-init c =
    let a = c.args in
    (omega arith, cells-none 8 (f (to_z w32 (of_z w32 a.lo)) (to_z w32 (of_z w32 a.hi)) a.rounding a.terms.now a.which.now a.n) (old a.out.now) _ (is-build [] _ 8 (old a.out.now) c.eight_rows.ensures (λ i h. refl)))

overflow_mul-y : tie.Need-overflow_mul-y invariant-loop-p decreases-loop-p
overflow_mul-y c = omega arith

two_rows-pair-requires : tie.Need-two_rows-pair-requires invariant-loop-p decreases-loop-p
two_rows-pair-requires c κs =
    (c.requires.0, c.requires.1, omega arith, c.requires.2)

ruled_row-requires : tie.Need-ruled_row-requires invariant-loop-p decreases-loop-p
ruled_row-requires c κs =
    let a = c.args in
    let y = 2 * c.loop-p.p in
    let h : y < 8 = omega (arith, c.loop-p-test.true) in
    λ x q. row_bounded (sum_of_kept a.terms.now a.which.now a.n y) c.two_rows-pair.result.sums c.two_rows-pair.ensures.0 (λ x q. c.requires.3 y x h q) x q

offset_bounds-out-y : tie.Need-offset_bounds-out-y invariant-loop-p decreases-loop-p
offset_bounds-out-y c = omega arith

bounds-out-y : tie.Need-bounds-out-y invariant-loop-p decreases-loop-p
bounds-out-y c = omega arith

ruled_row-requires-in-loop-p : tie.Need-ruled_row-requires-in-loop-p invariant-loop-p decreases-loop-p
ruled_row-requires-in-loop-p c κs =
    let a = c.args in
    let y = 2 * c.loop-p.p + 1 in
    let h : y < 8 = omega (arith, c.loop-p-test.true) in
    λ x q. row_bounded (sum_of_kept a.terms.now a.which.now a.n y) c.two_rows-pair.result.more c.two_rows-pair.ensures.1 (λ x q. c.requires.3 y x h q) x q

overflow_add-y : tie.Need-overflow_add-y invariant-loop-p decreases-loop-p
overflow_add-y c = omega arith

offset_bounds-out-y-in-loop-p : tie.Need-offset_bounds-out-y-in-loop-p invariant-loop-p decreases-loop-p
offset_bounds-out-y-in-loop-p c = omega arith

bounds-out-y-in-loop-p : tie.Need-bounds-out-y-in-loop-p invariant-loop-p decreases-loop-p
bounds-out-y-in-loop-p c = omega arith

overflow_step-p : tie.Need-overflow_step-p invariant-loop-p decreases-loop-p
overflow_step-p c = omega arith

loop-p-smaller : tie.Need-loop-p-smaller invariant-loop-p decreases-loop-p
loop-p-smaller c = omega arith

loop-p-preserved : tie.Need-loop-p-preserved invariant-loop-p decreases-loop-p
loop-p-preserved c =
    let l = c.loop-p in
    let a = c.args in
    let lo = to_z w32 (of_z w32 a.lo) in
    let hi = to_z w32 (of_z w32 a.hi) in
    let sum = sum_of_kept a.terms.now a.which.now a.n in (
      omega arith,
      pair_more (f lo hi a.rounding a.terms.now a.which.now a.n) (old a.out.now) [] l.out l.p c.ruled_row.result c.ruled_row-in-loop-p.result c.loop-p-test.true l.invariant.1
          (row_ruled (sum (2 * l.p)) c.two_rows-pair.result.sums c.two_rows-pair.ensures.0 a.rounding lo hi c.ruled_row.result c.ruled_row.ensures)
          (row_ruled (sum (2 * l.p + 1)) c.two_rows-pair.result.more c.two_rows-pair.ensures.1 a.rounding lo hi c.ruled_row-in-loop-p.result c.ruled_row-in-loop-p.ensures),
    )

returns : tie.Need-returns invariant-loop-p decreases-loop-p
returns c =
    let l = c.loop-p in
    let a = c.args in
    let lo = to_z-of_z {w = w32} {z = a.lo} c.ranges.lo in
    let hi = to_z-of_z {w = w32} {z = a.hi} c.ranges.hi in
    pairs_all (f (to_z w32 (of_z w32 a.lo)) (to_z w32 (of_z w32 a.hi)) a.rounding a.terms.now a.which.now a.n) (old a.out.now) l.out l.p c.loop-p-test.false l.invariant.0 l.invariant.1 ∙ (λ i. build 8 (f (lo i) (hi i) a.rounding a.terms.now a.which.now a.n))

pub ruled_spec : {M : Type 1} → statement M
ruled_spec =
    tie.close
    (tie.spec
    invariant-loop-p
    decreases-loop-p
    eight_rows-requires
    loop-p-init
    overflow_mul-y
    two_rows-pair-requires
    ruled_row-requires
    offset_bounds-out-y
    bounds-out-y
    ruled_row-requires-in-loop-p
    overflow_add-y
    offset_bounds-out-y-in-loop-p
    bounds-out-y-in-loop-p
    overflow_step-p
    loop-p-smaller
    loop-p-preserved
    returns)
