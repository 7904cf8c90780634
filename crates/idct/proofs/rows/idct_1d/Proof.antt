-- `idct::rows::idct_1d` meets its contract: one term a turn, at every x. Assumes nothing.
use mathlib.Core.List.{List, []}
use mathlib.Core.Path.{◌≡◌, ap, ◌∙◌}
use Prim.Native.Nat.{ℕ, ◌-◌, ◌≤◌}
use native.Mathlib.Omega.{arith}
use lib.Ieee.{Float, nan, binary64, mul, of_bits}
use lib.ListN.{get_or}
use Rattle.numbers.proofs.Fill.{build-eq, get_or-build}
use Rattle.numbers.specs.Grid.{build}
use Rattle.cosines.specs.Cosines.{cos_f}
use Rattle.idct.proofs.Loops.{sum_at, no_terms, one_more_lem, none_more, all_terms}
use Rattle.idct.proofs.rows.idct_1d.Lts.{then-f, else-f}
use Rattle.idct.proofs.rows.idct_1d.Statement.{statement}
use Rattle.idct.proofs.rows.idct_1d.Tie as tie

abbrev invariant-loop-u : tie.invariant-loop-u
invariant-loop-u cos input sums₀ u₀ sums u = (u ≤ 8) × (sums ≡ build 8 (sum_at input u))

abbrev decreases-loop-u : tie.decreases-loop-u
decreases-loop-u cos input sums₀ u₀ sums u = 8 - u

loop-u-init : tie.Need-loop-u-init invariant-loop-u decreases-loop-u
unfolding build
loop-u-init c = (omega arith, build-eq 8 (λ (x : ℕ). of_bits binary64 0) (sum_at c.args.input 0) (no_terms c.args.input))

c-requires : tie.Need-c-requires invariant-loop-u decreases-loop-u
c-requires c κs = tt

offset_bounds-input-u : tie.Need-offset_bounds-input-u invariant-loop-u decreases-loop-u
offset_bounds-input-u c = omega arith

bounds-input-u : tie.Need-bounds-input-u invariant-loop-u decreases-loop-u
bounds-input-u c = omega arith

offset_bounds-cos-u : tie.Need-offset_bounds-cos-u invariant-loop-u decreases-loop-u
offset_bounds-cos-u c = omega arith

bounds-cos-u : tie.Need-bounds-cos-u invariant-loop-u decreases-loop-u
bounds-cos-u c = omega arith

add_term-more-requires : tie.Need-add_term-more-requires invariant-loop-u decreases-loop-u
add_term-more-requires c κs = tt

overflow_step-u : tie.Need-overflow_step-u invariant-loop-u decreases-loop-u
overflow_step-u c = omega arith

loop-u-smaller : tie.Need-loop-u-smaller invariant-loop-u decreases-loop-u
loop-u-smaller c = omega arith

loop-u-preserved : tie.Need-loop-u-preserved invariant-loop-u decreases-loop-u
loop-u-preserved c =
    let u = c.loop-u.u in
    let l = c.loop-u-test.true in
    let f = ap (λ (k : Float). mul binary64 k (get_or c.args.input u nan)) c.c.ensures in
    let row = ap (λ (t : List (List Float)). get_or t u []) c.requires ∙ get_or-build 8 (λ (v : ℕ). build 8 (cos_f v)) u [] l in (
      omega arith,
      elim c.if-f.branch [
        | then-f w ↦ w.sums-is ∙ one_more_lem c.args.input u c.loop-u.sums _ _ _ c.loop-u.invariant.1 row f w.add_term-more.ensures
        | else-f w ↦ w.sums-is ∙ none_more c.args.input u c.loop-u.sums _ c.loop-u.invariant.1 f w.if-f.false
      ],
    )

halves-requires : tie.Need-halves-requires invariant-loop-u decreases-loop-u
halves-requires c κs = tt

returns : tie.Need-returns invariant-loop-u decreases-loop-u
returns c =
    let l = c.loop-u in
    c.halves.ensures ∙ all_terms c.args.input l.sums l.u l.invariant.0 c.loop-u-test.false l.invariant.1

pub idct_1d_spec : {M : Type 1} → statement M
idct_1d_spec =
    tie.close
    (tie.spec
    invariant-loop-u
    decreases-loop-u
    loop-u-init
    c-requires
    offset_bounds-input-u
    bounds-input-u
    offset_bounds-cos-u
    bounds-cos-u
    add_term-more-requires
    overflow_step-u
    loop-u-smaller
    loop-u-preserved
    halves-requires
    returns)
