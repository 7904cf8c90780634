-- `idct::rows::ruled_row` meets its contract, one value a turn. Assumes nothing.
use mathlib.Core.List.{List}
use mathlib.Core.Path.{◌≡◌, refl, ap, subst, sym, ◌∙◌}
use Prim.Native.Nat.{ℕ, ◌-◌, ◌≤◌}
use native.Mathlib.Omega.{arith}
use lib.Ieee.{Float, nan, binary64, mul}
use lib.IntN.{ℤ, pos}
use lib.ListN.{get_or}
use mir.Facts.{to_z-of_z}
use mir.Syntax.{w32}
use mir.Val.{of_z, to_z}
use Rattle.numbers.proofs.Fill.{part, cells-none, cells-more, cells_all}
use Rattle.numbers.specs.Grid.{build}
use Rattle.numbers.specs.Limit.{clamp_z}
use Rattle.f64_error.specs.Series.{half}
use Rattle.rounding.specs.Rounding.{whole_of}
use Rattle.rounding.specs.Near.{Roundable}
use Rattle.rounding.specs.declared.HalfIntegerRounding.{HalfIntegerRounding}
use Rattle.rounding.proofs.Literals.{half-bits}
use Rattle.idct.proofs.rows.ruled_row.Statement.{statement}
use Rattle.idct.proofs.rows.ruled_row.Tie as tie

abbrev f : ℤ → ℤ → HalfIntegerRounding → List Float → ℕ → ℤ
f lo hi rounding sums x = clamp_z (whole_of rounding (mul binary64 half (get_or sums x nan))) lo hi

abbrev z : ℕ → ℤ
z x = pos 0

abbrev invariant-loop-x : tie.invariant-loop-x
invariant-loop-x lo hi rounding sums out₀ x₀ out x = (x ≤ 8) × (out ≡ part 8 (f (to_z w32 lo) (to_z w32 hi) rounding sums) z x)

abbrev decreases-loop-x : tie.decreases-loop-x
decreases-loop-x lo hi rounding sums out₀ x₀ out x = 8 - x

loop-x-init : tie.Need-loop-x-init invariant-loop-x decreases-loop-x
unfolding build
loop-x-init c = (omega arith, cells-none 8 (f (to_z w32 (of_z w32 c.args.lo)) (to_z w32 (of_z w32 c.args.hi)) c.args.rounding c.args.sums) z _ refl)

offset_bounds-sums-x : tie.Need-offset_bounds-sums-x invariant-loop-x decreases-loop-x
offset_bounds-sums-x c = omega arith

bounds-sums-x : tie.Need-bounds-sums-x invariant-loop-x decreases-loop-x
bounds-sums-x c = omega arith

ruled_sample-requires : tie.Need-ruled_sample-requires invariant-loop-x decreases-loop-x
ruled_sample-requires c κs =
    let i = c.before in
    let s = i.before in
    subst (λ (h : Float). Roundable (mul binary64 h (get_or s.args.sums i.loop-x.x nan))) (sym half-bits) (s.requires _ c.loop-x-test.true)

offset_bounds-out-x : tie.Need-offset_bounds-out-x invariant-loop-x decreases-loop-x
offset_bounds-out-x c = omega arith

bounds-out-x : tie.Need-bounds-out-x invariant-loop-x decreases-loop-x
bounds-out-x c = omega arith

overflow_step-x : tie.Need-overflow_step-x invariant-loop-x decreases-loop-x
overflow_step-x c = omega arith

loop-x-smaller : tie.Need-loop-x-smaller invariant-loop-x decreases-loop-x
loop-x-smaller c = omega arith

loop-x-preserved : tie.Need-loop-x-preserved invariant-loop-x decreases-loop-x
loop-x-preserved c =
    let i = c.before.before in
    let a = i.args in
    let r = c.ruled_sample.result in (
      omega arith,
      cells-more 8 _ _ (pos 0) _ _ _ c.loop-x-test.true i.loop-x.invariant.1
          (to_z-of_z {w = w32} {z = r} (record { sfits = c.ruled_sample.type_inv }) ∙ c.ruled_sample.ensures
          ∙ ap (λ (h : Float). clamp_z (whole_of a.rounding (mul binary64 h (get_or a.sums i.loop-x.x nan))) (to_z w32 (of_z w32 a.lo)) (to_z w32 (of_z w32 a.hi))) half-bits),
    )

returns : tie.Need-returns invariant-loop-x decreases-loop-x
returns c =
    let s = c.before.before in
    let lo = to_z-of_z {w = w32} {z = s.args.lo} s.ranges.lo in
    let hi = to_z-of_z {w = w32} {z = s.args.hi} s.ranges.hi in
    cells_all 8 _ _ _ _ c.loop-x-test.false c.loop-x.invariant.0 c.loop-x.invariant.1 ∙ (λ i. build 8 (f (lo i) (hi i) s.args.rounding s.args.sums))

pub ruled_row_spec : {M : Type 1} → statement M
ruled_row_spec =
    tie.close
    (tie.spec
    invariant-loop-x
    decreases-loop-x
    loop-x-init
    offset_bounds-sums-x
    bounds-sums-x
    ruled_sample-requires
    offset_bounds-out-x
    bounds-out-x
    overflow_step-x
    loop-x-smaller
    loop-x-preserved
    returns)
