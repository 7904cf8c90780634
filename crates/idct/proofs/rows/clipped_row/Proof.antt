-- `idct::rows::clipped_row` meets its contract, one store a turn. Assumes nothing.
use mathlib.Core.List.{List}
use mathlib.Core.Path.{◌≡◌, refl, ap, ◌∙◌}
use Prim.Native.Nat.{ℕ, ◌-◌, ◌≤◌}
use native.Mathlib.Omega.{arith}
use lib.Ieee.{Float, nan, to_signed}
use lib.IntN.{ℤ, pos}
use lib.ListN.{get_or}
use mir.Facts.{to_z-of_z}
use mir.Syntax.{w32}
use mir.Val.{of_z, to_z}
use Rattle.numbers.proofs.Fill.{part, cells-none, cells-more, cells_all}
use Rattle.numbers.proofs.Words.{fits_mag, held}
use Rattle.numbers.specs.Grid.{build}
use Rattle.numbers.specs.Limit.{clamp_z}
use Rattle.idct.proofs.rows.clipped_row.Statement.{statement}
use Rattle.idct.proofs.rows.clipped_row.Tie as tie

abbrev z : ℕ → ℤ
z x = pos 0

abbrev f : ℤ → ℤ → List Float → ℕ → ℤ
f lo hi near x = clamp_z (to_signed 31 (get_or near x nan)) lo hi

abbrev invariant-loop-x : tie.invariant-loop-x
invariant-loop-x lo hi near out₀ x₀ out x = (x ≤ 8) × (out ≡ part 8 (f (to_z w32 lo) (to_z w32 hi) near) z x)

abbrev decreases-loop-x : tie.decreases-loop-x
decreases-loop-x lo hi near out₀ x₀ out x = 8 - x

loop-x-init : tie.Need-loop-x-init invariant-loop-x decreases-loop-x
unfolding build
loop-x-init c = (omega arith, cells-none 8 (f (to_z w32 (of_z w32 c.args.lo)) (to_z w32 (of_z w32 c.args.hi)) c.args.near) z _ refl)

offset_bounds-near-x : tie.Need-offset_bounds-near-x invariant-loop-x decreases-loop-x
offset_bounds-near-x c = omega arith

bounds-near-x : tie.Need-bounds-near-x invariant-loop-x decreases-loop-x
bounds-near-x c = omega arith

float_to_int-n : tie.Need-float_to_int-n invariant-loop-x decreases-loop-x
float_to_int-n c = (c.requires _ c.loop-x-test.true).0

clamp-requires : tie.Need-clamp-requires invariant-loop-x decreases-loop-x
clamp-requires c κs = tt

offset_bounds-out-x : tie.Need-offset_bounds-out-x invariant-loop-x decreases-loop-x
offset_bounds-out-x c = omega arith

bounds-out-x : tie.Need-bounds-out-x invariant-loop-x decreases-loop-x
bounds-out-x c = omega arith

overflow_step-x : tie.Need-overflow_step-x invariant-loop-x decreases-loop-x
overflow_step-x c = omega arith

loop-x-smaller : tie.Need-loop-x-smaller invariant-loop-x decreases-loop-x
loop-x-smaller c = omega arith

loop-x-preserved : tie.Need-loop-x-preserved invariant-loop-x decreases-loop-x
loop-x-preserved c =
    let i = c.before.before.before in
    let a = i.args in
    let n = to_signed 31 (get_or a.near i.loop-x.x nan) in (
      omega arith,
      cells-more 8 _ _ (pos 0) _ _ _ c.loop-x-test.true i.loop-x.invariant.1
          (held c.clamp.result c.clamp.type_inv ∙ c.clamp.ensures
          ∙ ap (λ (k : ℤ). clamp_z k (to_z w32 (of_z w32 a.lo)) (to_z w32 (of_z w32 a.hi))) (to_z-of_z {w = w32} {z = n} (fits_mag 1048576 tt n (i.requires _ c.loop-x-test.true).1))),
    )

returns : tie.Need-returns invariant-loop-x decreases-loop-x
returns c =
    let s = c.before.before in
    let lo = to_z-of_z {w = w32} {z = s.args.lo} s.ranges.lo in
    let hi = to_z-of_z {w = w32} {z = s.args.hi} s.ranges.hi in
    cells_all 8 _ _ _ _ c.loop-x-test.false c.loop-x.invariant.0 c.loop-x.invariant.1 ∙ (λ i. build 8 (f (lo i) (hi i) s.args.near))

pub clipped_row_spec : {M : Type 1} → statement M
clipped_row_spec =
    tie.close
    (tie.spec
    invariant-loop-x
    decreases-loop-x
    loop-x-init
    offset_bounds-near-x
    bounds-near-x
    float_to_int-n
    clamp-requires
    offset_bounds-out-x
    bounds-out-x
    overflow_step-x
    loop-x-smaller
    loop-x-preserved
    returns)
