-- `record::record::kept_numbers` meets its contract: the numbers before u are written. Assumes nothing.
use mathlib.Core.Path.{◌≡◌, refl, ap, ◌∙◌}
use Prim.Native.Nat.{ℕ, ◌-◌, ◌≤◌}
use native.Mathlib.Omega.{arith}
use lib.IntN.{ℤ, pos}
use mir.Facts.{to_z-of_z}
use mir.Syntax.{w32}
use mir.Val.{to_z}
use Rattle.numbers.specs.Grid.{build}
use Rattle.numbers.proofs.Fill.{part, cells-none, cells-more, cells_all}
use Rattle.numbers.proofs.Words.{held}
use Rattle.record.specs.Record.{fifteen, kept_of}
use Rattle.record.proofs.record.kept_numbers.Statement.{statement}
use Rattle.record.proofs.record.kept_numbers.Tie as tie

abbrev z : ℕ → ℤ
z u = pos 0

abbrev invariant-loop-u : tie.invariant-loop-u
invariant-loop-u dc qf out₀ u₀ out u = (u ≤ 15) × (out ≡ part 15 (kept_of (to_z w32 dc) qf) z u)

abbrev decreases-loop-u : tie.decreases-loop-u
decreases-loop-u dc qf out₀ u₀ out u = 15 - u

loop-u-init : tie.Need-loop-u-init invariant-loop-u decreases-loop-u
unfolding build
loop-u-init c = (omega arith, cells-none 15 _ z _ refl)

kept-requires : tie.Need-kept-requires invariant-loop-u decreases-loop-u
kept-requires c κs = omega arith

offset_bounds-out-u : tie.Need-offset_bounds-out-u invariant-loop-u decreases-loop-u
offset_bounds-out-u c = omega arith

bounds-out-u : tie.Need-bounds-out-u invariant-loop-u decreases-loop-u
bounds-out-u c = omega arith

overflow_step-u : tie.Need-overflow_step-u invariant-loop-u decreases-loop-u
overflow_step-u c = omega arith

loop-u-smaller : tie.Need-loop-u-smaller invariant-loop-u decreases-loop-u
loop-u-smaller c = omega arith

loop-u-preserved : tie.Need-loop-u-preserved invariant-loop-u decreases-loop-u
loop-u-preserved c =
    (omega arith, cells-more 15 _ _ (pos 0) _ _ _ c.loop-u-test.true c.loop-u.invariant.1 (held c.kept.result c.kept.type_inv ∙ c.kept.ensures))

returns : tie.Need-returns invariant-loop-u decreases-loop-u
unfolding fifteen
returns c =
    let l = c.loop-u in
    let s = c.before.before in
    cells_all 15 _ _ _ _ c.loop-u-test.false l.invariant.0 l.invariant.1 ∙ ap (λ (d : ℤ). build 15 (kept_of d s.args.qf)) (to_z-of_z s.ranges.dc)

pub kept_numbers_spec : {M : Type 1} → statement M
kept_numbers_spec =
    tie.close
    (tie.spec
    invariant-loop-u
    decreases-loop-u
    loop-u-init
    kept-requires
    offset_bounds-out-u
    bounds-out-u
    overflow_step-u
    loop-u-smaller
    loop-u-preserved
    returns)
