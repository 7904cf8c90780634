-- `inverse_quant::row::added` meets its contract, one value a turn. Assumes nothing.
use mathlib.Core.Path.{◌≡◌, refl}
use Prim.Native.Nat.{ℕ, ◌-◌, ◌≤◌}
use native.Mathlib.Omega.{arith}
use lib.IntN.{pos, ◌+ℤ◌}
use lib.ListN.{get_or}
use mir.Syntax.{w32}
use Rattle.numbers.specs.Grid.{build}
use Rattle.numbers.proofs.Expressions.{Sx, loc, ◌⊞◌, back, fits}
use Rattle.numbers.proofs.Fill.{part, cells-none, cells-more, cells_all}
use Rattle.inverse_quant.proofs.row.added.Statement.{statement}
use Rattle.inverse_quant.proofs.row.added.Tie as tie

abbrev invariant-loop-u : tie.invariant-loop-u
invariant-loop-u sums row out₀ u₀ out u = (u ≤ 8) × (out ≡ part 8 (λ (k : ℕ). get_or sums k (pos 0) +ℤ get_or row k (pos 0)) (λ (k : ℕ). pos 0) u)

abbrev decreases-loop-u : tie.decreases-loop-u
decreases-loop-u sums row out₀ u₀ out u = 8 - u

-- the value of this turn
abbrev sum : tie.At-loop-u invariant-loop-u decreases-loop-u → Sx w32
sum a =
    let s = a.before in
    loc (get_or s.args.sums a.loop-u.u (pos 0)) 229376 (s.requires.0 a.loop-u.u) ⊞ loc (get_or s.args.row a.loop-u.u (pos 0)) 32768 (s.requires.1 a.loop-u.u)

loop-u-init : tie.Need-loop-u-init invariant-loop-u decreases-loop-u
unfolding build
loop-u-init c = (omega arith, cells-none 8 _ (λ (k : ℕ). pos 0) _ refl)

offset_bounds-sums-u : tie.Need-offset_bounds-sums-u invariant-loop-u decreases-loop-u
offset_bounds-sums-u c = omega arith

bounds-sums-u : tie.Need-bounds-sums-u invariant-loop-u decreases-loop-u
bounds-sums-u c = omega arith

offset_bounds-row-u : tie.Need-offset_bounds-row-u invariant-loop-u decreases-loop-u
offset_bounds-row-u c = omega arith

bounds-row-u : tie.Need-bounds-row-u invariant-loop-u decreases-loop-u
bounds-row-u c = omega arith

overflow_add-out : tie.Need-overflow_add-out invariant-loop-u decreases-loop-u
overflow_add-out c = fits (sum c.before.before.before) tt

offset_bounds-out-u : tie.Need-offset_bounds-out-u invariant-loop-u decreases-loop-u
offset_bounds-out-u c = omega arith

bounds-out-u : tie.Need-bounds-out-u invariant-loop-u decreases-loop-u
bounds-out-u c = omega arith

overflow_step-u : tie.Need-overflow_step-u invariant-loop-u decreases-loop-u
overflow_step-u c = omega arith

loop-u-smaller : tie.Need-loop-u-smaller invariant-loop-u decreases-loop-u
loop-u-smaller c = omega arith

loop-u-preserved : tie.Need-loop-u-preserved invariant-loop-u decreases-loop-u
loop-u-preserved c =
    let i = c.before.before in
    let a = i.before in
    (omega arith, cells-more 8 _ _ (pos 0) _ _ _ i.loop-u-test.true a.loop-u.invariant.1 (back (sum a) tt))

returns : tie.Need-returns invariant-loop-u decreases-loop-u
returns c = cells_all 8 _ _ _ _ c.loop-u-test.false c.loop-u.invariant.0 c.loop-u.invariant.1

pub added_spec : {M : Type 1} → statement M
added_spec =
    tie.close
    (tie.spec
    invariant-loop-u
    decreases-loop-u
    loop-u-init
    offset_bounds-sums-u
    bounds-sums-u
    offset_bounds-row-u
    bounds-row-u
    overflow_add-out
    offset_bounds-out-u
    bounds-out-u
    overflow_step-u
    loop-u-smaller
    loop-u-preserved
    returns)
