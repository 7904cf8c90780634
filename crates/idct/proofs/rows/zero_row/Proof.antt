-- `idct::rows::zero_row` meets its contract, one value a turn. Assumes nothing.
use mathlib.Core.Bool.{Bool, ◌&&◌}
use mathlib.Core.Path.{◌≡◌, refl, ap, sym, ◌∙◌}
use Prim.Native.Nat.{◌+◌, ◌-◌, ◌≤◌}
use native.Mathlib.Omega.{arith}
use lib.Dec.{eqb}
use lib.IntN.{pos}
use lib.ListN.{drop, get_or}
use borrow.Author.Rules.{rules}
use Rattle.numbers.specs.Every.{every}
use Rattle.numbers.proofs.EveryLaws.{test_done, test_more}
use Rattle.exact_transform.specs.EvenOdd.{is_zero}
use Rattle.idct.proofs.Ors.{both_zero}
use Rattle.idct.proofs.rows.zero_row.Statement.{statement}
use Rattle.idct.proofs.rows.zero_row.Tie as tie

abbrev invariant-loop-u : tie.invariant-loop-u
invariant-loop-u row some₀ u₀ some u = (u ≤ 8) × (every is_zero row ≡ (eqb some 0 && every is_zero (drop u row)))

abbrev decreases-loop-u : tie.decreases-loop-u
decreases-loop-u row some₀ u₀ some u = 8 - u

loop-u-init : tie.Need-loop-u-init invariant-loop-u decreases-loop-u
loop-u-init c = (omega arith, refl)

offset_bounds-row-u : tie.Need-offset_bounds-row-u invariant-loop-u decreases-loop-u
offset_bounds-row-u c = omega arith

bounds-row-u : tie.Need-bounds-row-u invariant-loop-u decreases-loop-u
bounds-row-u c = omega arith

overflow_step-u : tie.Need-overflow_step-u invariant-loop-u decreases-loop-u
overflow_step-u c = omega arith

loop-u-smaller : tie.Need-loop-u-smaller invariant-loop-u decreases-loop-u
loop-u-smaller c = omega arith

loop-u-preserved : tie.Need-loop-u-preserved invariant-loop-u decreases-loop-u
loop-u-preserved c =
    let i = c.before.before in
    let row = i.args.row in
    let z = get_or row i.loop-u.u (pos 0) in
    (omega arith, test_more is_zero (pos 0) row _ i.loop-u.u (eqb i.loop-u.some-bits 0) (is_zero z) (omega arith) i.loop-u.invariant.1 refl ∙ ap (λ (b : Bool). b && every is_zero (drop (i.loop-u.u + 1) row)) (sym (both_zero i.loop-u.some-bits z (record { sfits = search rules }))))

returns : tie.Need-returns invariant-loop-u decreases-loop-u
returns c = test_done is_zero (pos 0) c.args.row _ c.loop-u.u (eqb c.loop-u.some-bits 0) (omega arith) c.loop-u.invariant.1

pub zero_row_spec : {M : Type 1} → statement M
zero_row_spec =
    tie.close
    (tie.spec
    invariant-loop-u
    decreases-loop-u
    loop-u-init
    offset_bounds-row-u
    bounds-row-u
    overflow_step-u
    loop-u-smaller
    loop-u-preserved
    returns)
