-- `eights::both_terms` meets its contract: the sums, then the differences. Assumes nothing.
use mathlib.Core.Bool.{Bool, cond}
use mathlib.Core.List.{List}
use mathlib.Core.Path.{◌≡◌, refl, sym, ap, ◌∙◌}
use Prim.Native.Nat.{ℕ, ◌-◌, ◌≤◌}
use native.Mathlib.Omega.{arith}
use lib.Ieee.{Float, nan, binary64, add, mul, of_bits, sub}
use lib.ListN.{get_or}
use borrow.Author.Tests.{lt-ltb, le-ltb}
use Rattle.numbers.proofs.Fill.{part, cells-none, cells-more, cells_all}
use Rattle.numbers.specs.Grid.{build}
use Rattle.eights.specs.Eights.{both_at}
use Rattle.eights.proofs.both_terms.Statement.{statement}
use Rattle.eights.proofs.both_terms.Tie as tie

abbrev z : ℕ → Float
z k = of_bits binary64 0

abbrev g : Float → List Float → List Float → ℕ → Float
g s e o x = mul binary64 s (both_at (λ (i : ℕ). get_or e i nan) (λ (i : ℕ). get_or o i nan) x)

abbrev invariant-loop-x : tie.invariant-loop-x
invariant-loop-x s e o out₀ x₀ out x = (x ≤ 4) × (out ≡ part 8 (g s e o) z x)

abbrev decreases-loop-x : tie.decreases-loop-x
decreases-loop-x s e o out₀ x₀ out x = 4 - x

abbrev invariant-loop-x-2 : tie.invariant-loop-x-2
invariant-loop-x-2 s e o out₀ x₀ out x = (4 ≤ x) × (x ≤ 8) × (out ≡ part 8 (g s e o) z x)

abbrev decreases-loop-x-2 : tie.decreases-loop-x-2
decreases-loop-x-2 s e o out₀ x₀ out x = 8 - x

loop-x-init : tie.Need-loop-x-init invariant-loop-x decreases-loop-x invariant-loop-x-2 decreases-loop-x-2
unfolding build
loop-x-init c = (omega arith, cells-none 8 (g c.args.s c.args.e c.args.o) z _ refl)

offset_bounds-e-x : tie.Need-offset_bounds-e-x invariant-loop-x decreases-loop-x invariant-loop-x-2 decreases-loop-x-2
offset_bounds-e-x c = omega arith

bounds-e-x : tie.Need-bounds-e-x invariant-loop-x decreases-loop-x invariant-loop-x-2 decreases-loop-x-2
bounds-e-x c = omega arith

offset_bounds-o-x : tie.Need-offset_bounds-o-x invariant-loop-x decreases-loop-x invariant-loop-x-2 decreases-loop-x-2
offset_bounds-o-x c = omega arith

bounds-o-x : tie.Need-bounds-o-x invariant-loop-x decreases-loop-x invariant-loop-x-2 decreases-loop-x-2
bounds-o-x c = omega arith

offset_bounds-out-x : tie.Need-offset_bounds-out-x invariant-loop-x decreases-loop-x invariant-loop-x-2 decreases-loop-x-2
offset_bounds-out-x c = omega arith

bounds-out-x : tie.Need-bounds-out-x invariant-loop-x decreases-loop-x invariant-loop-x-2 decreases-loop-x-2
bounds-out-x c = omega arith

overflow_step-x : tie.Need-overflow_step-x invariant-loop-x decreases-loop-x invariant-loop-x-2 decreases-loop-x-2
overflow_step-x c = omega arith

loop-x-smaller : tie.Need-loop-x-smaller invariant-loop-x decreases-loop-x invariant-loop-x-2 decreases-loop-x-2
loop-x-smaller c = omega arith

loop-x-preserved : tie.Need-loop-x-preserved invariant-loop-x decreases-loop-x invariant-loop-x-2 decreases-loop-x-2
loop-x-preserved c =
    let o = c.before in
    let a = o.args in
    let x = o.loop-x.x in
    (omega arith, cells-more 8 _ _ nan _ _ _ (omega (arith, c.loop-x-test.true)) o.loop-x.invariant.1 (sym (ap (λ (b : Bool). mul binary64 a.s (cond b (add binary64 (get_or a.e x nan) (get_or a.o x nan)) (sub binary64 (get_or a.e (7 - x) nan) (get_or a.o (7 - x) nan)))) (lt-ltb x 4 c.loop-x-test.true))))

loop-x-2-init : tie.Need-loop-x-2-init invariant-loop-x decreases-loop-x invariant-loop-x-2 decreases-loop-x-2
loop-x-2-init c =
    let l = c.loop-x in
    let h : l.x ≡ 4 = omega (arith, l.invariant.0, c.loop-x-test.false) in
    let a = c.args in
    (omega arith, omega arith, l.invariant.1 ∙ ap (part 8 (g a.s a.e a.o) z) h)

overflow_sub-out : tie.Need-overflow_sub-out invariant-loop-x decreases-loop-x invariant-loop-x-2 decreases-loop-x-2
overflow_sub-out c = omega arith

offset_bounds-e-x-in-loop-x-2 : tie.Need-offset_bounds-e-x-in-loop-x-2 invariant-loop-x decreases-loop-x invariant-loop-x-2 decreases-loop-x-2
offset_bounds-e-x-in-loop-x-2 c = omega arith

bounds-e-x-in-loop-x-2 : tie.Need-bounds-e-x-in-loop-x-2 invariant-loop-x decreases-loop-x invariant-loop-x-2 decreases-loop-x-2
bounds-e-x-in-loop-x-2 c = omega arith

overflow_sub-out-in-loop-x-2 : tie.Need-overflow_sub-out-in-loop-x-2 invariant-loop-x decreases-loop-x invariant-loop-x-2 decreases-loop-x-2
overflow_sub-out-in-loop-x-2 c = omega arith

offset_bounds-o-x-in-loop-x-2 : tie.Need-offset_bounds-o-x-in-loop-x-2 invariant-loop-x decreases-loop-x invariant-loop-x-2 decreases-loop-x-2
offset_bounds-o-x-in-loop-x-2 c = omega arith

bounds-o-x-in-loop-x-2 : tie.Need-bounds-o-x-in-loop-x-2 invariant-loop-x decreases-loop-x invariant-loop-x-2 decreases-loop-x-2
bounds-o-x-in-loop-x-2 c = omega arith

offset_bounds-out-x-in-loop-x-2 : tie.Need-offset_bounds-out-x-in-loop-x-2 invariant-loop-x decreases-loop-x invariant-loop-x-2 decreases-loop-x-2
offset_bounds-out-x-in-loop-x-2 c = omega arith

bounds-out-x-in-loop-x-2 : tie.Need-bounds-out-x-in-loop-x-2 invariant-loop-x decreases-loop-x invariant-loop-x-2 decreases-loop-x-2
bounds-out-x-in-loop-x-2 c = omega arith

overflow_step-x-in-loop-x-2 : tie.Need-overflow_step-x-in-loop-x-2 invariant-loop-x decreases-loop-x invariant-loop-x-2 decreases-loop-x-2
overflow_step-x-in-loop-x-2 c = omega arith

loop-x-2-smaller : tie.Need-loop-x-2-smaller invariant-loop-x decreases-loop-x invariant-loop-x-2 decreases-loop-x-2
loop-x-2-smaller c = omega arith

loop-x-2-preserved : tie.Need-loop-x-2-preserved invariant-loop-x decreases-loop-x invariant-loop-x-2 decreases-loop-x-2
loop-x-2-preserved c =
    let o = c.before in
    let a = o.args in
    let x = o.loop-x-2.x in
    (omega arith, omega arith, cells-more 8 _ _ nan _ _ _ c.loop-x-2-test.true o.loop-x-2.invariant.2 (sym (ap (λ (b : Bool). mul binary64 a.s (cond b (add binary64 (get_or a.e x nan) (get_or a.o x nan)) (sub binary64 (get_or a.e (7 - x) nan) (get_or a.o (7 - x) nan)))) (le-ltb x 4 o.loop-x-2.invariant.0))))

returns : tie.Need-returns invariant-loop-x decreases-loop-x invariant-loop-x-2 decreases-loop-x-2
returns c = cells_all 8 _ _ _ _ c.loop-x-2-test.false c.loop-x-2.invariant.1 c.loop-x-2.invariant.2

pub both_terms_spec : {M : Type 1} → statement M
both_terms_spec =
    tie.close
    (tie.spec
    invariant-loop-x
    decreases-loop-x
    invariant-loop-x-2
    decreases-loop-x-2
    loop-x-init
    offset_bounds-e-x
    bounds-e-x
    offset_bounds-o-x
    bounds-o-x
    offset_bounds-out-x
    bounds-out-x
    overflow_step-x
    loop-x-smaller
    loop-x-preserved
    loop-x-2-init
    overflow_sub-out
    offset_bounds-e-x-in-loop-x-2
    bounds-e-x-in-loop-x-2
    overflow_sub-out-in-loop-x-2
    offset_bounds-o-x-in-loop-x-2
    bounds-o-x-in-loop-x-2
    offset_bounds-out-x-in-loop-x-2
    bounds-out-x-in-loop-x-2
    overflow_step-x-in-loop-x-2
    loop-x-2-smaller
    loop-x-2-preserved
    returns)
