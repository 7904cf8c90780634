-- `neighbours::predictors::neighbours_fine` meets its contract: what each block before i takes passes. Assumes nothing.
use mathlib.Core.Bool.{Bool, true}
use mathlib.Core.List.{List}
use mathlib.Core.Path.{◌≡◌, sym, ap, ◌∙◌}
use Prim.Native.Nat.{ℕ, ◌-◌, ◌≤◌, ◌<◌}
use native.Mathlib.Omega.{arith}
use lib.IntN.{ℤ}
use borrow.Author.Count.{below_more}
use Rattle.numbers.proofs.Tests.{flag_passes, flag_refuses}
use Rattle.coefficients.specs.Level.{predictors_fine}
use Rattle.places.specs.declared.place.Place.{Place}
use Rattle.record.specs.Record.{record_at}
use Rattle.neighbours.specs.Neighbours.{around_by, neighbours_fine, predictors}
use Rattle.neighbours.proofs.SideLaws.{all_of_six, one_of_six_not}
use Rattle.neighbours.proofs.predictors.neighbours_fine.Statement.{statement}
use Rattle.neighbours.proofs.predictors.neighbours_fine.Tie as tie

-- what block i takes of what the function is given
abbrev test : List ℤ → List ℤ → Place → ℕ → Bool
test store own p i = predictors_fine (predictors p.bits_per_pixel p.quantiser_scale (around_by p store) (record_at own 0) i)

abbrev invariant-loop-i : tie.invariant-loop-i
invariant-loop-i store own p i₀ i = (i ≤ 6) × ((k : ℕ) → k < i → test store own p k ≡ true)

abbrev decreases-loop-i : tie.decreases-loop-i
decreases-loop-i store own p i₀ i = 6 - i

loop-i-init : tie.Need-loop-i-init invariant-loop-i decreases-loop-i
loop-i-init c = (omega arith, λ k h. absurd (omega arith))

taken_by-taken-requires : tie.Need-taken_by-taken-requires invariant-loop-i decreases-loop-i
taken_by-taken-requires c κs = tt

predictors_fine-requires : tie.Need-predictors_fine-requires invariant-loop-i decreases-loop-i
predictors_fine-requires c κs = tt

-- the flag is the test of block i
flag_is : (c : tie.After-predictors_fine invariant-loop-i decreases-loop-i)
    → c.predictors_fine.result ≡ test c.args.store.now c.args.own.now c.args.p c.loop-i.i
flag_is c =
    c.predictors_fine.ensures
    ∙ ap predictors_fine c.taken_by-taken.ensures

returns-then-not-predictors_fine : tie.Need-returns-then-not-predictors_fine invariant-loop-i decreases-loop-i
unfolding neighbours_fine
returns-then-not-predictors_fine c =
    let t = c.before.before.before in
    let a = t.args in
    sym (one_of_six_not (test a.store.now a.own.now a.p) t.loop-i.i t.loop-i-test.true (flag_refuses (flag_is c.before) c.if-not-predictors_fine.true))

overflow_step-i : tie.Need-overflow_step-i invariant-loop-i decreases-loop-i
overflow_step-i c = omega arith

loop-i-smaller : tie.Need-loop-i-smaller invariant-loop-i decreases-loop-i
loop-i-smaller c = omega arith

loop-i-preserved : tie.Need-loop-i-preserved invariant-loop-i decreases-loop-i
loop-i-preserved c =
    (omega arith, below_more _ _ c.loop-i.invariant.1 (flag_passes (flag_is c.before) c.if-not-predictors_fine.false))

returns : tie.Need-returns invariant-loop-i decreases-loop-i
unfolding neighbours_fine
returns c =
    let a = c.args in
    sym (all_of_six (test a.store.now a.own.now a.p) (λ i h. c.loop-i.invariant.1 i (omega arith)))

pub neighbours_fine_spec : {M : Type 1} → statement M
neighbours_fine_spec =
    tie.close
    (tie.spec
    invariant-loop-i
    decreases-loop-i
    loop-i-init
    taken_by-taken-requires
    predictors_fine-requires
    returns-then-not-predictors_fine
    overflow_step-i
    loop-i-smaller
    loop-i-preserved
    returns)
