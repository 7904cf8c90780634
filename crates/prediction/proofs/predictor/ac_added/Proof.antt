-- `prediction::predictor::ac_added` meets its contract: each level with its prediction, or the levels as they are. Assumes nothing.
use mathlib.Core.Bool.{true}
use mathlib.Core.List.{List}
use mathlib.Core.Path.{◌≡◌, refl, ap, ◌∙◌}
use Prim.Native.Nat.{ℕ, ◌-◌, ◌≤◌, ◌<◌}
use native.Mathlib.Omega.{arith}
use lib.IntN.{ℤ, nat_abs, pos, ◌+ℤ◌}
use lib.ListN.{get_or}
use mir.Syntax.{w32}
use borrow.Author.Tests.{not-false, not-true}
use borrow.Kind.Array.{e_s_int, good_length}
use Rattle.numbers.specs.Grid.{build}
use Rattle.numbers.proofs.Expressions.{Sx, loc, ◌⊞◌, fits, back}
use Rattle.numbers.proofs.Fill.{part, build-eq, cells-none, cells-more, cells_all, get_or-build}
use Rattle.numbers.proofs.Tests.{true-T}
use Rattle.prediction.specs.Prediction.{ac_prediction}
use Rattle.prediction.proofs.MissingLaws.{missing_adds_nothing}
use Rattle.prediction.proofs.PredictionLaws.{seven-abs}
use Rattle.prediction.proofs.predictor.ac_added.Statement.{statement}
use Rattle.prediction.proofs.predictor.ac_added.Tie as tie

abbrev f : List ℤ → List ℤ → ℕ → ℤ
f pqfx more k = get_or pqfx k (pos 0) +ℤ get_or more k (pos 0)

abbrev z : ℕ → ℤ
z k = pos 0

abbrev invariant-loop-k : tie.invariant-loop-k
invariant-loop-k has qp qp-x pqfx more out₀ k₀ out k = (k ≤ 7) × (out ≡ part 7 (f pqfx more) z k)

abbrev decreases-loop-k : tie.decreases-loop-k
decreases-loop-k has qp qp-x pqfx more out₀ k₀ out k = 7 - k

returns-then-not-has : tie.Need-returns-then-not-has invariant-loop-k decreases-loop-k
returns-then-not-has c =
    let s = c.before in
    rw c.if-not-has.true (missing_adds_nothing s.args.pqfx (good_length (e_s_int w32) 7 s.args.pqfx _ s.well_formed.0))

-- the neighbour is there, with small values
there : (c : tie.Else-not-has invariant-loop-k decreases-loop-k) → c.args.has ≡ true
there c = c.if-not-has.false

values_small : (c : tie.Else-not-has invariant-loop-k decreases-loop-k) (k : ℕ) → k < 7 → nat_abs (get_or c.args.qf k (pos 0)) ≤ 2048
values_small c = c.requires.1 (true-T _ (there c))

seven_predictions-more-requires : tie.Need-seven_predictions-more-requires invariant-loop-k decreases-loop-k
seven_predictions-more-requires c κs = (values_small c, c.requires.2, c.requires.3)

loop-k-init : tie.Need-loop-k-init invariant-loop-k decreases-loop-k
unfolding build
loop-k-init c = (omega arith, cells-none 7 (f c.args.pqfx c.seven_predictions-more.result) z _ refl)

offset_bounds-pqfx-k : tie.Need-offset_bounds-pqfx-k invariant-loop-k decreases-loop-k
offset_bounds-pqfx-k c = omega arith

bounds-pqfx-k : tie.Need-bounds-pqfx-k invariant-loop-k decreases-loop-k
bounds-pqfx-k c = omega arith

offset_bounds-more-k : tie.Need-offset_bounds-more-k invariant-loop-k decreases-loop-k
offset_bounds-more-k c = omega arith

bounds-more-k : tie.Need-bounds-more-k invariant-loop-k decreases-loop-k
bounds-more-k c = omega arith

abbrev sum : tie.After-out-in-loop-k-1 invariant-loop-k decreases-loop-k → Sx w32
sum c =
    let l = c.before.before.before in
    let m = l.before in
    let s = m.before.before in
    let k = l.loop-k.k in
    let h = c.loop-k-test.true in
    loc (get_or s.args.pqfx k (pos 0)) 2048 (s.requires.0 k h)
    ⊞ loc (get_or m.seven_predictions-more.result k (pos 0)) 1046528
    (seven-abs s.args.qf s.args.qp s.args.qp_x (values_small m.before) s.requires.2 m.seven_predictions-more.result m.seven_predictions-more.ensures k h)

overflow_add-out : tie.Need-overflow_add-out invariant-loop-k decreases-loop-k
overflow_add-out c = fits (sum c) tt

offset_bounds-out-k : tie.Need-offset_bounds-out-k invariant-loop-k decreases-loop-k
offset_bounds-out-k c = omega arith

bounds-out-k : tie.Need-bounds-out-k invariant-loop-k decreases-loop-k
bounds-out-k c = omega arith

overflow_step-k : tie.Need-overflow_step-k invariant-loop-k decreases-loop-k
overflow_step-k c = omega arith

loop-k-smaller : tie.Need-loop-k-smaller invariant-loop-k decreases-loop-k
loop-k-smaller c = omega arith

loop-k-preserved : tie.Need-loop-k-preserved invariant-loop-k decreases-loop-k
loop-k-preserved c =
    let l = c.loop-k in
    (omega arith, cells-more 7 _ _ (pos 0) _ _ _ c.loop-k-test.true l.invariant.1 (back (sum c) tt))

returns : tie.Need-returns invariant-loop-k decreases-loop-k
returns c =
    let l = c.loop-k in
    let m = c.before.before in
    let a = m.args in
    let g : ℕ → ℤ = λ (k : ℕ). ac_prediction (get_or a.qf k (pos 0)) a.qp a.qp_x in
    rw (there m.before)
    (cells_all 7 _ _ _ _ c.loop-k-test.false l.invariant.0 l.invariant.1
    ∙ build-eq 7 (f a.pqfx m.seven_predictions-more.result) (λ (k : ℕ). get_or a.pqfx k (pos 0) +ℤ g k)
    (λ (k : ℕ) (h : k < 7). ap (λ (t : ℤ). get_or a.pqfx k (pos 0) +ℤ t) (ap (λ (t : List ℤ). get_or t k (pos 0)) m.seven_predictions-more.ensures ∙ get_or-build 7 g k (pos 0) h)))

pub ac_added_spec : {M : Type 1} → statement M
ac_added_spec =
    tie.close
    (tie.spec
    invariant-loop-k
    decreases-loop-k
    returns-then-not-has
    seven_predictions-more-requires
    loop-k-init
    offset_bounds-pqfx-k
    bounds-pqfx-k
    offset_bounds-more-k
    bounds-more-k
    overflow_add-out
    offset_bounds-out-k
    bounds-out-k
    overflow_step-k
    loop-k-smaller
    loop-k-preserved
    returns)
