-- `prediction::predictor::seven_predictions` meets its contract: each value's prediction, which under one quantiser is the value. Assumes nothing.
use mathlib.Core.Path.{◌≡◌, refl, sym, ap, ◌∙◌}
use Prim.Native.Nat.{ℕ, ◌-◌, ◌≤◌, ◌<◌}
use native.Mathlib.Omega.{arith}
use lib.IntN.{ℤ, pos}
use lib.ListN.{get_or}
use mir.Syntax.{w32}
use borrow.Kind.Array.{e_s_int, good_length}
use Rattle.numbers.specs.Grid.{build}
use Rattle.numbers.proofs.Fill.{part, cells-none, cells-more, cells_all, is-build}
use Rattle.numbers.proofs.Words.{held}
use Rattle.prediction.specs.Prediction.{ac_prediction}
use Rattle.prediction.proofs.PredictionLaws.{same-quantiser}
use Rattle.prediction.proofs.predictor.seven_predictions.Statement.{statement}
use Rattle.prediction.proofs.predictor.seven_predictions.Tie as tie

abbrev invariant-loop-k : tie.invariant-loop-k
invariant-loop-k qp q values more₀ k₀ more k = (k ≤ 7) × (more ≡ part 7 (λ (j : ℕ). ac_prediction (get_or values j (pos 0)) qp q) (λ (j : ℕ). pos 0) k)

abbrev decreases-loop-k : tie.decreases-loop-k
decreases-loop-k qp q values more₀ k₀ more k = 7 - k

returns-then-qp-q : tie.Need-returns-then-qp-q invariant-loop-k decreases-loop-k
returns-then-qp-q c =
    let a = c.args in
    let e : a.qp ≡ a.q = omega arith in
    is-build (pos 0) a.values 7 (λ (k : ℕ). ac_prediction (get_or a.values k (pos 0)) a.qp a.q) (good_length (e_s_int w32) 7 a.values _ c.well_formed.0)
    (λ (k : ℕ) (h : k < 7). rw e (sym (same-quantiser (get_or a.values k (pos 0)) a.q (omega arith))))

loop-k-init : tie.Need-loop-k-init invariant-loop-k decreases-loop-k
unfolding build
loop-k-init c = (omega arith, cells-none 7 _ (λ (j : ℕ). pos 0) _ refl)

offset_bounds-values-k : tie.Need-offset_bounds-values-k invariant-loop-k decreases-loop-k
offset_bounds-values-k c = omega arith

bounds-values-k : tie.Need-bounds-values-k invariant-loop-k decreases-loop-k
bounds-values-k c = omega arith

ac_prediction-requires : tie.Need-ac_prediction-requires invariant-loop-k decreases-loop-k
ac_prediction-requires c κs =
    let s = c.before.before.before.before in
    let k = c.loop-k.k in
    rw (held (get_or s.args.values k (pos 0)) c.ac_prediction-arg-1.given) (s.requires.0 k c.loop-k-test.true, s.requires.1)

offset_bounds-more-k : tie.Need-offset_bounds-more-k invariant-loop-k decreases-loop-k
offset_bounds-more-k c = omega arith

bounds-more-k : tie.Need-bounds-more-k invariant-loop-k decreases-loop-k
bounds-more-k c = omega arith

overflow_step-k : tie.Need-overflow_step-k invariant-loop-k decreases-loop-k
overflow_step-k c = omega arith

loop-k-smaller : tie.Need-loop-k-smaller invariant-loop-k decreases-loop-k
loop-k-smaller c = omega arith

loop-k-preserved : tie.Need-loop-k-preserved invariant-loop-k decreases-loop-k
loop-k-preserved c =
    let a = c.args in
    let l = c.loop-k in
    let y = get_or a.values l.k (pos 0) in (
      omega arith,
      cells-more 7 _ _ (pos 0) _ _ _ c.loop-k-test.true l.invariant.1
          (held c.ac_prediction.result c.ac_prediction.type_inv
          ∙ c.ac_prediction.ensures.0
          ∙ ap (λ (t : ℤ). ac_prediction t a.qp a.q) (held y c.ac_prediction-arg-1.given)),
    )

returns : tie.Need-returns invariant-loop-k decreases-loop-k
returns c =
    let l = c.loop-k in
    cells_all 7 _ _ _ _ c.loop-k-test.false l.invariant.0 l.invariant.1

pub seven_predictions_spec : {M : Type 1} → statement M
seven_predictions_spec =
    tie.close
    (tie.spec
    invariant-loop-k
    decreases-loop-k
    returns-then-qp-q
    loop-k-init
    offset_bounds-values-k
    bounds-values-k
    ac_prediction-requires
    offset_bounds-more-k
    bounds-more-k
    overflow_step-k
    loop-k-smaller
    loop-k-preserved
    returns)
