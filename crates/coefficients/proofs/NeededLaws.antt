-- The levels of a block are those of what is needed of its predictors, which may be handed in where the predictors may. Assumes nothing.
use mathlib.Core.Bool.{Bool, true, false, cond, ◌&&◌}
use mathlib.Core.List.{List}
use mathlib.Core.Path.{◌≡◌, refl, sym, ap, ◌∙◌}
use Prim.Native.Nat.{ℕ, zero, suc, ◌<◌}
use native.Mathlib.Omega.{arith}
use lib.IntN.{ℤ, pos, nat_abs, ◌*ℤ◌}
use lib.ListN.{get_or, get_or-replicate, length, replicate}
use Rattle.numbers.specs.Every.{every}
use Rattle.numbers.specs.Grid.{block, build}
use Rattle.numbers.proofs.Every.{every_get, every_in}
use Rattle.numbers.proofs.Fill.{block-eq, get_or-build, length-build}
use Rattle.numbers.proofs.Magnitudes.{abs-mul, zero_of_abs}
use Rattle.numbers.proofs.Tests.{both_true, true_both}
use Rattle.codes.specs.declared.dc_size.DcComponent.{DcComponent}
use Rattle.ranges.specs.Range.{dc_fine, level_fine, quantiser_fine}
use Rattle.coefficients.specs.Level.{intra_scan, levels, levels_answer, limited_sum, places_fine, predictors_fine}
use Rattle.coefficients.specs.Needed.{dcs_only, needed_of, numbered, numbers_of, seven_in, told, with_side}
use Rattle.prediction.specs.Prediction.{ac_prediction, direction_by, predicted}
use Rattle.prediction.specs.Refusal.{first_bad, values_fine}
use Rattle.scan.specs.Scan.{scanned}
use Rattle.prediction.specs.declared.predictor.BlockPredictors.{BlockPredictors}
use Rattle.scan.specs.declared.DcPredictionDirection.{DcPredictionDirection}
use Rattle.scan.specs.declared.DcPredictionDirection.TheVariants.{FromLeft, FromAbove}
use Rattle.prediction.proofs.PredictionLaws.{away-abs}

-- ---- the numbers

pub zero_predicts : (qp q : ℕ) → ac_prediction (pos 0) qp q ≡ pos 0
zero_predicts qp q = zero_of_abs (ac_prediction (pos 0) qp q) (omega (arith, away-abs (pos 0 *ℤ pos qp) q, abs-mul (pos 0) (pos qp)))

told_is : (q : ℕ) → quantiser_fine q ≡ true → nat_abs (told q) ≡ q
told_is q e = rw e

module _ (fa fb fc : ℤ) (qp : ℕ) (values : List ℤ) where
  seven-are : seven_in (numbers_of fa fb fc qp values) ≡ build 7 (λ (k : ℕ). get_or values k (pos 0))
  unfolding build
  seven-are = refl

  value_is : (k : ℕ) → k < 7 → get_or (seven_in (numbers_of fa fb fc qp values)) k (pos 0) ≡ get_or values k (pos 0)
  value_is k h = ap (λ (l : List ℤ). get_or l k (pos 0)) seven-are ∙ get_or-build 7 (λ (i : ℕ). get_or values i (pos 0)) k (pos 0) h

  value_predicts : (q k : ℕ) → quantiser_fine qp ≡ true → k < 7 → ac_prediction (get_or (seven_in (numbers_of fa fb fc qp values)) k (pos 0)) (nat_abs (told qp)) q ≡ ac_prediction (get_or values k (pos 0)) qp q
  value_predicts q k e h = λ i. ac_prediction (value_is k h i) (told_is qp e i) q

  values-fine : every level_fine values ≡ true → every level_fine (seven_in (numbers_of fa fb fc qp values)) ≡ true
  values-fine e =
      let l = build 7 (λ (k : ℕ). get_or values k (pos 0)) in
      let f : ℕ → ℤ = λ (k : ℕ). get_or values k (pos 0) in
      ap (every level_fine) seven-are
      ∙ every_in level_fine (pos 0) l (λ (i : ℕ) (h : i < length l). ap level_fine (get_or-build 7 f i (pos 0) (omega (arith, length-build 7 f))) ∙ every_get level_fine (pos 0) refl values e i)

-- ---- the levels

module _ (c : DcComponent) (q : ℕ) (alternate : Bool) (p : BlockPredictors) (qfs : List ℤ) where
  -- predictors of the same direction that predict the same
  same-levels : (ac_pred : Bool) (r : BlockPredictors) → direction_by r ≡ direction_by p → ((v u : ℕ) → v < 8 → u < 8 → predicted c q ac_pred r v u ≡ predicted c q ac_pred p v u)
      → levels c q ac_pred alternate r qfs ≡ levels c q ac_pred alternate p qfs
  unfolding levels
  same-levels ac_pred r d h =
      ap (λ (d : DcPredictionDirection). limited_sum (scanned qfs (intra_scan alternate ac_pred d)) (block (predicted c q ac_pred r))) d
      ∙ ap (limited_sum (scanned qfs (intra_scan alternate ac_pred (direction_by p)))) (block-eq (predicted c q ac_pred r) (predicted c q ac_pred p) h)

  dcs_predict : (v u : ℕ) → v < 8 → u < 8 → predicted c q false (numbered (dcs_only q p)) v u ≡ predicted c q false p v u
  unfolding predicted
  dcs_predict zero zero l m = refl
  dcs_predict (suc v) zero l m = refl
  dcs_predict zero (suc u) l m = refl
  dcs_predict (suc v) (suc u) l m = refl

  -- with no values
  none_predicts : (k : ℕ) → k < 7 → ac_prediction (get_or (seven_in (dcs_only q p)) k (pos 0)) (nat_abs (told q)) q ≡ pos 0
  none_predicts k h =
      ap (λ (z : ℤ). ac_prediction z (nat_abs (told q)) q) (value_is p.fa_dc p.fb_dc p.fc_dc q (replicate 7 (pos 0)) k h ∙ get_or-replicate 7 k (pos 0) (pos 0) h)
      ∙ zero_predicts (nat_abs (told q)) q

  abbrev left_of : Bool → List ℤ
  left_of t = cond t (numbers_of p.fa_dc p.fb_dc p.fc_dc p.qp_a p.a_first_column) (dcs_only q p)

  abbrev above_of : Bool → List ℤ
  above_of t = cond t (numbers_of p.fa_dc p.fb_dc p.fc_dc p.qp_c p.c_first_row) (dcs_only q p)

  left_predicts : quantiser_fine p.qp_a ≡ true → direction_by p ≡ FromLeft → (t : Bool) → p.a_has_column ≡ t → (v u : ℕ) → v < 8 → u < 8
      → predicted c q true (numbered (left_of t)) v u ≡ predicted c q true p v u
  unfolding predicted
  left_predicts f e true h zero zero l m = refl
  left_predicts f e false h zero zero l m = refl
  left_predicts f e true h (suc v) zero l m = rw (e, h) (value_predicts p.fa_dc p.fb_dc p.fc_dc p.qp_a p.a_first_column q v f (omega arith))
  left_predicts f e false h (suc v) zero l m = rw (e, h) (none_predicts v (omega arith))
  left_predicts f e true h zero (suc u) l m = rw e
  left_predicts f e false h zero (suc u) l m = rw e
  left_predicts f e true h (suc v) (suc u) l m = refl
  left_predicts f e false h (suc v) (suc u) l m = refl

  above_predicts : quantiser_fine p.qp_c ≡ true → direction_by p ≡ FromAbove → (t : Bool) → p.c_has_row ≡ t → (v u : ℕ) → v < 8 → u < 8
      → predicted c q true (numbered (above_of t)) v u ≡ predicted c q true p v u
  unfolding predicted
  above_predicts f e true h zero zero l m = refl
  above_predicts f e false h zero zero l m = refl
  above_predicts f e true h (suc v) zero l m = rw e
  above_predicts f e false h (suc v) zero l m = rw e
  above_predicts f e true h zero (suc u) l m = rw (e, h) (value_predicts p.fa_dc p.fb_dc p.fc_dc p.qp_c p.c_first_row q u f (omega arith))
  above_predicts f e false h zero (suc u) l m = rw (e, h) (none_predicts u (omega arith))
  above_predicts f e true h (suc v) (suc u) l m = refl
  above_predicts f e false h (suc v) (suc u) l m = refl

  -- the direction is that of the DCs
  left_direction : (t : Bool) → direction_by (numbered (left_of t)) ≡ direction_by p
  left_direction true = refl
  left_direction false = refl

  above_direction : (t : Bool) → direction_by (numbered (above_of t)) ≡ direction_by p
  above_direction true = refl
  above_direction false = refl

  module _ (good : predictors_fine p ≡ true) where
    dcs-and : dc_fine p.fa_dc && (dc_fine p.fb_dc && dc_fine p.fc_dc) ≡ true
    dcs-and =
        let a = both_true (dc_fine p.fa_dc) _ good in
        let b = both_true (dc_fine p.fb_dc) _ a.1 in
        let c = both_true (dc_fine p.fc_dc) _ b.1 in
        true_both a.0 (true_both b.0 c.0)

    quantisers_fine : (quantiser_fine p.qp_a ≡ true) × (quantiser_fine p.qp_c ≡ true)
    quantisers_fine =
        let a = both_true (dc_fine p.fa_dc) _ good in
        let b = both_true (dc_fine p.fb_dc) _ a.1 in
        let c = both_true (dc_fine p.fc_dc) _ b.1 in
        let qa = both_true (quantiser_fine p.qp_a) _ c.1 in
        let qc = both_true (quantiser_fine p.qp_c) _ qa.1 in
        (qa.0, qc.0)

    side_levels : (d : DcPredictionDirection) → direction_by p ≡ d → levels c q true alternate (numbered (with_side q p d)) qfs ≡ levels c q true alternate p qfs
    side_levels FromLeft e =
        let t = p.a_has_column in
        same-levels true (numbered (left_of t)) (left_direction t) (left_predicts quantisers_fine.0 e t refl)
    side_levels FromAbove e =
        let t = p.c_has_row in
        same-levels true (numbered (above_of t)) (above_direction t) (above_predicts quantisers_fine.1 e t refl)

    all_levels : (ac_pred : Bool) → levels c q ac_pred alternate (numbered (needed_of q ac_pred p)) qfs ≡ levels c q ac_pred alternate p qfs
    unfolding needed_of
    all_levels true = rw dcs-and (side_levels (direction_by p) refl)
    all_levels false = same-levels false (numbered (dcs_only q p)) refl dcs_predict

pub needed_levels : (c : DcComponent) (q : ℕ) (ac_pred alternate : Bool) (p : BlockPredictors) (qfs : List ℤ) → predictors_fine p ≡ true
    → levels c q ac_pred alternate (numbered (needed_of q ac_pred p)) qfs ≡ levels c q ac_pred alternate p qfs
needed_levels c q ac_pred alternate p qfs good = all_levels c q alternate p qfs good ac_pred

-- ---- 13

module _ (q : ℕ) (p : BlockPredictors) (h : quantiser_fine q ≡ true) (e : predictors_fine p ≡ true) where
  -- with a quantiser and values that pass
  numbers_fine : (qp : ℕ) (values : List ℤ) → quantiser_fine qp ≡ true → every level_fine values ≡ true
      → predictors_fine (numbered (numbers_of p.fa_dc p.fb_dc p.fc_dc qp values)) ≡ true
  numbers_fine qp values f g =
      let a = both_true (dc_fine p.fa_dc) _ e in
      let b = both_true (dc_fine p.fb_dc) _ a.1 in
      let c = both_true (dc_fine p.fc_dc) _ b.1 in
      let t = ap quantiser_fine (told_is qp f) ∙ f in
      let v = values-fine p.fa_dc p.fb_dc p.fc_dc qp values g in
      true_both a.0 (true_both b.0 (true_both c.0 (true_both t (true_both t (true_both v v)))))

  dcs-fine : predictors_fine (numbered (dcs_only q p)) ≡ true
  dcs-fine = numbers_fine q (replicate 7 (pos 0)) h refl

  either_fine : (qp : ℕ) (values : List ℤ) (has : Bool) → quantiser_fine qp ≡ true → values_fine has values ≡ true
      → predictors_fine (numbered (cond has (numbers_of p.fa_dc p.fb_dc p.fc_dc qp values) (dcs_only q p))) ≡ true
  either_fine qp values true f g = numbers_fine qp values f g
  either_fine qp values false f g = dcs-fine

  side_fine : (d : DcPredictionDirection) → predictors_fine (numbered (with_side q p d)) ≡ true
  side_fine FromLeft =
      let c = both_true (dc_fine p.fc_dc) _ (both_true (dc_fine p.fb_dc) _ (both_true (dc_fine p.fa_dc) _ e).1).1 in
      let qa = both_true (quantiser_fine p.qp_a) _ c.1 in
      let qc = both_true (quantiser_fine p.qp_c) _ qa.1 in
      let v = both_true (values_fine p.a_has_column p.a_first_column) _ qc.1 in
      either_fine p.qp_a p.a_first_column p.a_has_column qa.0 v.0
  side_fine FromAbove =
      let c = both_true (dc_fine p.fc_dc) _ (both_true (dc_fine p.fb_dc) _ (both_true (dc_fine p.fa_dc) _ e).1).1 in
      let qa = both_true (quantiser_fine p.qp_a) _ c.1 in
      let qc = both_true (quantiser_fine p.qp_c) _ qa.1 in
      let v = both_true (values_fine p.a_has_column p.a_first_column) _ qc.1 in
      either_fine p.qp_c p.c_first_row p.c_has_row qc.0 v.1

  chosen_fine : (t : Bool) → predictors_fine (numbered (cond t (with_side q p (direction_by p)) (dcs_only q p))) ≡ true
  chosen_fine true = side_fine (direction_by p)
  chosen_fine false = dcs-fine

pub needed_fine : (q : ℕ) (ac_pred : Bool) (p : BlockPredictors) → quantiser_fine q ≡ true → predictors_fine p ≡ true → predictors_fine (numbered (needed_of q ac_pred p)) ≡ true
unfolding needed_of
needed_fine q ac_pred p h e = chosen_fine q p h e (ac_pred && (dc_fine p.fa_dc && (dc_fine p.fb_dc && dc_fine p.fc_dc)))

-- and so the answer is that of the predictors
pub needed_answer : (q : ℕ) (ac_pred : Bool) (p : BlockPredictors) (qfs : List ℤ) → quantiser_fine q ≡ true → predictors_fine p ≡ true → levels_answer q (numbered (needed_of q ac_pred p)) qfs ≡ levels_answer q p qfs
needed_answer q ac_pred p qfs h e = ap (λ (t : Bool). first_bad (quantiser_fine q) (t && places_fine qfs)) (needed_fine q ac_pred p h e ∙ sym e)
