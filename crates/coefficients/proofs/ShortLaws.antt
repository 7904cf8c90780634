-- The short way gives the levels: places that are levels with the level of the DC among them, predicted beside it. Assumes nothing.
use mathlib.Core.Bool.{Bool, true, cond}
use mathlib.Core.List.{List}
use mathlib.Core.Path.{◌≡◌, refl, sym, ap, ◌∙◌}
use Prim.Native.Nat.{ℕ, zero, suc, ◌+◌, ◌<◌}
use native.Mathlib.Omega.{arith}
use lib.IntN.{ℤ, pos, ◌+ℤ◌, +ℤ_idr}
use lib.ListN.{get_or, drop, length, set}
use lib.Seq.{get_or-drop, get_or-set_other, get_or-set_same}
use Rattle.numbers.specs.Every.{every}
use Rattle.numbers.specs.Grid.{block, cell, cell_n}
use Rattle.numbers.proofs.Every.{every_get}
use Rattle.numbers.proofs.Fill.{block-eq, cell-block}
use Rattle.numbers.proofs.Tests.{both_true}
use Rattle.codes.specs.declared.dc_size.DcComponent.{DcComponent}
use Rattle.ranges.specs.Range.{difference_fine, level_fine}
use Rattle.scan.specs.Scan.{grid_of, scanned}
use Rattle.scan.specs.declared.DcPredictionDirection.{DcPredictionDirection}
use Rattle.scan.specs.declared.ScanType.{ScanType}
use Rattle.scan.proofs.BlockLaws.{each_cell, square-block}
use Rattle.scan.proofs.ScanLaws.{grid_first, grid_later}
use Rattle.prediction.specs.Prediction.{column_prediction, dc_prediction, dc_scaler, direction_by, predicted, row_prediction}
use Rattle.prediction.specs.declared.predictor.BlockPredictors.{BlockPredictors}
use Rattle.coefficients.specs.Level.{intra_scan, levels, limited_sum, places_fine, saturated}
use Rattle.coefficients.specs.Short.{Levelled, ac_predicted, beside}
use Rattle.coefficients.proofs.LevelLaws.{level-kept, saturated-fine}

module _ (qfs : List ℤ) (long : length qfs ≡ 64) where
  -- the level of the DC among the places
  at_first : (x : ℤ) → get_or (set qfs 0 x) 0 (pos 0) ≡ x
  at_first x = get_or-set_same qfs 0 x (pos 0) (omega arith)

  later : (x : ℤ) (k : ℕ) → 0 < k → get_or (set qfs 0 x) k (pos 0) ≡ get_or qfs k (pos 0)
  later x k h = get_or-set_other qfs 0 k x (pos 0) (λ e. omega arith)

  -- a level, and places that pass 13's test, are levels in each cell
  place-fine : places_fine qfs ≡ true → (k : ℕ) → level_fine (get_or qfs (suc k) (pos 0)) ≡ true
  place-fine e k =
      let t = (both_true (difference_fine (get_or qfs 0 (pos 0))) (every level_fine (drop 1 qfs)) e).1 in
      let o : 1 + k ≡ suc k = omega arith in
      ap level_fine (ap (λ (i : ℕ). get_or qfs i (pos 0)) (sym o) ∙ sym (get_or-drop 1 qfs k (pos 0))) ∙ every_get level_fine (pos 0) refl (drop 1 qfs) t k

  some-fine : (x : ℤ) → level_fine x ≡ true → places_fine qfs ≡ true → (k : ℕ) → level_fine (get_or (set qfs 0 x) k (pos 0)) ≡ true
  some-fine x f e zero = ap level_fine (at_first x) ∙ f
  some-fine x f e (suc k) = ap level_fine (later x (suc k) (omega arith)) ∙ place-fine e k

  pub scanned_levelled : (x : ℤ) (s : ScanType) → level_fine x ≡ true → places_fine qfs ≡ true → Levelled (scanned (set qfs 0 x) s)
  scanned_levelled x s l e =
      let f : ℕ → ℕ → ℤ = λ (v u : ℕ). get_or (set qfs 0 x) (cell_n (grid_of s) v u) (pos 0) in
      record {
        square = block-eq f (cell (block f)) (λ v u p q. sym (cell-block f v u p q));
        fine = each_cell (λ (z : ℤ). level_fine z ≡ true) (block f) (square-block f) refl
            (λ v u p q. ap level_fine (cell-block f v u p q) ∙ some-fine x l e (cell_n (grid_of s) v u));
      }

  -- the DC's level is left by the predictions beside it
  module _ (c : DcComponent) (q : ℕ) (ac_pred : Bool) (p : BlockPredictors) where
    abbrev predicted_beside : ℕ → ℕ → ℤ
    predicted_beside = beside (λ (v : ℕ). cond ac_pred (column_prediction p q (direction_by p) v) (pos 0)) (λ (u : ℕ). cond ac_pred (row_prediction p q (direction_by p) u) (pos 0))

    same_beside : (v u : ℕ) → ((v ≡ 0) × (u ≡ 0) → ⊥) → predicted_beside v u ≡ predicted c q ac_pred p v u
    unfolding beside predicted
    same_beside zero zero h = absurd (h (refl, refl))
    same_beside (suc v) zero h = refl
    same_beside zero (suc u) h = refl
    same_beside (suc v) (suc u) h = refl

    dc-beside : predicted_beside 0 0 ≡ pos 0
    unfolding beside
    dc-beside = refl

    dc-predicted : predicted c q ac_pred p 0 0 ≡ dc_prediction (direction_by p) p.fa_dc p.fc_dc (dc_scaler c q)
    unfolding predicted
    dc-predicted = refl

    -- the place of the DC, and its prediction
    abbrev unlimited : ℤ
    unlimited = get_or qfs 0 (pos 0) +ℤ dc_prediction (direction_by p) p.fa_dc p.fc_dc (dc_scaler c q)

    module _ (s : ScanType) (x : ℤ) (w : x ≡ saturated unlimited) where
      abbrev places : ℕ → ℕ → ℤ
      places v u = get_or qfs (cell_n (grid_of s) v u) (pos 0)

      abbrev put : ℕ → ℕ → ℤ
      put v u = get_or (set qfs 0 x) (cell_n (grid_of s) v u) (pos 0)

      abbrev sum : List (List ℤ) → List (List ℤ) → ℕ → ℕ → ℤ
      sum a b v u = saturated (cell a v u +ℤ cell b v u)

      same_place : (v u : ℕ) → v < 8 → u < 8 → ((v ≡ 0) × (u ≡ 0) → ⊥) → cell (block put) v u ≡ cell (block places) v u
      same_place v u l m h = cell-block put v u l m ∙ later x (cell_n (grid_of s) v u) (grid_later s v u l m h) ∙ sym (cell-block places v u l m)

      same_prediction : (v u : ℕ) → v < 8 → u < 8 → ((v ≡ 0) × (u ≡ 0) → ⊥) → cell (block predicted_beside) v u ≡ cell (block (predicted c q ac_pred p)) v u
      same_prediction v u l m h = cell-block predicted_beside v u l m ∙ same_beside v u h ∙ sym (cell-block (predicted c q ac_pred p) v u l m)

      elsewhere : (v u : ℕ) → v < 8 → u < 8 → ((v ≡ 0) × (u ≡ 0) → ⊥) → sum (block put) (block predicted_beside) v u ≡ sum (block places) (block (predicted c q ac_pred p)) v u
      elsewhere v u l m h = λ i. saturated (same_place v u l m h i +ℤ same_prediction v u l m h i)

      kept : sum (block put) (block predicted_beside) 0 0 ≡ x
      kept =
          let a : cell (block put) 0 0 ≡ x = cell-block put 0 0 (omega arith) (omega arith) ∙ ap (λ (k : ℕ). get_or (set qfs 0 x) k (pos 0)) (grid_first s) ∙ at_first x in
          let b = cell-block predicted_beside 0 0 (omega arith) (omega arith) ∙ dc-beside in
          (λ i. saturated (a i +ℤ b i)) ∙ ap saturated (+ℤ_idr x) ∙ level-kept x (ap level_fine w ∙ saturated-fine unlimited)

      at_dc : x ≡ sum (block places) (block (predicted c q ac_pred p)) 0 0
      at_dc =
          let a : cell (block places) 0 0 ≡ get_or qfs 0 (pos 0) = cell-block places 0 0 (omega arith) (omega arith) ∙ ap (λ (k : ℕ). get_or qfs k (pos 0)) (grid_first s) in
          let b = cell-block (predicted c q ac_pred p) 0 0 (omega arith) (omega arith) ∙ dc-predicted in
          w ∙ sym (λ i. saturated (a i +ℤ b i))

      each_sum : (v u : ℕ) → v < 8 → u < 8 → sum (block put) (block predicted_beside) v u ≡ sum (block places) (block (predicted c q ac_pred p)) v u
      each_sum zero zero l m = kept ∙ at_dc
      each_sum zero (suc u) l m = elsewhere zero (suc u) l m (λ h. omega (arith, h.1))
      each_sum (suc v) u l m = elsewhere (suc v) u l m (λ h. omega (arith, h.0))

      predicted-scanned : ac_predicted ac_pred (direction_by p) p q (scanned (set qfs 0 x) s) ≡ limited_sum (scanned qfs s) (block (predicted c q ac_pred p))
      predicted-scanned = block-eq (sum (block put) (block predicted_beside)) (sum (block places) (block (predicted c q ac_pred p))) each_sum

-- as the code has it: of a direction and a scan that are the block's
pub levels-predicted : (qfs : List ℤ) → length qfs ≡ 64 → (c : DcComponent) (q : ℕ) (ac_pred alternate : Bool) (p : BlockPredictors) (d : DcPredictionDirection) (s : ScanType) (x : ℤ)
    → d ≡ direction_by p
    → s ≡ intra_scan alternate ac_pred d
    → x ≡ saturated (get_or qfs 0 (pos 0) +ℤ dc_prediction d p.fa_dc p.fc_dc (dc_scaler c q))
    → ac_predicted ac_pred d p q (scanned (set qfs 0 x) s) ≡ levels c q ac_pred alternate p qfs
unfolding levels
levels-predicted qfs long c q ac_pred alternate p d s x f g w =
    ap (λ (t : DcPredictionDirection). ac_predicted ac_pred t p q (scanned (set qfs 0 x) s)) f
    ∙ predicted-scanned qfs long c q ac_pred p s x
    (w ∙ ap (λ (t : DcPredictionDirection). saturated (get_or qfs 0 (pos 0) +ℤ dc_prediction t p.fa_dc p.fc_dc (dc_scaler c q))) f)
    ∙ ap (λ (t : ScanType). limited_sum (scanned qfs t) (block (predicted c q ac_pred p))) (g ∙ ap (intra_scan alternate ac_pred) f)
