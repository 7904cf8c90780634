-- Levels with the prediction of their first column or row added, one store a turn, and what adds nothing. Assumes nothing.
use mathlib.Core.Bool.{Bool, true, false, cond}
use mathlib.Core.List.{List, []}
use mathlib.Core.Path.{◌≡◌, refl, sym, ap, ◌∙◌}
use Prim.Native.Nat.{ℕ, zero, suc, ◌+◌, ◌≤◌, ◌<◌}
use native.Mathlib.Numerals.{add-one}
use native.Mathlib.Omega.{arith}
use lib.Dec.{ltb}
use lib.IntN.{ℤ, pos, nat_abs, ◌+ℤ◌, +ℤ_idr}
use lib.ListN.{get_or, set}
use borrow.Author.Tests.{lt-ltb, le-ltb, ltb-true, ltb-false}
use Rattle.numbers.specs.Grid.{block, build, cell}
use Rattle.numbers.proofs.Fill.{block-eq, cell-block, get_or-build}
use Rattle.ranges.proofs.RangeLaws.{level-abs}
use Rattle.coefficients.specs.Level.{limited_sum, saturated}
use Rattle.prediction.specs.Prediction.{ac_prediction, column_prediction, row_prediction}
use Rattle.coefficients.specs.Short.{Levelled, ac_predicted, beside, column_added, none, row_added, seven}
use Rattle.prediction.specs.Stages.{seven_predicted}
use Rattle.prediction.specs.declared.predictor.BlockPredictors.{BlockPredictors}
use Rattle.scan.specs.declared.DcPredictionDirection.{DcPredictionDirection}
use Rattle.scan.specs.declared.DcPredictionDirection.TheVariants.{FromLeft, FromAbove}
use Rattle.scan.proofs.BlockLaws.{cell_stored}
use Rattle.coefficients.proofs.LevelLaws.{level-kept}

-- ---- a prediction of 0 leaves a level

module _ (b : List (List ℤ)) (good : Levelled b) where
  abbrev sum : (ℕ → ℕ → ℤ) → ℕ → ℕ → ℤ
  sum m v u = saturated (cell b v u +ℤ cell (block m) v u)

  unpredicted : (m : ℕ → ℕ → ℤ) (v u : ℕ) → v < 8 → u < 8 → m v u ≡ pos 0 → sum m v u ≡ cell b v u
  unpredicted m v u p q e =
      ap (λ (z : ℤ). saturated (cell b v u +ℤ z)) (cell-block m v u p q ∙ e)
      ∙ ap saturated (+ℤ_idr (cell b v u))
      ∙ level-kept (cell b v u) (good.fine v u)

  -- predictions that are all 0
  nothing_added : (m : ℕ → ℕ → ℤ) → ((v u : ℕ) → m v u ≡ pos 0) → b ≡ limited_sum b (block m)
  nothing_added m e = good.square ∙ block-eq (cell b) (sum m) (λ v u p q. sym (unpredicted m v u p q (e v u)))

  -- one prediction more, which was 0 and is y
  module _ (m n : ℕ → ℕ → ℤ) (r k : ℕ) (p : r < 8) (q : k < 8) (c : List (List ℤ)) (e : c ≡ limited_sum b (block m)) (z : m r k ≡ pos 0) where
    cell_before : cell c r k ≡ cell b r k
    cell_before = ap (λ (t : List (List ℤ)). cell t r k) e ∙ cell-block (sum m) r k p q ∙ unpredicted m r k p q z

    cell_before_abs : nat_abs (cell c r k) ≤ 2048
    cell_before_abs = rw cell_before (level-abs (cell b r k) (good.fine r k))

    one_more_lem : (x : ℤ) → ((v u : ℕ) → ((v ≡ r) × (u ≡ k) → ⊥) → m v u ≡ n v u) → x ≡ saturated (cell c r k +ℤ n r k) → set c r (set (get_or c r []) k x) ≡ limited_sum b (block n)
    one_more_lem x same w =
        cell_stored (sum m) (sum n) r k
        (λ v u i j h. ap (λ (t : ℤ). saturated (cell b v u +ℤ t)) (cell-block m v u i j ∙ same v u h ∙ sym (cell-block n v u i j)))
        c x e p q
        (w ∙ ap (λ (t : ℤ). saturated (t +ℤ n r k)) cell_before ∙ ap (λ (t : ℤ). saturated (cell b r k +ℤ t)) (sym (cell-block n r k p q)))

-- ---- seven values, one more a turn

module _ (more : List ℤ) where
  not_yet : (k : ℕ) → seven k more k ≡ pos 0
  not_yet k = rw (le-ltb k k (omega arith))

  this_one : (k : ℕ) → seven (suc k) more k ≡ get_or more k (pos 0)
  this_one k = rw (lt-ltb k (suc k) (omega arith))

  others : (k i : ℕ) → (i ≡ k → ⊥) → seven k more i ≡ seven (suc k) more i
  others k i h = go (ltb i k) (ltb i (suc k)) refl refl
    where
      go : (s t : Bool) → ltb i k ≡ s → ltb i (suc k) ≡ t → cond s (get_or more i (pos 0)) (pos 0) ≡ cond t (get_or more i (pos 0)) (pos 0)
      go true true e f = refl
      go false false e f = refl
      go true false e f = absurd (omega (arith, ltb-true i k e, ltb-false i (suc k) f))
      go false true e f = absurd (h (omega (arith, ltb-false i k e, ltb-true i (suc k) f)))

  no-column : (v u : ℕ) → beside (seven 0 more) none v u ≡ pos 0
  unfolding beside
  no-column zero zero = refl
  no-column (suc v) zero = rw (le-ltb v 0 (omega arith))
  no-column zero (suc u) = refl
  no-column (suc v) (suc u) = refl

  no_row : (v u : ℕ) → beside none (seven 0 more) v u ≡ pos 0
  unfolding beside
  no_row zero zero = refl
  no_row (suc v) zero = refl
  no_row zero (suc u) = rw (le-ltb u 0 (omega arith))
  no_row (suc v) (suc u) = refl

  module _ (k : ℕ) where
    abbrev column : ℕ → ℕ → ℕ → ℤ
    column n = beside (seven n more) none

    abbrev row : ℕ → ℕ → ℕ → ℤ
    row n = beside none (seven n more)

    column_not_yet : column k (k + 1) 0 ≡ pos 0
    unfolding beside
    column_not_yet = rw add-one (not_yet k)

    column_this : column (k + 1) (k + 1) 0 ≡ get_or more k (pos 0)
    unfolding beside
    column_this = rw add-one (this_one k)

    column-others : (v u : ℕ) → ((v ≡ k + 1) × (u ≡ 0) → ⊥) → column k v u ≡ column (k + 1) v u
    unfolding beside
    column-others zero zero h = refl
    column-others (suc v) zero h = rw add-one (others k v (λ e. h (omega arith, refl)))
    column-others zero (suc u) h = refl
    column-others (suc v) (suc u) h = refl

    row_not_yet : row k 0 (k + 1) ≡ pos 0
    unfolding beside
    row_not_yet = rw add-one (not_yet k)

    row_this : row (k + 1) 0 (k + 1) ≡ get_or more k (pos 0)
    unfolding beside
    row_this = rw add-one (this_one k)

    row-others : (v u : ℕ) → ((v ≡ 0) × (u ≡ k + 1) → ⊥) → row k v u ≡ row (k + 1) v u
    unfolding beside
    row-others zero zero h = refl
    row-others (suc v) zero h = refl
    row-others zero (suc u) h = rw add-one (others k u (λ e. h (refl, omega arith)))
    row-others (suc v) (suc u) h = refl

-- ---- the first column and the first row, in a loop

module _ (b : List (List ℤ)) (good : Levelled b) (more : List ℤ) where
  pub column-none : b ≡ column_added 0 more b
  column-none = nothing_added b good (beside (seven 0 more) none) (no-column more)

  pub row-none : b ≡ row_added 0 more b
  row-none = nothing_added b good (beside none (seven 0 more)) (no_row more)

  module _ (k : ℕ) (l : k < 7) (c : List (List ℤ)) where
    pub column-abs : c ≡ column_added k more b → nat_abs (cell c (k + 1) 0) ≤ 2048
    column-abs e = cell_before_abs b good (column more k k) (column more k (k + 1)) (k + 1) 0 (omega arith) (omega arith) c e (column_not_yet more k)

    pub column-more : (x : ℤ) → c ≡ column_added k more b → x ≡ saturated (cell c (k + 1) 0 +ℤ get_or more k (pos 0)) → set c (k + 1) (set (get_or c (k + 1) []) 0 x) ≡ column_added (k + 1) more b
    column-more x e w =
        one_more_lem b good (column more k k) (column more k (k + 1)) (k + 1) 0 (omega arith) (omega arith) c e (column_not_yet more k) x (column-others more k)
        (w ∙ ap (λ (z : ℤ). saturated (cell c (k + 1) 0 +ℤ z)) (sym (column_this more k)))

    pub row-abs : c ≡ row_added k more b → nat_abs (cell c 0 (k + 1)) ≤ 2048
    row-abs e = cell_before_abs b good (row more k k) (row more k (k + 1)) 0 (k + 1) (omega arith) (omega arith) c e (row_not_yet more k)

    pub row_more : (x : ℤ) → c ≡ row_added k more b → x ≡ saturated (cell c 0 (k + 1) +ℤ get_or more k (pos 0)) → set c 0 (set (get_or c 0 []) (k + 1) x) ≡ row_added (k + 1) more b
    row_more x e w =
        one_more_lem b good (row more k k) (row more k (k + 1)) 0 (k + 1) (omega arith) (omega arith) c e (row_not_yet more k) x (row-others more k)
        (w ∙ ap (λ (z : ℤ). saturated (cell c 0 (k + 1) +ℤ z)) (sym (row_this more k)))

-- ---- what the predictors say

module _ (b : List (List ℤ)) (good : Levelled b) (p : BlockPredictors) (q : ℕ) where
  -- the AC predictions that a neighbour gives
  abbrev left_of : ℕ → ℤ
  left_of v = ac_prediction (get_or p.a_first_column v (pos 0)) p.qp_a q

  abbrev above_of : ℕ → ℤ
  above_of u = ac_prediction (get_or p.c_first_row u (pos 0)) p.qp_c q

  abbrev given : Bool → DcPredictionDirection → ℕ → ℕ → ℤ
  given ac_pred d = beside (λ (v : ℕ). cond ac_pred (column_prediction p q d v) (pos 0)) (λ (u : ℕ). cond ac_pred (row_prediction p q d u) (pos 0))

  off_gives : (d : DcPredictionDirection) (v u : ℕ) → given false d v u ≡ pos 0
  unfolding beside
  off_gives d zero zero = refl
  off_gives d (suc v) zero = refl
  off_gives d zero (suc u) = refl
  off_gives d (suc v) (suc u) = refl

  -- without AC prediction
  pub off_added : (d : DcPredictionDirection) → b ≡ ac_predicted false d p q b
  off_added d = nothing_added b good (given false d) (off_gives d)

  -- the seven predictions from A, and from C
  seven_of : (f : ℕ → ℤ) (k : ℕ) → k < 7 → seven 7 (build 7 f) k ≡ f k
  seven_of f k h = rw (lt-ltb k 7 h) (get_or-build 7 f k (pos 0) h)

  left-same : p.a_has_column ≡ true → (v u : ℕ) → v < 8 → beside (seven 7 (build 7 left_of)) none v u ≡ given true FromLeft v u
  unfolding beside
  left-same e zero zero h = refl
  left-same e (suc v) zero h = seven_of left_of v (omega arith) ∙ rw e
  left-same e zero (suc u) h = refl
  left-same e (suc v) (suc u) h = refl

  above_same : p.c_has_row ≡ true → (v u : ℕ) → u < 8 → beside none (seven 7 (build 7 above_of)) v u ≡ given true FromAbove v u
  unfolding beside
  above_same e zero zero h = refl
  above_same e (suc v) zero h = refl
  above_same e zero (suc u) h = seven_of above_of u (omega arith) ∙ rw e
  above_same e (suc v) (suc u) h = refl

  pub left_added : p.a_has_column ≡ true → column_added 7 (seven_predicted p.a_first_column p.qp_a q) b ≡ ac_predicted true FromLeft p q b
  left_added e = ap (limited_sum b) (block-eq (beside (seven 7 (build 7 left_of)) none) (given true FromLeft) (λ v u h k. left-same e v u h))

  pub above_added : p.c_has_row ≡ true → row_added 7 (seven_predicted p.c_first_row p.qp_c q) b ≡ ac_predicted true FromAbove p q b
  above_added e = ap (limited_sum b) (block-eq (beside none (seven 7 (build 7 above_of))) (given true FromAbove) (λ v u h k. above_same e v u k))
