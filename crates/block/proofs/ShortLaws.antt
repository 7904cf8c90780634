-- A block with a DC alone: its levels, its values, and the test of its places. Assumes nothing.
use mathlib.Core.Bool.{Bool, and-true, cond, false, not, true, ◌&&◌}
use mathlib.Core.List.{List}
use mathlib.Core.Path.{◌≡◌, ap, ap₂, refl, sym, ◌∙◌}
use Prim.Native.Nat.{ℕ, zero, suc, ◌+◌, ◌<◌, ◌≤◌}
use native.Mathlib.Omega.{arith}
use lib.Dec.{eqb}
use lib.IntN.{ℤ, nat_abs, pos, ◌+ℤ◌, +ℤ_idr}
use lib.ListN.{get_or}
use borrow.Author.Tests.{eqb-true, not-false}
use Rattle.numbers.proofs.Every.{every_get}
use Rattle.numbers.proofs.Fill.{block-eq, cell-block}
use Rattle.numbers.proofs.Integers.{<ℤ-≤ℤ}
use Rattle.numbers.proofs.Limits.{clamp_inside}
use Rattle.numbers.proofs.Magnitudes.{zero_of_abs}
use Rattle.numbers.specs.Grid.{block, build, cell, cell_n}
use Rattle.numbers.specs.Sum.{sum_z}
use Rattle.ranges.proofs.RangeLaws.{highest-not-negative, lowest-negative}
use Rattle.ranges.specs.Range.{difference_fine, highest, lowest}
use Rattle.codes.specs.declared.dc_size.DcComponent.{DcComponent}
use Rattle.scan.proofs.BlockLaws.{square-block}
use Rattle.coefficients.proofs.NeededLaws.{zero_predicts}
use Rattle.scan.proofs.ScanLaws.{grid_first, grid_later}
use Rattle.scan_rows.proofs.UpToLaws.{up_to_dc, up_to_rest}
use Rattle.coefficients.specs.Level.{intra_scan, levels, places_fine, saturated}
use Rattle.coefficients.specs.Needed.{numbered, seven_in, some_value}
use Rattle.prediction.specs.Prediction.{ac_prediction, column_prediction, dc_prediction, dc_scaler, direction_by, predicted, row_prediction}
use Rattle.scan.specs.Scan.{grid_of}
use Rattle.scan_rows.specs.UpTo.{up_to}
use Rattle.prediction.specs.declared.predictor.BlockPredictors.{BlockPredictors}
use Rattle.scan.specs.declared.DcPredictionDirection.{DcPredictionDirection}
use Rattle.scan.specs.declared.DcPredictionDirection.TheVariants.{FromAbove, FromLeft}
use Rattle.scan.specs.declared.ScanType.{ScanType}
use Rattle.idct.specs.Clipped.{dc_and_last, dc_block}
use Rattle.inverse_quant.proofs.MismatchLaws.{mismatched-even, mismatched-odd}
use Rattle.dequantise.specs.Methods.{limited_f}
use Rattle.inverse_quant.specs.Dequantised.{dequantised1, dequantised2, f_prime1, is_dc, value_of1, value_of2}
use Rattle.mismatch.specs.Mismatch.{even, mismatched, sum_of}
use Rattle.dequantise.specs.Methods.{intra_dc, method1, method2}
use Rattle.block.specs.Short.{adds, dc_level, dc_value, dc_values}
use Rattle.assembly.specs.Values.{quant_of, values_of}
use Rattle.assembly.specs.declared.context.MacroblockTextureContext.{MacroblockTextureContext}

-- ---- where no neighbour adds

-- each value that is needed is 0, and predicts 0
value_none : (ns : List ℤ) (qp q k : ℕ) → some_value (seven_in ns) ≡ false → ac_prediction (get_or (seven_in ns) k (pos 0)) qp q ≡ pos 0
value_none ns qp q k e =
    let y = get_or (seven_in ns) k (pos 0) in
    let none = every_get (λ (z : ℤ). eqb (nat_abs z) 0) (pos 0) refl (seven_in ns) (not-false _ e) k in
    ap (λ (z : ℤ). ac_prediction z qp q) (zero_of_abs y (eqb-true (nat_abs y) 0 none)) ∙ zero_predicts qp q

-- so no prediction of an AC level is but 0
column-none : (a : Bool) (d : DcPredictionDirection) (ns : List ℤ) (q v : ℕ) → adds a ns ≡ false → cond a (column_prediction (numbered ns) q d v) (pos 0) ≡ pos 0
column-none false d ns q v e = refl
column-none true FromLeft ns q v e = value_none ns (numbered ns).qp_a q v e
column-none true FromAbove ns q v e = refl

row-none : (a : Bool) (d : DcPredictionDirection) (ns : List ℤ) (q u : ℕ) → adds a ns ≡ false → cond a (row_prediction (numbered ns) q d u) (pos 0) ≡ pos 0
row-none false d ns q u e = refl
row-none true FromLeft ns q u e = refl
row-none true FromAbove ns q u e = value_none ns (numbered ns).qp_c q u e

-- ---- levels

-- a value at the first cell alone
abbrev alone : ℤ → ℕ → ℕ → ℤ
alone z v u = cond (eqb v 0 && eqb u 0) z (pos 0)

-- any other cell
abbrev Off : ℕ → ℕ → Type 0
Off v u = (v ≡ 0) × (u ≡ 0) → ⊥

not-zero : (n : ℕ) → suc n ≡ 0 → ⊥
not-zero n e = omega arith

elsewhere : (z : ℤ) (v u : ℕ) → Off v u → alone z v u ≡ pos 0
elsewhere z v u h = go (eqb v 0) (eqb u 0) refl refl
  where
    go : (s t : Bool) → eqb v 0 ≡ s → eqb u 0 ≡ t → cond (s && t) z (pos 0) ≡ pos 0
    go true true e f = absurd (h (eqb-true v 0 e, eqb-true u 0 f))
    go true false e f = refl
    go false t e f = refl

module _ (c : DcComponent) (q : ℕ) (ac_pred alternate : Bool) (ns qfs : List ℤ)
    (rest : (k : ℕ) → 1 ≤ k → get_or qfs k (pos 0) ≡ pos 0) (none : adds ac_pred ns ≡ false) where
  abbrev p : BlockPredictors
  p = numbered ns

  abbrev scan : ScanType
  scan = intra_scan alternate ac_pred (direction_by p)

  abbrev place : ℕ → ℕ → ℤ
  place v u = get_or qfs (cell_n (grid_of scan) v u) (pos 0)

  place_rest : (v u : ℕ) → v < 8 → u < 8 → Off v u → place v u ≡ pos 0
  place_rest v u l m h = rest (cell_n (grid_of scan) v u) (grid_later scan v u l m h)

  both_none : {y z : ℤ} → y ≡ pos 0 → z ≡ pos 0 → saturated (y +ℤ z) ≡ pos 0
  both_none e f = ap₂ (λ (y z : ℤ). saturated (y +ℤ z)) e f

  level_at : (v u : ℕ) → v < 8 → u < 8 → saturated (place v u +ℤ predicted c q ac_pred p v u) ≡ alone (dc_level c q p (get_or qfs 0 (pos 0))) v u
  unfolding predicted
  level_at zero zero l m = ap (λ (k : ℕ). saturated (get_or qfs k (pos 0) +ℤ dc_prediction (direction_by p) p.fa_dc p.fc_dc (dc_scaler c q))) (grid_first scan)
  level_at (suc v) zero l m =
      let h : Off (suc v) 0 = λ z. not-zero v z.0 in
      both_none (place_rest (suc v) 0 l m h) (column-none ac_pred (direction_by p) ns q v none) ∙ sym (elsewhere _ (suc v) 0 h)
  level_at zero (suc u) l m =
      let h : Off 0 (suc u) = λ z. not-zero u z.1 in
      both_none (place_rest 0 (suc u) l m h) (row-none ac_pred (direction_by p) ns q u none) ∙ sym (elsewhere _ 0 (suc u) h)
  level_at (suc v) (suc u) l m =
      let h : Off (suc v) (suc u) = λ z. not-zero v z.0 in
      both_none (place_rest (suc v) (suc u) l m h) refl ∙ sym (elsewhere _ (suc v) (suc u) h)

  -- a first place alone, to which nothing is added but a prediction of the DC, is one level
  pub dc-levels : levels c q ac_pred alternate p qfs ≡ dc_block (dc_level c q p (get_or qfs 0 (pos 0)))
  unfolding levels dc_block
  dc-levels =
      block-eq (λ (v u : ℕ). saturated (cell (block place) v u +ℤ cell (block (predicted c q ac_pred p)) v u)) (alone (dc_level c q p (get_or qfs 0 (pos 0))))
      (λ v u l m. ap₂ (λ (y z : ℤ). saturated (y +ℤ z)) (cell-block place v u l m) (cell-block (predicted c q ac_pred p) v u l m) ∙ level_at v u l m)

-- ---- values

limited-zero : (d : ℕ) → limited_f d (pos 0) ≡ pos 0
limited-zero d = clamp_inside (pos 0) (lowest (d + 3)) (highest (d + 3)) (<ℤ-≤ℤ (lowest-negative (d + 3))) (highest-not-negative (d + 3))

module _ (c : DcComponent) (x : MacroblockTextureContext) (level : ℤ) where
  abbrev d : ℕ
  d = x.bits_per_pixel

  abbrev q : ℕ
  q = x.quantiser_scale

  -- by either method the first value is the DC's, and 0 gives 0
  value_at : (rule : ℤ → ℤ) → rule (pos 0) ≡ pos 0 → (v u : ℕ) → limited_f d (cond (is_dc true v u) (intra_dc (alone level v u) c q false) (rule (alone level v u))) ≡ alone (dc_value c x level) v u
  value_at rule z v u = go (eqb v 0 && eqb u 0)
    where
      go : (t : Bool) → limited_f d (cond t (intra_dc (cond t level (pos 0)) c q false) (rule (cond t level (pos 0)))) ≡ cond t (dc_value c x level) (pos 0)
      go true = refl
      go false = ap (limited_f d) z ∙ limited-zero d

  by_2 : dequantised2 (quant_of c x) (dc_block level) ≡ dc_block (dc_value c x level)
  unfolding dequantised2 value_of2 dc_block
  by_2 =
      block-eq (λ (v u : ℕ). value_of2 (quant_of c x) v u (cell (block (alone level)) v u)) (alone (dc_value c x level))
      (λ v u l m. ap (value_of2 (quant_of c x) v u) (cell-block (alone level) v u l m) ∙ value_at (λ (z : ℤ). method2 z q) refl v u)

  module _ (w : List (List ℕ)) where
    by_1 : f_prime1 (quant_of c x) w (dc_block level) ≡ dc_block (dc_value c x level)
    unfolding value_of1 dc_block
    by_1 =
        block-eq (λ (v u : ℕ). value_of1 (quant_of c x) v u (cell (block (alone level)) v u) (cell_n w v u)) (alone (dc_value c x level))
        (λ v u l m. ap (λ (z : ℤ). value_of1 (quant_of c x) v u z (cell_n w v u)) (cell-block (alone level) v u l m) ∙ value_at (λ (z : ℤ). method1 true z (cell_n w v u) q) refl v u)

-- the sum of a DC alone is the DC, so control puts 1 beside an even one
sum-alone : (dc : ℤ) → sum_of (dc_block dc) ≡ dc
unfolding dc_block build sum_of sum_z
sum-alone dc = +ℤ_idr (dc +ℤ pos 0) ∙ +ℤ_idr dc

controlled : (dc : ℤ) → mismatched (dc_block dc) ≡ cond (even dc) (dc_and_last dc) (dc_block dc)
unfolding dc_block dc_and_last build
controlled dc = go (even dc) refl
  where
    go : (t : Bool) → even dc ≡ t → mismatched (dc_block dc) ≡ cond t (dc_and_last dc) (dc_block dc)
    go true e = mismatched-even (block (alone dc)) (square-block (alone dc)) (ap even (sum-alone dc) ∙ e)
    go false e = mismatched-odd (block (alone dc)) (square-block (alone dc)) (ap even (sum-alone dc) ∙ e)

pub dc-values : (c : DcComponent) (x : MacroblockTextureContext) (w : List (List ℕ)) (level : ℤ) → values_of c x w (dc_block level) ≡ dc_values x (dc_value c x level)
unfolding dequantised1
dc-values c x w level = go x.quant_type x.intra_mismatch_exempt
  where
    dc : ℤ
    dc = dc_value c x level

    go : (t s : Bool) → cond t (dequantised1 (not s) (quant_of c x) w (dc_block level)) (dequantised2 (quant_of c x) (dc_block level)) ≡ cond (t && (not s && even dc)) (dc_and_last dc) (dc_block dc)
    go true true = by_1 c x level w
    go true false = ap mismatched (by_1 c x level w) ∙ controlled dc
    go false s = by_2 c x level

pub dc_first : (x : MacroblockTextureContext) (dc : ℤ) → cell (dc_values x dc) 0 0 ≡ dc
unfolding dc_block dc_and_last build
dc_first x dc = go (x.quant_type && (not x.intra_mismatch_exempt && even dc))
  where
    go : (t : Bool) → cell (cond t (dc_and_last dc) (dc_block dc)) 0 0 ≡ dc
    go true = refl
    go false = refl

-- ---- places

-- a test beside one that holds
pub beside-true : (a b : Bool) → b ≡ true → (a && b) ≡ a
beside-true a b e = rw e (and-true a)

-- a first place alone is fine where its difference is
pub dc-places : (xs : List ℤ) → places_fine (up_to 1 xs) ≡ difference_fine (get_or xs 0 (pos 0))
dc-places xs =
    beside-true (difference_fine (get_or (up_to 1 xs) 0 (pos 0))) _ (up_to_rest 1 xs 1 (omega arith)) ∙ ap difference_fine (up_to_dc xs).0
