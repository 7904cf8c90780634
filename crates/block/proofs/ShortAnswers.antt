-- Blocks by the short way: what each answer on the way tells, and what is rebuilt of it. Assumes nothing.
use mathlib.Core.Bool.{Bool, cond, false, not, true, ◌&&◌}
use mathlib.Core.List.{List, [], ◌∷◌}
use mathlib.Core.Path.{◌≡◌, ap, ap₂, refl, subst, subst⁻¹, sym, ◌∙◌}
use Prim.Native.Nat.{ℕ, ◌+◌, ◌≤◌}
use native.Mathlib.Omega.{arith}
use lib.Dec.{eqb, leb}
use lib.IntN.{ℤ, pos, ◌+ℤ◌}
use lib.ListN.{get_or}
use borrow.Author.Tests.{eqb-true, leb-true, not-true}
use Rattle.numbers.proofs.Tests.{both_true, true_both}
use Rattle.numbers.specs.Grid.{cell}
use Rattle.numbers.specs.Outcome.{accepted, checked}
use Rattle.ranges.specs.Range.{dc_fine, depth_fine, difference_fine, level_fine, quantiser_fine}
use Rattle.codes.specs.declared.dc_size.DcComponent.{DcComponent}
use Rattle.scan_rows.proofs.UpToLaws.{up_to_dc}
use Rattle.coefficients.specs.Level.{levels, places_fine, predictors_fine}
use Rattle.coefficients.specs.Needed.{numbered}
use Rattle.prediction.specs.Prediction.{dc_prediction, dc_scaler, direction_by}
use Rattle.prediction.specs.Stages.{dc_answer, direction_answer, scaler_answer, value_unless}
use Rattle.scan_rows.specs.UpTo.{up_to}
use Rattle.prediction.specs.declared.predictor.BlockPredictors.{BlockPredictors}
use Rattle.prediction.specs.declared.refusal.CoefficientError.{CoefficientError}
use Rattle.prediction.specs.declared.refusal.CoefficientError.TheVariants.{Context, HandedIn}
use Rattle.scan.specs.declared.DcPredictionDirection.{DcPredictionDirection}
use Rattle.idct.proofs.Apart.{answers-apart}
use Rattle.idct.specs.Clipped.{clipped, dc_and_last, dc_block}
use Rattle.idct.specs.Limits.{block_after, idct_outcome, in_bounds}
use Rattle.mismatch.specs.Mismatch.{even}
use Rattle.dequantise.specs.Methods.{intra_dc}
use Rattle.dequantise.specs.Stages.{intra_dc_answer}
use Rattle.block.proofs.RebuildLaws.{Given}
use Rattle.block.proofs.ShortLaws.{beside-true, dc_first, dc-levels, dc-places, dc-values}
use Rattle.assembly.specs.Answer.{first_bad}
use Rattle.block.specs.Rebuilt.{dc_here, handed_tests, kept_by, levels_here, rebuilt_by, values_here}
use Rattle.block.specs.Short.{adds, dc_level, dc_value, dc_values}
use Rattle.assembly.specs.Values.{samples_of, values_of}
use Rattle.assembly.specs.declared.context.MacroblockTextureContext.{MacroblockTextureContext}
use Rattle.assembly.specs.declared.error.BlockAssemblyError.TheVariants.{Predictor}
use Rattle.std.specs.Prelude.{Err, Ok, Result, ⊤}
use Rattle.idct.specs.declared.limits.IdctError.{IdctError}
use Rattle.assembly.specs.declared.error.BlockAssemblyError.{BlockAssemblyError}

-- ---- answers that refuse nothing

pub value_told : (a b : Bool) (z : ℤ) (r : Result ℤ CoefficientError) → a ≡ true → b ≡ true → r ≡ value_unless a b z → r ≡ Ok z
value_told a b z r e f h = h ∙ ap₂ (λ (s t : Bool). value_unless s t z) e f

pub value_is : (r : Result ℤ CoefficientError) (y z : ℤ) → r ≡ Ok z → r ≡ Ok y → y ≡ z
value_is r y z e f = cc

pub value_never : (r : Result ℤ CoefficientError) (z : ℤ) (n : CoefficientError) → r ≡ Ok z → r ≡ Err n → ⊥
value_never r z n e f = let q : ◌≡◌ {A = ℕ} 0 1 = cc in omega arith

module _ (x : MacroblockTextureContext) (t : Bool) (r : Result ⊤ IdctError) (h : depth_fine x.bits_per_pixel ≡ true) (g : t ≡ true)
    (e : idct_outcome r ≡ checked ((depth_fine x.bits_per_pixel, 12) ∷ (t, 13) ∷ []) (accepted tt)) where
  pub transformed_is : r ≡ Ok tt
  transformed_is = answers-apart r (Ok tt) (e ∙ simp (h, g))

  -- the samples of values f, which are v
  pub samples-told : (f v out old : List (List ℤ)) → f ≡ v → out ≡ block_after r (clipped x.idct_rounding x.bits_per_pixel f) old → out ≡ samples_of x v
  samples-told f v out old k q = q ∙ ap (λ (a : Result ⊤ IdctError). block_after a (clipped x.idct_rounding x.bits_per_pixel f) old) transformed_is ∙ ap (samples_of x) k

-- the DC of a level, which the program has as y
pub intra_told : (c : DcComponent) (q : ℕ) (level y : ℤ) (r : Result ℤ CoefficientError) → quantiser_fine q ≡ true → level_fine level ≡ true → y ≡ level → r ≡ intra_dc_answer y c q false → r ≡ Ok (intra_dc level c q false)
intra_told c q level y r h g e f = value_told (quantiser_fine q) (level_fine level) (intra_dc level c q false) r h g (f ∙ ap (λ (z : ℤ). intra_dc_answer z c q false) e)

-- ---- the samples of a DC, which the program has as y: with 1 beside it, or alone

module _ (x : MacroblockTextureContext) (dc y : ℤ) (is : y ≡ dc) (stays : Bool) (e : stays ≡ not (x.quant_type && (not x.intra_mismatch_exempt && even y))) where
  alone-values : stays ≡ true → dc_block y ≡ dc_values x dc
  alone-values f = go (x.quant_type && (not x.intra_mismatch_exempt && even y)) (sym f ∙ e) ∙ ap (dc_values x) is
    where
      go : (t : Bool) → true ≡ not t → dc_block y ≡ cond t (dc_and_last y) (dc_block y)
      go true q = absurd (let z : ◌≡◌ {A = ℕ} 0 1 = cc in omega arith)
      go false q = refl

  last-values : stays ≡ false → dc_and_last y ≡ dc_values x dc
  last-values f = go (x.quant_type && (not x.intra_mismatch_exempt && even y)) (sym f ∙ e) ∙ ap (dc_values x) is
    where
      go : (t : Bool) → false ≡ not t → dc_and_last y ≡ cond t (dc_and_last y) (dc_block y)
      go true q = refl
      go false q = absurd (let z : ◌≡◌ {A = ℕ} 0 1 = cc in omega arith)

  module _ (h : depth_fine x.bits_per_pixel ≡ true) (g : in_bounds (x.bits_per_pixel + 3) dc ≡ true) (r : Result ⊤ IdctError)
      (o : idct_outcome r ≡ checked ((depth_fine x.bits_per_pixel, 12) ∷ (in_bounds (x.bits_per_pixel + 3) y, 13) ∷ []) (accepted tt)) (out old : List (List ℤ)) where
    inside : in_bounds (x.bits_per_pixel + 3) y ≡ true
    inside = ap (in_bounds (x.bits_per_pixel + 3)) is ∙ g

    samples_of_lem : (f : List (List ℤ)) → f ≡ dc_values x dc → out ≡ block_after r (clipped x.idct_rounding x.bits_per_pixel f) old → (r ≡ Ok tt) × (out ≡ samples_of x (dc_values x dc))
    samples_of_lem f k q = (
      transformed_is x (in_bounds (x.bits_per_pixel + 3) y) r h inside o,
      samples-told x (in_bounds (x.bits_per_pixel + 3) y) r h inside o f (dc_values x dc) out old k q,
    )

    pub from-alone : stays ≡ true → out ≡ block_after r (clipped x.idct_rounding x.bits_per_pixel (dc_block y)) old → (r ≡ Ok tt) × (out ≡ samples_of x (dc_values x dc))
    from-alone f = samples_of_lem (dc_block y) (alone-values f)

    pub from_last : stays ≡ false → out ≡ block_after r (clipped x.idct_rounding x.bits_per_pixel (dc_and_last y)) old → (r ≡ Ok tt) × (out ≡ samples_of x (dc_values x dc))
    from_last f = samples_of_lem (dc_and_last y) (last-values f)

-- ---- a difference and its level

pub scaler_told : (c : DcComponent) (q : ℕ) (r : Result ℕ CoefficientError) → quantiser_fine q ≡ true → r ≡ scaler_answer c q → r ≡ Ok (dc_scaler c q)
scaler_told c q r h e = e ∙ ap (λ (t : Bool). cond t (Ok (dc_scaler c q)) (Err Context)) h

pub scaler_is : (r : Result ℕ CoefficientError) (m n : ℕ) → r ≡ Ok n → r ≡ Ok m → m ≡ n
scaler_is r m n e f = cc

pub scaler_never : (r : Result ℕ CoefficientError) (m : ℕ) (n : CoefficientError) → r ≡ Ok m → r ≡ Err n → ⊥
scaler_never r m n e f = let q : ◌≡◌ {A = ℕ} 0 1 = cc in omega arith

-- what fine predictors tell of their DCs
dcs-fine : (p : BlockPredictors) → predictors_fine p ≡ true → (dc_fine p.fa_dc ≡ true) × (dc_fine p.fb_dc ≡ true) × (dc_fine p.fc_dc ≡ true)
dcs-fine p e =
    let a = both_true (dc_fine p.fa_dc) _ e in
    let b = both_true (dc_fine p.fb_dc) _ a.1 in
    (a.0, b.0, (both_true (dc_fine p.fc_dc) _ b.1).0)

pub direction_told : (p : BlockPredictors) (a b c : ℤ) (r : Result DcPredictionDirection CoefficientError) → predictors_fine p ≡ true → a ≡ p.fa_dc → b ≡ p.fb_dc → c ≡ p.fc_dc → r ≡ direction_answer a b c → r ≡ Ok (direction_by p)
direction_told p a b c r g e f h q =
    let d = dcs-fine p g in
    q ∙ (λ i. direction_answer (e i) (f i) (h i)) ∙ ap (λ (t : Bool). cond t (Ok (direction_by p)) (Err HandedIn)) (true_both d.0 (true_both d.1 d.2))

pub direction_is : (r : Result DcPredictionDirection CoefficientError) (m n : DcPredictionDirection) → r ≡ Ok n → r ≡ Ok m → m ≡ n
direction_is r m n e f = cc

pub direction_never : (r : Result DcPredictionDirection CoefficientError) (m : DcPredictionDirection) (n : CoefficientError) → r ≡ Ok m → r ≡ Err n → ⊥
direction_never r m n e f = let q : ◌≡◌ {A = ℕ} 0 1 = cc in omega arith

module _ (c : DcComponent) (q : ℕ) (p : BlockPredictors) (z : ℤ) (r : Result ℤ CoefficientError) where
  abbrev sum : ℤ
  sum = z +ℤ dc_prediction (direction_by p) p.fa_dc p.fc_dc (dc_scaler c q)

  -- 13 hangs on the difference alone
  pub difference-told : (y fa fc : ℤ) (d : DcPredictionDirection) (n : ℕ) → predictors_fine p ≡ true → y ≡ z → fa ≡ p.fa_dc → fc ≡ p.fc_dc → d ≡ direction_by p → n ≡ dc_scaler c q → r ≡ dc_answer y d fa fc n
      → r ≡ value_unless true (difference_fine z) sum
  difference-told y fa fc d n good e f g h k m =
      let dcs = dcs-fine p good in
      m ∙ (λ i. dc_answer (e i) (h i) (f i) (g i) (k i)) ∙ ap (λ (t : Bool). value_unless true t sum) (beside-true (difference_fine z) _ (true_both dcs.0 dcs.2))

  pub difference-not : (n : CoefficientError) → r ≡ value_unless true (difference_fine z) sum → r ≡ Err n → difference_fine z ≡ false
  difference-not n e f = go (difference_fine z) (sym f ∙ e)
    where
      go : (t : Bool) → Err n ≡ value_unless true t sum → t ≡ false
      go true m = absurd (let k : ◌≡◌ {A = ℕ} 0 1 = cc in omega arith)
      go false m = refl

  pub difference-is : (y : ℤ) → r ≡ value_unless true (difference_fine z) sum → r ≡ Ok y → (difference_fine z ≡ true) × (y ≡ sum)
  difference-is y e f = go (difference_fine z) (sym f ∙ e)
    where
      go : (t : Bool) → Ok y ≡ value_unless true t sum → (t ≡ true) × (y ≡ sum)
      go true m = (refl, cc)
      go false m = absurd (let k : ◌≡◌ {A = ℕ} 0 1 = cc in omega arith)

-- ---- a block of a difference alone

module _ (c : DcComponent) (x : MacroblockTextureContext) (ns : List ℤ) where
  abbrev p : BlockPredictors
  p = numbered ns

  abbrev level_of : ℤ → ℤ
  level_of z = dc_level c x.quantiser_scale p z

  abbrev state_of : ℤ → Result ⊤ BlockAssemblyError
  state_of z = first_bad ((difference_fine z, Predictor) ∷ [])

  -- its answer, samples and levels
  abbrev pub DcGiven : ℤ → Result ℤ BlockAssemblyError → List (List ℤ) → List (List ℤ) → List (List ℤ) → List (List ℤ) → Type 0
  DcGiven z r samples oldSamples levels oldLevels =
      (r ≡ rebuilt_by (state_of z) (dc_value c x (level_of z)))
      × ((samples ≡ kept_by (state_of z) (samples_of x (dc_values x (dc_value c x (level_of z)))) oldSamples) × (levels ≡ kept_by (state_of z) (dc_block (level_of z)) oldLevels))

  module _ (z : ℤ) (a b : List (List ℤ)) where
    pub dc-refused : difference_fine z ≡ false → DcGiven z (Err Predictor) a a b b
    dc-refused e = let s : state_of z ≡ Err Predictor = ap (λ (t : Bool). cond t (Ok tt) (Err Predictor)) e in (
      sym (ap (λ (k : Result ⊤ BlockAssemblyError). rebuilt_by k (dc_value c x (level_of z))) s),
      (sym (ap (λ (k : Result ⊤ BlockAssemblyError). kept_by k (samples_of x (dc_values x (dc_value c x (level_of z)))) a) s), sym (ap (λ (k : Result ⊤ BlockAssemblyError). kept_by k (dc_block (level_of z)) b) s)),
    )

    pub dc_rebuilt : (level : ℤ) (r : Result ℤ BlockAssemblyError) (samples levels : List (List ℤ)) → difference_fine z ≡ true → level ≡ level_of z → r ≡ Ok (dc_value c x level) → samples ≡ samples_of x (dc_values x (dc_value c x level))
        → levels ≡ dc_block level → DcGiven z r samples a levels b
    dc_rebuilt level r samples levels e l f g h = let s : state_of z ≡ (Ok tt) = ap (λ (t : Bool). cond t (Ok tt) (Err Predictor)) e in (
      f ∙ ap (λ (y : ℤ). Ok (dc_value c x y)) l ∙ sym (ap (λ (k : Result ⊤ BlockAssemblyError). rebuilt_by k (dc_value c x (level_of z))) s),
      (
        g ∙ ap (λ (y : ℤ). samples_of x (dc_values x (dc_value c x y))) l ∙ sym (ap (λ (k : Result ⊤ BlockAssemblyError). kept_by k (samples_of x (dc_values x (dc_value c x (level_of z)))) a) s),
        h ∙ ap dc_block l ∙ sym (ap (λ (k : Result ⊤ BlockAssemblyError). kept_by k (dc_block (level_of z)) b) s),
      ),
    )

  -- where nothing is added, it is the block of its first place
  module _ (w : List (List ℕ)) (xs : List ℤ) (good : predictors_fine p ≡ true) (none : adds x.ac_pred_flag ns ≡ false) where
    abbrev z : ℤ
    z = get_or xs 0 (pos 0)

    state-is : first_bad (handed_tests c x p w (up_to 1 xs)) ≡ state_of z
    state-is = ap₂ (λ (s t : Bool). cond (s && t) (Ok tt) (Err Predictor)) good (dc-places xs)

    levels-are : levels_here c x p w (up_to 1 xs) ≡ dc_block (level_of z)
    levels-are =
        let u = up_to_dc xs in
        dc-levels c x.quantiser_scale x.ac_pred_flag x.alternate_vertical_scan ns (up_to 1 xs) u.1 none ∙ ap (λ (y : ℤ). dc_block (level_of y)) u.0

    values-are : values_here c x p w (up_to 1 xs) ≡ dc_values x (dc_value c x (level_of z))
    values-are = ap (values_of c x w) levels-are ∙ dc-values c x w (level_of z)

    dc-is : dc_here c x p w (up_to 1 xs) ≡ dc_value c x (level_of z)
    dc-is = ap (λ (f : List (List ℤ)). cell f 0 0) values-are ∙ dc_first x (dc_value c x (level_of z))

    pub dc-given : (end : ℕ) (y : ℤ) (r : Result ℤ BlockAssemblyError) (samples a levels b : List (List ℤ)) → end ≡ 1 → y ≡ z → DcGiven y r samples a levels b
        → Given c x p w (up_to end xs) (first_bad (handed_tests c x p w (up_to end xs))) r samples a levels b
    dc-given end y r samples a levels b e f g =
        subst⁻¹ (λ (n : ℕ). Given c x p w (up_to n xs) (first_bad (handed_tests c x p w (up_to n xs))) r samples a levels b) e (once (subst (λ (n : ℤ). DcGiven n r samples a levels b) f g))
      where
        once : DcGiven z r samples a levels b → Given c x p w (up_to 1 xs) (first_bad (handed_tests c x p w (up_to 1 xs))) r samples a levels b
        once h = (
          h.0 ∙ sym (ap₂ (λ (k : Result ⊤ BlockAssemblyError) (n : ℤ). rebuilt_by k n) state-is dc-is),
          (
            h.1.0 ∙ sym (ap₂ (λ (k : Result ⊤ BlockAssemblyError) (n : List (List ℤ)). kept_by k (samples_of x n) a) state-is values-are),
            h.1.1 ∙ sym (ap₂ (λ (k : Result ⊤ BlockAssemblyError) (n : List (List ℤ)). kept_by k n b) state-is levels-are),
          ),
        )

-- predictors that are not fine
pub not-handed : (p : BlockPredictors) (qfs : List ℤ) → predictors_fine p ≡ false → (predictors_fine p && places_fine qfs) ≡ false
not-handed p qfs e = ap (λ (t : Bool). t && places_fine qfs) e

-- where a DC stands alone, by the program's test
pub alone_tells : (end n : ℕ) (more : Bool) → ((eqb end 1 && leb 1 n) && not more) ≡ true → (end ≡ 1) × (1 ≤ n) × (more ≡ false)
alone_tells end n more e =
    let a = both_true (eqb end 1 && leb 1 n) (not more) e in
    let b = both_true (eqb end 1) (leb 1 n) a.0 in
    (eqb-true end 1 b.0, leb-true 1 n b.1, not-true more a.1)
