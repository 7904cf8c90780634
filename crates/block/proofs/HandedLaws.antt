-- A block by what its levels need of its predictors, with all its 64 places, is the block by all of them. Assumes nothing.
use mathlib.Core.Bool.{Bool, cond, false, true, ◌&&◌}
use mathlib.Core.List.{List}
use mathlib.Core.Path.{◌≡◌, ap, ap₂, refl, ◌∙◌}
use Prim.Native.Nat.{ℕ}
use native.Mathlib.Omega.{arith}
use lib.Dec.{ltb}
use lib.IntN.{ℤ, pos}
use lib.ListN.{length, replicate}
use Rattle.numbers.proofs.Tests.{both_true}
use Rattle.numbers.specs.Grid.{cell}
use Rattle.ranges.specs.Range.{quantiser_fine}
use Rattle.codes.specs.Component.{component_at}
use Rattle.codes.specs.declared.dc_size.DcComponent.{DcComponent}
use Rattle.coefficients.proofs.NeededLaws.{needed_fine, needed_levels}
use Rattle.scan_rows.proofs.UpToLaws.{up_to_all}
use Rattle.coefficients.specs.Level.{places_fine, predictors_fine}
use Rattle.coefficients.specs.Needed.{needed_of, numbered}
use Rattle.scan_rows.specs.UpTo.{up_to}
use Rattle.prediction.specs.declared.predictor.BlockPredictors.{BlockPredictors}
use Rattle.assembly.proofs.ContextLaws.{quantiser-fine}
use Rattle.assembly.proofs.TestLaws.{all_pass}
use Rattle.assembly.specs.Answer.{first_bad}
use Rattle.assembly.specs.Values.{context_fine, levels_of, samples_of, values_of}
use Rattle.assembly.specs.declared.context.MacroblockTextureContext.{MacroblockTextureContext}
use Rattle.assembly.specs.declared.error.BlockAssemblyError.TheVariants.{Context, OutOfRange, Predictor}
use Rattle.block.proofs.RebuildLaws.{Given, Meets, by_number}
use Rattle.block.specs.Rebuilt.{dc_here, kept_by, levels_here, rebuild_tests, rebuilt_by, values_here}
use Rattle.block.specs.Short.{handed_of}
use Rattle.std.specs.Prelude.{Err, Ok, Result, ⊤}
use Rattle.assembly.specs.declared.error.BlockAssemblyError.{BlockAssemblyError}

pub all_places : (qfs : List ℤ) → length qfs ≡ 64 → up_to 64 qfs ≡ qfs
all_places qfs long = up_to_all 64 qfs long (λ k a b. absurd (omega arith))

-- ---- predictors that are fine

module _ (x : MacroblockTextureContext) (p : BlockPredictors) (good : predictors_fine p ≡ true) (n : List ℤ) (is : n ≡ needed_of x.quantiser_scale x.ac_pred_flag p) where
  pub numbers_fine : quantiser_fine x.quantiser_scale ≡ true → predictors_fine (numbered n) ≡ true
  numbers_fine h = ap (λ (ns : List ℤ). predictors_fine (numbered ns)) is ∙ needed_fine x.quantiser_scale x.ac_pred_flag p h good

  module _ (c : DcComponent) (w : List (List ℕ)) (qfs : List ℤ) (long : length qfs ≡ 64) where
    levels-same : levels_here c x (numbered n) w (up_to 64 qfs) ≡ levels_here c x p w qfs
    levels-same =
        ap₂ (λ (ns qs : List ℤ). levels_of c x (numbered ns) qs) is (all_places qfs long)
        ∙ needed_levels c x.quantiser_scale x.ac_pred_flag x.alternate_vertical_scan p qfs good

    -- and its places too
    pub given-same : (r : Result ℤ BlockAssemblyError) (samples oldSamples levels oldLevels : List (List ℤ)) → Given c x (numbered n) w (up_to 64 qfs) (Ok tt) r samples oldSamples levels oldLevels
        → Given c x p w qfs (Ok tt) r samples oldSamples levels oldLevels
    given-same r samples a levels b g = (
      g.0 ∙ ap (λ (f : List (List ℤ)). Ok (cell (values_of c x w f) 0 0)) levels-same,
      (g.1.0 ∙ ap (λ (f : List (List ℤ)). samples_of x (values_of c x w f)) levels-same, g.1.1 ∙ levels-same),
    )

-- ---- predictors of any kind

-- what a state gives hangs on what it keeps where it is fine
rebuilt_same : (k : Result ⊤ BlockAssemblyError) {y z : ℤ} → (k ≡ Ok tt → y ≡ z) → rebuilt_by k y ≡ rebuilt_by k z
rebuilt_same (Ok tt) h = ap Ok (h refl)
rebuilt_same (Err e) h = refl

kept_same : {A : Type 0} (k : Result ⊤ BlockAssemblyError) (old : A) {new other : A} → (k ≡ Ok tt → new ≡ other) → kept_by k new old ≡ kept_by k other old
kept_same (Ok tt) old h = h refl
kept_same (Err e) old h = refl

module _ (i : ℕ) (x : MacroblockTextureContext) (p : BlockPredictors) (w : List (List ℕ)) (qfs : List ℤ) (long : length qfs ≡ 64) (n : List ℤ) (is : n ≡ handed_of x p) where
  -- what is handed over of predictors that are fine, and of others
  handed_by : (t : Bool) → predictors_fine p ≡ t → n ≡ cond t (needed_of x.quantiser_scale x.ac_pred_flag p) (replicate 11 (pos 0))
  handed_by t e = is ∙ ap (λ (s : Bool). cond s (needed_of x.quantiser_scale x.ac_pred_flag p) (replicate 11 (pos 0))) e

  -- 13 refuses both or none
  predictors-same : context_fine x w ≡ true → predictors_fine (numbered n) ≡ predictors_fine p
  predictors-same h = go (predictors_fine p) refl
    where
      go : (t : Bool) → predictors_fine p ≡ t → predictors_fine (numbered n) ≡ t
      go true e = numbers_fine x p e n (handed_by true e) (quantiser-fine x w h)
      go false e = ap (λ (ns : List ℤ). predictors_fine (numbered ns)) (handed_by false e)

  abbrev state : Bool → Bool → Result ⊤ BlockAssemblyError
  state t s = cond (ltb i 6) (cond t (cond s (Ok tt) (Err Predictor)) (Err Context)) (Err OutOfRange)

  tests_same : first_bad (rebuild_tests i x (numbered n) w (up_to 64 qfs)) ≡ first_bad (rebuild_tests i x p w qfs)
  tests_same = go (context_fine x w) refl
    where
      go : (t : Bool) → context_fine x w ≡ t → state t (predictors_fine (numbered n) && places_fine (up_to 64 qfs)) ≡ state t (predictors_fine p && places_fine qfs)
      go true h = ap₂ (λ (s t : Bool). state true (s && t)) (predictors-same h) (ap places_fine (all_places qfs long))
      go false h = refl

  same : first_bad (rebuild_tests i x p w qfs) ≡ Ok tt → levels_here (component_at i) x (numbered n) w (up_to 64 qfs) ≡ levels_here (component_at i) x p w qfs
  same f =
      let good = (both_true (predictors_fine p) (places_fine qfs) (all_pass (rebuild_tests i x p w qfs) f).1.1.0).0 in
      levels-same x p good n (handed_by true good) (component_at i) w qfs long

  pub whole : (r : Result ℤ BlockAssemblyError) (samples oldSamples levels oldLevels : List (List ℤ)) → Meets i x (numbered n) w (up_to 64 qfs) r samples oldSamples levels oldLevels
      → Meets i x p w qfs r samples oldSamples levels oldLevels
  whole r samples a levels b g =
      let k = first_bad (rebuild_tests i x p w qfs) in
      let m = component_at i in
      let answer = g.0 ∙ ap (λ (s : Result ⊤ BlockAssemblyError). rebuilt_by s (dc_here m x (numbered n) w (up_to 64 qfs))) tests_same ∙ rebuilt_same k (λ f. ap (λ (l : List (List ℤ)). cell (values_of m x w l) 0 0) (same f)) in (
        answer,
        (
          g.1.0 ∙ ap (λ (s : Result ⊤ BlockAssemblyError). kept_by s (samples_of x (values_here m x (numbered n) w (up_to 64 qfs))) a) tests_same ∙ kept_same k a (λ f. ap (λ (l : List (List ℤ)). samples_of x (values_of m x w l)) (same f)),
          (g.1.1.0 ∙ ap (λ (s : Result ⊤ BlockAssemblyError). kept_by s (levels_here m x (numbered n) w (up_to 64 qfs)) b) tests_same ∙ kept_same k b same, by_number i x p w qfs answer),
        ),
      )
