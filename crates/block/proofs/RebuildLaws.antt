-- A block out of its places: what its levels' answer says of 13, and what follows of it. Assumes nothing.
use mathlib.Core.Bool.{Bool, cond, false, true, ◌&&◌}
use mathlib.Core.List.{List, [], ◌∷◌}
use mathlib.Core.Path.{◌≡◌, ap, ap₂, refl, subst, sym, ◌∙◌}
use Prim.Native.Nat.{ℕ, ◌<◌}
use native.Mathlib.Omega.{arith}
use lib.Dec.{ltb}
use lib.IntN.{ℤ}
use borrow.Author.Tests.{lt-ltb}
use Rattle.numbers.proofs.Tests.{true_both}
use Rattle.numbers.specs.Outcome.{accepted, checked, refused}
use Rattle.codes.specs.Component.{component_at, component_outcome}
use Rattle.codes.specs.declared.dc_size.DcComponent.{DcComponent}
use Rattle.coefficients.specs.Level.{levels_answer, places_fine, predictors_fine}
use Rattle.prediction.specs.Refusal.{first_bad as firstStage}
use Rattle.prediction.specs.declared.predictor.BlockPredictors.{BlockPredictors}
use Rattle.prediction.specs.declared.refusal.CoefficientError.{CoefficientError}
use Rattle.assembly.proofs.ContextLaws.{quantiser-fine}
use Rattle.assembly.proofs.OutcomeLaws.{answered}
use Rattle.assembly.specs.Answer.{first_bad}
use Rattle.block.specs.Rebuilt.{dc_here, handed_tests, kept_by, levels_here, rebuild_tests, rebuilt_answer, rebuilt_by, rebuilt_due, rebuilt_levels, rebuilt_outcome, rebuilt_samples, values_here}
use Rattle.assembly.specs.Values.{context_fine, samples_of}
use Rattle.assembly.specs.declared.context.MacroblockTextureContext.{MacroblockTextureContext}
use Rattle.assembly.specs.declared.error.BlockAssemblyError.TheVariants.{Context, OutOfRange, Predictor}
use Rattle.std.specs.Prelude.{Err, None, Ok, Option, Result, Some, ⊤}
use Rattle.assembly.specs.declared.error.BlockAssemblyError.{BlockAssemblyError}

-- what a state that is fine leaves
pub kept_fine : {A : Type 0} (new old : A) {k : Result ⊤ BlockAssemblyError} → k ≡ Ok tt → kept_by k new old ≡ new
kept_fine new old e = ap (λ (k : Result ⊤ BlockAssemblyError). kept_by k new old) e

module _ (c : DcComponent) (x : MacroblockTextureContext) (p : BlockPredictors) (w : List (List ℕ)) (qfs : List ℤ) where
  abbrev handed : Bool
  handed = predictors_fine p && places_fine qfs

  -- the answer, the samples and the levels that a state of 13 gives
  abbrev pub Given : Result ⊤ BlockAssemblyError → Result ℤ BlockAssemblyError → List (List ℤ) → List (List ℤ) → List (List ℤ) → List (List ℤ) → Type 0
  Given k r samples oldSamples levels oldLevels =
      (r ≡ rebuilt_by k (dc_here c x p w qfs))
      × ((samples ≡ kept_by k (samples_of x (values_here c x p w qfs)) oldSamples) × (levels ≡ kept_by k (levels_here c x p w qfs) oldLevels))

  module _ (h : context_fine x w ≡ true) (s : Result ⊤ CoefficientError) (e : s ≡ levels_answer x.quantiser_scale p qfs) where
    answer-is : s ≡ firstStage true handed
    answer-is = e ∙ ap (λ (t : Bool). firstStage t handed) (quantiser-fine x w h)

    pub handed-not : {n : CoefficientError} → s ≡ Err n → handed ≡ false
    handed-not {n} f = go handed (sym f ∙ answer-is)
      where
        go : (t : Bool) → Err n ≡ firstStage true t → t ≡ false
        go true q = absurd (let z : ◌≡◌ {A = ℕ} 0 1 = cc in omega arith)
        go false q = refl

    pub handed-fine : s ≡ Ok tt → handed ≡ true
    handed-fine f = go handed (sym f ∙ answer-is)
      where
        go : (t : Bool) → (Ok tt) ≡ firstStage true t → t ≡ true
        go true q = refl
        go false q = absurd (let z : ◌≡◌ {A = ℕ} 0 1 = cc in omega arith)

  state : (t : Bool) → handed ≡ t → first_bad (handed_tests c x p w qfs) ≡ cond t (Ok tt) (Err Predictor)
  state t e = ap (λ (y : Bool). cond y (Ok tt) (Err Predictor)) e

  pub thirteen : (oldSamples oldLevels : List (List ℤ)) → handed ≡ false → Given (first_bad (handed_tests c x p w qfs)) (Err Predictor) oldSamples oldSamples oldLevels oldLevels
  thirteen a b e = let s = state false e in
      (sym (ap (λ (k : Result ⊤ BlockAssemblyError). rebuilt_by k (dc_here c x p w qfs)) s), (sym (ap (λ (k : Result ⊤ BlockAssemblyError). kept_by k (samples_of x (values_here c x p w qfs)) a) s), sym (ap (λ (k : Result ⊤ BlockAssemblyError). kept_by k (levels_here c x p w qfs) b) s)))

  pub rebuilt : (oldSamples oldLevels samples levels : List (List ℤ)) (r : Result ℤ BlockAssemblyError) → handed ≡ true → r ≡ Ok (dc_here c x p w qfs) → samples ≡ samples_of x (values_here c x p w qfs) → levels ≡ levels_here c x p w qfs
      → Given (first_bad (handed_tests c x p w qfs)) r samples oldSamples levels oldLevels
  rebuilt a b samples levels r e d f l = let s = state true e in (
    d ∙ sym (ap (λ (k : Result ⊤ BlockAssemblyError). rebuilt_by k (dc_here c x p w qfs)) s),
    (f ∙ sym (ap (λ (k : Result ⊤ BlockAssemblyError). kept_by k (samples_of x (values_here c x p w qfs)) a) s), l ∙ sym (ap (λ (k : Result ⊤ BlockAssemblyError). kept_by k (levels_here c x p w qfs) b) s)),
  )

  -- where 13 does not arise
  pub handed_over : (r : Result ℤ BlockAssemblyError) (samples oldSamples levels oldLevels : List (List ℤ)) → predictors_fine p ≡ true → places_fine qfs ≡ true
      → Given (first_bad (handed_tests c x p w qfs)) r samples oldSamples levels oldLevels → Given (Ok tt) r samples oldSamples levels oldLevels
  handed_over r samples a levels b e f g = subst (λ (k : Result ⊤ BlockAssemblyError). Given k r samples a levels b) (state true (true_both e f)) g

-- ---- block i: its index, the context, then the above

index-none : (i : ℕ) (r : Option DcComponent) → component_outcome r ≡ checked ((ltb i 6, 11) ∷ []) (accepted (component_at i)) → r ≡ None → ltb i 6 ≡ false
index-none i r e f = go (ltb i 6) (sym (ap component_outcome f) ∙ e)
  where
    go : (t : Bool) → refused 11 0 ≡ cond t (accepted (component_at i)) (refused 11 0) → t ≡ false
    go true q = absurd (let z : ◌≡◌ {A = ℕ} 0 1 = cc in omega arith)
    go false q = refl

index-some : (i : ℕ) (m : DcComponent) (r : Option DcComponent) → component_outcome r ≡ checked ((ltb i 6, 11) ∷ []) (accepted (component_at i)) → r ≡ Some m → (ltb i 6 ≡ true) × (m ≡ component_at i)
index-some i m r e f = go (ltb i 6) (sym (ap component_outcome f) ∙ e)
  where
    go : (t : Bool) → accepted m ≡ cond t (accepted (component_at i)) (refused 11 0) → (t ≡ true) × (m ≡ component_at i)
    go true q = (refl, cc)
    go false q = absurd (let z : ◌≡◌ {A = ℕ} 0 1 = cc in omega arith)

module _ (i : ℕ) (x : MacroblockTextureContext) (p : BlockPredictors) (w : List (List ℕ)) (qfs : List ℤ) where
  -- where nothing is refused
  pub tests_pass : i < 6 → context_fine x w ≡ true → predictors_fine p ≡ true → places_fine qfs ≡ true → first_bad (rebuild_tests i x p w qfs) ≡ Ok tt
  tests_pass l h g f = simp (lt-ltb i 6 l, h, true_both g f)

  -- what the contract of `reconstruct_block` says
  abbrev pub Meets : Result ℤ BlockAssemblyError → List (List ℤ) → List (List ℤ) → List (List ℤ) → List (List ℤ) → Type 0
  Meets r samples oldSamples levels oldLevels =
      (r ≡ rebuilt_answer i x p w qfs)
      × ((samples ≡ rebuilt_samples i x p w qfs oldSamples) × ((levels ≡ rebuilt_levels i x p w qfs oldLevels) × (rebuilt_outcome r ≡ rebuilt_due i x p w qfs)))

  pub by_number : {r : Result ℤ BlockAssemblyError} → r ≡ rebuilt_answer i x p w qfs → rebuilt_outcome r ≡ rebuilt_due i x p w qfs
  by_number e = ap rebuilt_outcome e ∙ answered rebuilt_outcome (λ (k : Result ⊤ BlockAssemblyError). rebuilt_by k (dc_here (component_at i) x p w qfs)) (λ e. refl) (rebuild_tests i x p w qfs) (refl, (refl, (refl, tt)))

  met : (k : Result ⊤ BlockAssemblyError) {r : Result ℤ BlockAssemblyError} {samples levels : List (List ℤ)} (oldSamples oldLevels : List (List ℤ)) → first_bad (rebuild_tests i x p w qfs) ≡ k
      → Given (component_at i) x p w qfs k r samples oldSamples levels oldLevels → Meets r samples oldSamples levels oldLevels
  met k a b e g =
      let r = g.0 ∙ sym (ap (λ (y : Result ⊤ BlockAssemblyError). rebuilt_by y (dc_here (component_at i) x p w qfs)) e) in (
        r,
        (
          g.1.0 ∙ sym (ap (λ (y : Result ⊤ BlockAssemblyError). kept_by y (samples_of x (values_here (component_at i) x p w qfs)) a) e),
          (g.1.1 ∙ sym (ap (λ (y : Result ⊤ BlockAssemblyError). kept_by y (levels_here (component_at i) x p w qfs) b) e), by_number r),
        ),
      )

  tests : Bool → Bool → Result ⊤ BlockAssemblyError
  tests s t = cond s (cond t (first_bad (handed_tests (component_at i) x p w qfs)) (Err Context)) (Err OutOfRange)

  pub no_block : (r : Option DcComponent) (a b : List (List ℤ)) → component_outcome r ≡ checked ((ltb i 6, 11) ∷ []) (accepted (component_at i)) → r ≡ None → Meets (Err OutOfRange) a a b b
  unfolding tests
  no_block r a b e f = met (Err OutOfRange) a b (ap (λ (s : Bool). tests s (context_fine x w)) (index-none i r e f)) (refl, (refl, refl))

  pub no-context : (m : DcComponent) (r : Option DcComponent) (a b : List (List ℤ)) → component_outcome r ≡ checked ((ltb i 6, 11) ∷ []) (accepted (component_at i)) → r ≡ Some m
      → context_fine x w ≡ false → Meets (Err Context) a a b b
  unfolding tests
  no-context m r a b e f h = met (Err Context) a b (ap₂ tests (index-some i m r e f).0 h) (refl, (refl, refl))

  pub whole-block : (m : DcComponent) (r : Option DcComponent) {o : Result ℤ BlockAssemblyError} {samples levels : List (List ℤ)} (a b : List (List ℤ)) → component_outcome r ≡ checked ((ltb i 6, 11) ∷ []) (accepted (component_at i)) → r ≡ Some m
      → context_fine x w ≡ true → Given m x p w qfs (first_bad (handed_tests m x p w qfs)) o samples a levels b → Meets o samples a levels b
  unfolding tests
  whole-block m r {o} {samples} {levels} a b e f h g =
      let n = index-some i m r e f in
      met (first_bad (handed_tests (component_at i) x p w qfs)) a b (ap₂ tests n.0 h)
      (subst (λ (c : DcComponent). Given c x p w qfs (first_bad (handed_tests c x p w qfs)) o samples a levels b) n.1 g)
