-- A block out of its 64 places: what is answered, and what its lent samples and levels hold afterwards, refusals included. Definitions only.
use Rattle.std.specs.Prelude.{Bool, ◌&&◌, List, [], ◌∷◌, ℕ, ltb, ℤ, Err, Ok, Result, ⊤}
use Rattle.numbers.specs.Grid.{cell}
use Rattle.numbers.specs.Outcome.{Outcome, accepted, checked, refused}
use Rattle.codes.specs.Component.{component_at}
use Rattle.codes.specs.declared.dc_size.DcComponent.{DcComponent}
use Rattle.coefficients.specs.Level.{places_fine, predictors_fine}
use Rattle.prediction.specs.declared.predictor.BlockPredictors.{BlockPredictors}
use Rattle.assembly.specs.Answer.{figure_of, first_bad, number_of}
use Rattle.assembly.specs.Values.{context_fine, levels_of, samples_of, values_of}
use Rattle.assembly.specs.declared.context.MacroblockTextureContext.{MacroblockTextureContext}
use Rattle.assembly.specs.declared.error.BlockAssemblyError.{BlockAssemblyError}
use Rattle.assembly.specs.declared.error.BlockAssemblyError.TheVariants.{Context, OutOfRange, Predictor}

abbrev pub rebuilt_by : Result ⊤ BlockAssemblyError → ℤ → Result ℤ BlockAssemblyError
rebuilt_by (Ok tt) dc = Ok dc
rebuilt_by (Err e) dc = Err e

abbrev pub kept_by : {A : Type 0} → Result ⊤ BlockAssemblyError → A → A → A
kept_by (Ok tt) new old = new
kept_by (Err e) new old = old

abbrev pub rebuilt_outcome : Result ℤ BlockAssemblyError → Outcome ℤ
rebuilt_outcome (Ok dc) = accepted dc
rebuilt_outcome (Err e) = refused (number_of e) (figure_of e)

-- levels, values and samples of the places
module _ (c : DcComponent) (x : MacroblockTextureContext) (p : BlockPredictors) (w : List (List ℕ)) (qfs : List ℤ) where
  abbrev pub levels_here : List (List ℤ)
  levels_here = levels_of c x p qfs

  abbrev pub values_here : List (List ℤ)
  values_here = values_of c x w levels_here

  abbrev pub dc_here : ℤ
  dc_here = cell values_here 0 0

  -- predictors and places that may be handed in (13)
  abbrev pub handed_tests : List (Bool × BlockAssemblyError)
  handed_tests = (predictors_fine p && places_fine qfs, Predictor) ∷ []

-- block i: 11, 12, 13
module _ (i : ℕ) (x : MacroblockTextureContext) (p : BlockPredictors) (w : List (List ℕ)) (qfs : List ℤ) where
  abbrev pub rebuild_tests : List (Bool × BlockAssemblyError)
  rebuild_tests = (ltb i 6, OutOfRange) ∷ (context_fine x w, Context) ∷ (predictors_fine p && places_fine qfs, Predictor) ∷ []

  abbrev pub rebuilt_answer : Result ℤ BlockAssemblyError
  rebuilt_answer = rebuilt_by (first_bad rebuild_tests) (dc_here (component_at i) x p w qfs)

  abbrev pub rebuilt_samples : List (List ℤ) → List (List ℤ)
  rebuilt_samples old = kept_by (first_bad rebuild_tests) (samples_of x (values_here (component_at i) x p w qfs)) old

  abbrev pub rebuilt_levels : List (List ℤ) → List (List ℤ)
  rebuilt_levels old = kept_by (first_bad rebuild_tests) (levels_here (component_at i) x p w qfs) old

  abbrev pub rebuilt_due : Outcome ℤ
  rebuilt_due = checked ((ltb i 6, 11) ∷ (context_fine x w, 12) ∷ (predictors_fine p && places_fine qfs, 13) ∷ []) (accepted (dc_here (component_at i) x p w qfs))
