-- What the check of the state says in document 01's numbers, and what is due. Definitions only.
use Rattle.std.specs.Prelude.{List, [], ◌∷◌, ℕ, length, Err, Ok, Result, ⊤}
use Rattle.numbers.specs.Outcome.{Outcome, checked, done, refused}
use Rattle.bits.specs.Cursor.{in_data}
use Rattle.coefficients.specs.Level.{predictors_fine}
use Rattle.prediction.specs.declared.predictor.BlockPredictors.{BlockPredictors}
use Rattle.assembly.specs.Answer.{figure_of, number_of}
use Rattle.assembly.specs.Values.{context_fine}
use Rattle.assembly.specs.declared.context.MacroblockTextureContext.{MacroblockTextureContext}
use Rattle.assembly.specs.declared.error.BlockAssemblyError.{BlockAssemblyError}

abbrev pub checked_outcome : Result ⊤ BlockAssemblyError → Outcome (Unit {0})
checked_outcome (Ok tt) = done
checked_outcome (Err e) = refused (number_of e) (figure_of e)

module _ (d : List ℕ) (at : ℕ) (x : MacroblockTextureContext) (p : BlockPredictors) (w : List (List ℕ)) where
  -- the state: 11, 12, 13
  abbrev pub check_due : Outcome (Unit {0})
  check_due = checked ((in_data (length d) at, 11) ∷ (context_fine x w, 12) ∷ (predictors_fine p, 13) ∷ []) done
