-- Document 01's number and figure of a refusal, and what is answered of the state before any bit. Definitions only.
use Rattle.std.specs.Prelude.{Bool, List, [], ◌∷◌, ℕ, length, Err, Ok, Result, ⊤}
use Rattle.numbers.specs.Outcome.{first_of}
use Rattle.bits.specs.Cursor.{in_data}
use Rattle.coefficients.specs.Level.{predictors_fine}
use Rattle.prediction.specs.declared.predictor.BlockPredictors.{BlockPredictors}
use Rattle.fields.specs.Refusal as T
use Rattle.assembly.specs.Values.{context_fine}
use Rattle.assembly.specs.declared.context.MacroblockTextureContext.{MacroblockTextureContext}
use Rattle.assembly.specs.declared.error.BlockAssemblyError.{BlockAssemblyError}
use Rattle.assembly.specs.declared.error.BlockAssemblyError.TheVariants.{Complete, Context, NotCoded, NotIntra, OutOfRange, Predictor, Texture, TooShort}

-- document 01's number and figure of a refusal
abbrev pub number_of : BlockAssemblyError → ℕ
number_of OutOfRange = 11
number_of Context = 12
number_of Predictor = 13
number_of TooShort = 14
number_of Complete = 15
number_of NotCoded = 9
number_of NotIntra = 10
number_of (Texture e) = T.number_of e

abbrev pub figure_of : BlockAssemblyError → ℕ
figure_of OutOfRange = 0
figure_of Context = 0
figure_of Predictor = 0
figure_of TooShort = 0
figure_of Complete = 0
figure_of NotCoded = 0
figure_of NotIntra = 0
figure_of (Texture e) = T.figure_of e

-- tests with their refusals: the first that fails answers, and those after it are not asked
abbrev pub first_bad : List (Bool × BlockAssemblyError) → Result ⊤ BlockAssemblyError
first_bad ts = first_of Err (Ok tt) ts

-- the state, before any bit: 11, 12, 13
abbrev pub tests_of : List ℕ → ℕ → MacroblockTextureContext → BlockPredictors → List (List ℕ) → List (Bool × BlockAssemblyError)
tests_of d at x p w = (in_data (length d) at, OutOfRange) ∷ (context_fine x w, Context) ∷ (predictors_fine p, Predictor) ∷ []

abbrev pub check_of : List ℕ → ℕ → MacroblockTextureContext → BlockPredictors → List (List ℕ) → Result ⊤ BlockAssemblyError
check_of d at x p w = first_bad (tests_of d at x p w)
