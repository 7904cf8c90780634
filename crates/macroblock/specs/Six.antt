-- Six blocks from their rows of 64 places to their values and samples. Definitions only.
use Rattle.std.specs.Prelude.{List, [], ℕ, ℤ, get_or}
use Rattle.numbers.specs.Grid.{build}
use Rattle.codes.specs.Component.{component_at}
use Rattle.prediction.specs.declared.predictor.BlockPredictors.{BlockPredictors}
use Rattle.assembly.specs.Values.{levels_of, samples_of, values_of}
use Rattle.assembly.specs.declared.context.MacroblockTextureContext.{MacroblockTextureContext}

-- block i of six
abbrev pub block_at : List (List (List ℤ)) → ℕ → List (List ℤ)
block_at bs i = get_or bs i []

-- the dequantised values of six blocks with the same predictors
unfoldable pub values_of_six : MacroblockTextureContext → BlockPredictors → List (List ℕ) → List (List ℤ) → List (List (List ℤ))
values_of_six x p w rows = build 6 (λ (i : ℕ). values_of (component_at i) x w (levels_of (component_at i) x p (get_or rows i [])))

-- the samples of six blocks' values
unfoldable pub samples_of_six : MacroblockTextureContext → List (List (List ℤ)) → List (List (List ℤ))
samples_of_six x fs = build 6 (λ (i : ℕ). samples_of x (block_at fs i))
