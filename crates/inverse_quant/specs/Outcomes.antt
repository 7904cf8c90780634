-- What is due of a block in document 01's numbers: 12 for the context, then 13 for the levels. Definitions only.
use Rattle.std.specs.Prelude.{◌&&◌, List, [], ◌∷◌, ℕ, ℤ}
use Rattle.numbers.specs.Every.{every}
use Rattle.numbers.specs.Outcome.{Outcome, checked, done}
use Rattle.coefficients.specs.Level.{block_fine}
use Rattle.dequantise.specs.Methods.{context_fine, non_zero}
use Rattle.dequantise.specs.declared.context.InverseQuantContext.{InverseQuantContext}

abbrev pub due1 : InverseQuantContext → List (List ℕ) → List (List ℤ) → Outcome (Unit {0})
due1 ctx w qf = checked ((context_fine ctx && every (every non_zero) w, 12) ∷ (block_fine qf, 13) ∷ []) done

abbrev pub due2 : InverseQuantContext → List (List ℤ) → Outcome (Unit {0})
due2 ctx qf = checked ((context_fine ctx, 12) ∷ (block_fine qf, 13) ∷ []) done
