-- Inverse quantisation by the method that is asked for. Definitions only.
use Rattle.std.specs.Prelude.{Bool, cond, List, ℕ, ℤ, Result, ⊤}
use Rattle.numbers.specs.Outcome.{Outcome}
use Rattle.dequantise.specs.declared.context.InverseQuantContext.{InverseQuantContext}
use Rattle.inverse_quant.specs.Dequantised.{answer1, answer2, dequantised1, dequantised2}
use Rattle.inverse_quant.specs.Outcomes.{due1, due2}
use Rattle.prediction.specs.declared.refusal.CoefficientError.{CoefficientError}

-- by method 1, with or without mismatch control, or by method 2
abbrev pub dequantised_by : Bool → Bool → InverseQuantContext → List (List ℕ) → List (List ℤ) → List (List ℤ)
dequantised_by method1 control ctx w qf = cond method1 (dequantised1 control ctx w qf) (dequantised2 ctx qf)

abbrev pub answer_by : Bool → InverseQuantContext → List (List ℕ) → List (List ℤ) → Result ⊤ CoefficientError
answer_by method1 ctx w qf = cond method1 (answer1 ctx w qf) (answer2 ctx qf)

abbrev pub due_by : Bool → InverseQuantContext → List (List ℕ) → List (List ℤ) → Outcome (Unit {0})
due_by method1 ctx w qf = cond method1 (due1 ctx w qf) (due2 ctx qf)
