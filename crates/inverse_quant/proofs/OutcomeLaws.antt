-- The answers of a block's inverse quantisation by number are what is due. Assumes nothing.
use mathlib.Core.Bool.{Bool, true, false, ◌&&◌}
use mathlib.Core.List.{List}
use mathlib.Core.Path.{◌≡◌}
use Prim.Native.Nat.{ℕ}
use lib.IntN.{ℤ}
use Rattle.numbers.specs.Every.{every}
use Rattle.prediction.proofs.OutcomeLaws.{stage_due}
use Rattle.coefficients.specs.Level.{block_fine}
use Rattle.prediction.specs.Outcomes.{stage_outcome}
use Rattle.dequantise.specs.Methods.{context_fine, non_zero}
use Rattle.dequantise.specs.declared.context.InverseQuantContext.{InverseQuantContext}
use Rattle.inverse_quant.specs.Dequantised.{answer1, answer2}
use Rattle.inverse_quant.specs.Either.{answer_by, due_by}
use Rattle.inverse_quant.specs.Outcomes.{due1, due2}

pub due_1 : (ctx : InverseQuantContext) (w : List (List ℕ)) (qf : List (List ℤ)) → stage_outcome (answer1 ctx w qf) ≡ due1 ctx w qf
due_1 ctx w qf = stage_due (context_fine ctx && every (every non_zero) w) (block_fine qf)

pub due_2 : (ctx : InverseQuantContext) (qf : List (List ℤ)) → stage_outcome (answer2 ctx qf) ≡ due2 ctx qf
due_2 ctx qf = stage_due (context_fine ctx) (block_fine qf)

pub due_by_lem : (method1 : Bool) (ctx : InverseQuantContext) (w : List (List ℕ)) (qf : List (List ℤ)) → stage_outcome (answer_by method1 ctx w qf) ≡ due_by method1 ctx w qf
due_by_lem true ctx w qf = due_1 ctx w qf
due_by_lem false ctx w qf = due_2 ctx qf
