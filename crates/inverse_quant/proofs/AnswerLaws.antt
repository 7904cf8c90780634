-- A stage's answer, and what lent memory holds after it. Assumes nothing.
use mathlib.Core.Bool.{Bool, true, false}
use mathlib.Core.List.{List}
use mathlib.Core.Path.{◌≡◌, sym}
use Prim.Native.Nat.{ℕ}
use lib.IntN.{ℤ}
use Rattle.prediction.specs.declared.refusal.CoefficientError.{CoefficientError}
use Rattle.prediction.specs.declared.refusal.CoefficientError.TheVariants.{Context}
use Rattle.prediction.specs.Refusal.{after}
use Rattle.dequantise.specs.Methods.{context_fine}
use Rattle.dequantise.specs.declared.context.InverseQuantContext.{InverseQuantContext}
use Rattle.inverse_quant.specs.Either.{answer_by}
use Rattle.std.specs.Prelude.{Err, Ok, Result, ⊤}

pub refused_keeps : {A : Type 0} (s : Result ⊤ CoefficientError) (e : CoefficientError) (new old : A) → s ≡ Err e → (Err e ≡ s) × (old ≡ after s new old)
refused_keeps s e new old h = (sym h, rw h)

pub done_writes : {A : Type 0} (s : Result ⊤ CoefficientError) (new old x : A) → s ≡ Ok tt → x ≡ new → ((Ok tt) ≡ s) × (x ≡ after s new old)
done_writes s new old x h e = (sym h, rw h e)

-- either method asks for the context first
pub context_refuses : (method1 : Bool) (ctx : InverseQuantContext) (w : List (List ℕ)) (qf : List (List ℤ)) → context_fine ctx ≡ false → answer_by method1 ctx w qf ≡ Err Context
context_refuses true ctx w qf e = rw e
context_refuses false ctx w qf e = rw e
