-- The answers of a single value: by number they are what is due, and what passes the tests is answered with its value. Assumes nothing.
use mathlib.Core.Bool.{Bool, true, not, ◌&&◌}
use mathlib.Core.Path.{◌≡◌}
use Prim.Native.Nat.{ℕ}
use native.Mathlib.Omega.{arith}
use lib.Dec.{eqb}
use lib.IntN.{ℤ}
use Rattle.ranges.specs.Range.{level_fine, quantiser_fine}
use Rattle.codes.specs.declared.dc_size.DcComponent.{DcComponent}
use Rattle.prediction.proofs.OutcomeLaws.{value_due}
use Rattle.prediction.specs.Outcomes.{value_outcome}
use Rattle.prediction.specs.declared.refusal.CoefficientError.{CoefficientError}
use Rattle.dequantise.specs.Methods.{intra_dc}
use Rattle.dequantise.specs.Outcomes.{intra_dc_due, method1_due, method2_due}
use Rattle.dequantise.specs.Stages.{intra_dc_answer, method1_answer, method2_answer}
use Rattle.std.specs.Prelude.{Err, Ok, Result}

pub intra_dc_due_lem : (qf : ℤ) (c : DcComponent) (q : ℕ) (short : Bool) → value_outcome (intra_dc_answer qf c q short) ≡ intra_dc_due qf c q short
intra_dc_due_lem qf c q short = value_due (quantiser_fine q) (level_fine qf) _

pub method1_due_lem : (qf : ℤ) (w q : ℕ) (intra : Bool) → value_outcome (method1_answer qf w q intra) ≡ method1_due qf w q intra
method1_due_lem qf w q intra = value_due (quantiser_fine q && not (eqb w 0)) (level_fine qf) _

pub method2_due_lem : (qf : ℤ) (q : ℕ) → value_outcome (method2_answer qf q) ≡ method2_due qf q
method2_due_lem qf q = value_due (quantiser_fine q) (level_fine qf) _

-- no refusal where the quantiser and the level are each one
pub intra_dc_given : (qf : ℤ) (c : DcComponent) (q : ℕ) (short : Bool) → quantiser_fine q ≡ true → level_fine qf ≡ true → intra_dc_answer qf c q short ≡ Ok (intra_dc qf c q short)
intra_dc_given qf c q short e h = rw (e, h)

-- an answer that is a value is no refusal, and no other value
pub value_never : (r : Result ℤ CoefficientError) (z : ℤ) (e : CoefficientError) → r ≡ Ok z → r ≡ Err e → ⊥
value_never r z e p q = let n : ◌≡◌ {A = ℕ} 0 1 = cc in omega arith

pub value_is : (r : Result ℤ CoefficientError) (x z : ℤ) → r ≡ Ok z → r ≡ Ok x → x ≡ z
value_is r x z p q = cc
