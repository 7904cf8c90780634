-- What each public function of a single value answers by itself, refusals included. Definitions only.
use Rattle.std.specs.Prelude.{Bool, ◌&&◌, not, ℕ, eqb, ℤ, Result}
use Rattle.codes.specs.declared.dc_size.DcComponent.{DcComponent}
use Rattle.ranges.specs.Range.{quantiser_fine, level_fine}
use Rattle.prediction.specs.Stages.{value_unless}
use Rattle.dequantise.specs.Methods.{intra_dc, method1, method2}
use Rattle.prediction.specs.declared.refusal.CoefficientError.{CoefficientError}

abbrev pub intra_dc_answer : ℤ → DcComponent → ℕ → Bool → Result ℤ CoefficientError
intra_dc_answer qf c q short = value_unless (quantiser_fine q) (level_fine qf) (intra_dc qf c q short)

abbrev pub method1_answer : ℤ → ℕ → ℕ → Bool → Result ℤ CoefficientError
method1_answer qf w q intra = value_unless (quantiser_fine q && not (eqb w 0)) (level_fine qf) (method1 intra qf w q)

abbrev pub method2_answer : ℤ → ℕ → Result ℤ CoefficientError
method2_answer qf q = value_unless (quantiser_fine q) (level_fine qf) (method2 qf q)
