-- What is due of a single value in document 01's numbers: 12 for the context, then 13 for the level. Definitions only.
use Rattle.std.specs.Prelude.{Bool, not, ◌&&◌, [], ◌∷◌, ℕ, eqb, ℤ}
use Rattle.numbers.specs.Outcome.{Outcome, accepted, checked}
use Rattle.ranges.specs.Range.{level_fine, quantiser_fine}
use Rattle.codes.specs.declared.dc_size.DcComponent.{DcComponent}
use Rattle.dequantise.specs.Methods.{intra_dc, method1, method2}

abbrev pub intra_dc_due : ℤ → DcComponent → ℕ → Bool → Outcome ℤ
intra_dc_due qf c q short = checked ((quantiser_fine q, 12) ∷ (level_fine qf, 13) ∷ []) (accepted (intra_dc qf c q short))

abbrev pub method1_due : ℤ → ℕ → ℕ → Bool → Outcome ℤ
method1_due qf w q intra = checked ((quantiser_fine q && not (eqb w 0), 12) ∷ (level_fine qf, 13) ∷ []) (accepted (method1 intra qf w q))

abbrev pub method2_due : ℤ → ℕ → Outcome ℤ
method2_due qf q = checked ((quantiser_fine q, 12) ∷ (level_fine qf, 13) ∷ []) (accepted (method2 qf q))
