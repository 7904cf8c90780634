-- The component of a block index (6.2.7, Figure 6-8), and the answer in document 01's numbers. Definitions only.
use Rattle.std.specs.Prelude.{cond, [], ◌∷◌, ℕ, ltb, None, Option, Some}
use Rattle.numbers.specs.Outcome.{Outcome, accepted, checked, refused}
use Rattle.codes.specs.declared.dc_size.DcComponent.{DcComponent}
use Rattle.codes.specs.declared.dc_size.DcComponent.TheVariants.{Luminance, Chrominance}

-- blocks 0 to 3 are luminance, 4 and 5 chrominance; above that there is none (11)
abbrev pub component_of : ℕ → Option DcComponent
component_of i = cond (ltb i 4) (Some Luminance) (cond (ltb i 6) (Some Chrominance) None)

-- of one of the six blocks
abbrev pub component_at : ℕ → DcComponent
component_at i = cond (ltb i 4) Luminance Chrominance

abbrev pub component_outcome : Option DcComponent → Outcome DcComponent
component_outcome (Some c) = accepted c
component_outcome None = refused 11 0

abbrev pub component_due : ℕ → Outcome DcComponent
component_due i = checked ((ltb i 6, 11) ∷ []) (accepted (component_at i))
