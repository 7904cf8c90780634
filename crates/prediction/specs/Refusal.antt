-- What the stages refuse: the numbers of a refusal, and the tests behind them. Definitions only.
use Rattle.std.specs.Prelude.{Bool, true, false, cond, List, ℕ, ℤ, Err, Ok, Result, ⊤}
use Rattle.numbers.specs.Every.{every}
use Rattle.ranges.specs.Range.{level_fine}
use Rattle.prediction.specs.declared.refusal.CoefficientError.{CoefficientError}
use Rattle.prediction.specs.declared.refusal.CoefficientError.TheVariants.{Context, HandedIn}

-- document 01's number: 12 for the context, 13 for a predictor, level or value handed in
abbrev pub number_of : CoefficientError → ℕ
number_of Context = 12
number_of HandedIn = 13

-- the first of the two tests that fails answers
abbrev pub first_bad : Bool → Bool → Result ⊤ CoefficientError
first_bad false v = Err Context
first_bad true false = Err HandedIn
first_bad true true = Ok tt

-- a neighbour's AC values, where it is there
abbrev pub values_fine : Bool → List ℤ → Bool
values_fine has xs = cond has (every level_fine xs) true

-- what lent memory holds afterwards: a refusal leaves it as it was
abbrev pub after : {A : Type 0} → Result ⊤ CoefficientError → A → A → A
after (Ok tt) new old = new
after (Err e) new old = old
