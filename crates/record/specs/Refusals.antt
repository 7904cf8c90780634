-- What records refuse, by document 01's numbers. Definitions only.
use Rattle.std.specs.Prelude.{Bool, List, [], ◌∷◌, ℕ, ◌+◌, leb, ltb, Err, Ok, Result, ⊤}
use Rattle.numbers.specs.Outcome.{Outcome, checked, done, first_of, refused}
use Rattle.ranges.specs.Range.{quantiser_fine}
use Rattle.record.specs.declared.refusal.RecordError.{RecordError}
use Rattle.record.specs.declared.refusal.RecordError.TheVariants.{Context, OutOfRange, TooShort}

abbrev pub number_of : RecordError → ℕ
number_of OutOfRange = 11
number_of Context = 12
number_of TooShort = 14

abbrev pub recorded_outcome : Result ⊤ RecordError → Outcome (Unit {0})
recorded_outcome (Ok tt) = done
recorded_outcome (Err e) = refused (number_of e) 0

-- tests with their refusals: the first that fails answers
abbrev pub first_bad : List (Bool × RecordError) → Result ⊤ RecordError
first_bad ts = first_of Err (Ok tt) ts

-- what is handed out or left in lent memory
abbrev pub unless : {A : Type 0} → Result ⊤ RecordError → A → A → A
unless (Ok tt) new old = new
unless (Err e) new old = old

-- ---- the tests of each call

-- a quantiser is one (12)
abbrev pub quantiser_tests : ℕ → List (Bool × RecordError)
quantiser_tests q = (quantiser_fine q, Context) ∷ []

-- a record lies in a store (14)
abbrev pub lies : ℕ → ℕ → Bool
lies stored at = leb (at + 91) stored

-- a block is one of six (11), of a record that is whole (14)
abbrev pub block_tests : ℕ → ℕ → List (Bool × RecordError)
block_tests owned i = (ltb i 6, OutOfRange) ∷ (lies owned 0, TooShort) ∷ []

abbrev pub store_tests : ℕ → ℕ → List (Bool × RecordError)
store_tests stored at = (lies stored at, TooShort) ∷ []

-- ---- what is due, by number

abbrev pub block_due : ℕ → ℕ → Outcome (Unit {0})
block_due owned i = checked ((ltb i 6, 11) ∷ (lies owned 0, 14) ∷ []) done

abbrev pub quantiser_due : ℕ → Outcome (Unit {0})
quantiser_due q = checked ((quantiser_fine q, 12) ∷ []) done

abbrev pub store_due : ℕ → ℕ → Outcome (Unit {0})
store_due stored at = checked ((lies stored at, 14) ∷ []) done
