-- What records refuse, by number, is what is due, and the numbers tell the refusals apart. Assumes nothing.
use mathlib.Core.Bool.{Bool, cond}
use mathlib.Core.List.{List}
use mathlib.Core.Path.{◌≡◌, ap, refl, sym, ◌∙◌}
use Prim.Native.Nat.{ℕ}
use lib.Dec.{eqb}
use Rattle.numbers.proofs.OutcomeLaws.{Figureless, by_numbers, numbered}
use Rattle.numbers.specs.Outcome.{Outcome, accepted, checked, done, refused}
use Rattle.record.specs.Refusals.{block_due, block_tests, first_bad, number_of, quantiser_due, quantiser_tests, recorded_outcome, store_due, store_tests}
use Rattle.record.specs.declared.refusal.RecordError.{RecordError}
use Rattle.record.specs.declared.refusal.RecordError.TheVariants.{Context, OutOfRange, TooShort}
use Rattle.std.specs.Prelude.{Err, Ok, Result, ⊤}

-- ---- of each call

-- the tests of any
pub tests_due : (ts : List (Bool × RecordError)) → Figureless (λ (e : RecordError). 0) ts → recorded_outcome (first_bad ts) ≡ checked (numbered number_of ts) done
tests_due = by_numbers recorded_outcome Err (Ok tt) number_of (λ (e : RecordError). 0) (λ e. refl)

pub block_due_lem : (owned i : ℕ) → recorded_outcome (first_bad (block_tests owned i)) ≡ block_due owned i
block_due_lem owned i = tests_due (block_tests owned i) (refl, (refl, tt))

pub quantiser_due_lem : (q : ℕ) → recorded_outcome (first_bad (quantiser_tests q)) ≡ quantiser_due q
quantiser_due_lem q = tests_due (quantiser_tests q) (refl, tt)

pub store_due_lem : (stored at : ℕ) → recorded_outcome (first_bad (store_tests stored at)) ≡ store_due stored at
store_due_lem stored at = tests_due (store_tests stored at) (refl, tt)

-- ---- the numbers tell the refusals apart

abbrev error_by : ℕ → RecordError
error_by n = cond (eqb n 11) OutOfRange (cond (eqb n 12) Context TooShort)

error_by_lem : (e : RecordError) → e ≡ error_by (number_of e)
error_by_lem OutOfRange = refl
error_by_lem Context = refl
error_by_lem TooShort = refl

pub number-apart : (e f : RecordError) → number_of e ≡ number_of f → e ≡ f
number-apart e f h = error_by_lem e ∙ ap error_by h ∙ sym (error_by_lem f)

abbrev recorded_by : Outcome (Unit {0}) → Result ⊤ RecordError
recorded_by (accepted u) = Ok tt
recorded_by (refused n f) = Err (error_by n)

recorded_by_lem : (r : Result ⊤ RecordError) → r ≡ recorded_by (recorded_outcome r)
recorded_by_lem (Ok tt) = refl
recorded_by_lem (Err e) = ap Err (error_by_lem e)

pub recorded_apart : (r s : Result ⊤ RecordError) → recorded_outcome r ≡ recorded_outcome s → r ≡ s
recorded_apart r s h = recorded_by_lem r ∙ ap recorded_by h ∙ sym (recorded_by_lem s)
