-- Whether a macroblock, or one block of it, was written, by number, is what is due, and the outcomes tell the answers apart. Assumes nothing.
use mathlib.Core.Bool.{cond}
use mathlib.Core.List.{List}
use mathlib.Core.Path.{◌≡◌, ap, refl, sym, ◌∙◌}
use Prim.Native.Nat.{ℕ, ◌<◌, ◌≤◌}
use lib.Dec.{eqb, leb, ltb}
use lib.IntN.{ℤ}
use lib.ListN.{length}
use borrow.Author.Tests.{le-leb, le-ltb, lt-leb, lt-ltb}
use Rattle.numbers.proofs.OutcomeLaws.{one_test, two_tests}
use Rattle.numbers.specs.Outcome.{Outcome, accepted, refused}
use Rattle.samples.specs.Samples.{block_due, block_outcome, block_written, written_by, written_due, written_outcome}
use Rattle.std.specs.Prelude.{Err, Ok, Result, ⊤}
use Rattle.samples.specs.declared.SamplesError.{SamplesError}
use Rattle.samples.specs.declared.SamplesError.TheVariants.{OutOfRange}
use Rattle.samples.specs.declared.SamplesError.TheVariants.{TooShort}

module _ (s : List ℤ) where
  pub written_due_lem : written_outcome (written_by s) ≡ written_due s
  written_due_lem = one_test written_outcome (leb 384 (length s)) (Ok tt) (Err TooShort)

  pub is-written : 384 ≤ length s → written_by s ≡ Ok tt
  is-written h = rw (le-leb 384 (length s) h)

  pub not_written : length s < 384 → written_by s ≡ Err TooShort
  not_written h = rw (lt-leb 384 (length s) h)

module _ (i : ℕ) (s : List ℤ) where
  pub block_due_lem : block_outcome (block_written i s) ≡ block_due i s
  block_due_lem = two_tests block_outcome (ltb i 6) (leb 384 (length s)) (Ok tt) (Err TooShort) (Err OutOfRange)

  pub block-is-written : i < 6 → 384 ≤ length s → block_written i s ≡ Ok tt
  block-is-written h l = rw (lt-ltb i 6 h, le-leb 384 (length s) l)

  pub block_too_short : i < 6 → length s < 384 → block_written i s ≡ Err TooShort
  block_too_short h l = rw (lt-ltb i 6 h, lt-leb 384 (length s) l)

  pub block_out_of_range : 6 ≤ i → block_written i s ≡ Err OutOfRange
  block_out_of_range h = rw (le-ltb i 6 h)

-- ---- the outcomes tell the answers apart

abbrev written_of : Outcome (Unit {0}) → Result ⊤ SamplesError
written_of (accepted u) = Ok tt
written_of (refused n f) = cond (eqb n 11) (Err OutOfRange) (Err TooShort)

written_of_lem : (r : Result ⊤ SamplesError) → r ≡ written_of (written_outcome r)
written_of_lem (Ok tt) = refl
written_of_lem (Err OutOfRange) = refl
written_of_lem (Err TooShort) = refl

pub written_apart : (r s : Result ⊤ SamplesError) → written_outcome r ≡ written_outcome s → r ≡ s
written_apart r s h = written_of_lem r ∙ ap written_of h ∙ sym (written_of_lem s)

abbrev block_written_of : Outcome (Unit {0}) → Result ⊤ SamplesError
block_written_of (accepted u) = Ok tt
block_written_of (refused n f) = cond (eqb n 11) (Err OutOfRange) (Err TooShort)

block_written_of_lem : (r : Result ⊤ SamplesError) → r ≡ block_written_of (block_outcome r)
block_written_of_lem (Ok tt) = refl
block_written_of_lem (Err OutOfRange) = refl
block_written_of_lem (Err TooShort) = refl

pub block-written-apart : (r s : Result ⊤ SamplesError) → block_outcome r ≡ block_outcome s → r ≡ s
block-written-apart r s h = block_written_of_lem r ∙ ap block_written_of h ∙ sym (block_written_of_lem s)
