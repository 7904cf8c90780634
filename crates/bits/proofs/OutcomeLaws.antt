-- The cursor's answers by number are what is due, and the numbers tell the answers apart. Assumes nothing.
use mathlib.Core.Bool.{Bool, cond, false, not, true}
use mathlib.Core.List.{List}
use mathlib.Core.Path.{◌≡◌, ap, refl, sym, ◌∙◌}
use Prim.Native.Nat.{ℕ}
use lib.Dec.{eqb, leb}
use lib.ListN.{length, take}
use Rattle.numbers.proofs.OutcomeLaws.{one_test, three_tests, two_tests}
use Rattle.numbers.specs.Outcome.{Outcome, accepted, refused}
use Rattle.bits.specs.Bits.{bits_from, val}
use Rattle.bits.specs.Cursor.{aligned, bool_of, cursor_at, in_data, next_bits, next_window, number_of, peeked_of, read_bits, read_bool, remaining, skipped}
use Rattle.bits.specs.Outcomes.{align_due, bits_outcome, bool_due, bool_outcome, count_outcome, moved_outcome, peek_due, peeked_outcome, read_due, remaining_due, skip_due, window_due, window_outcome}
use Rattle.bits.specs.declared.error.BitReaderError.{BitReaderError}
use Rattle.bits.specs.declared.error.BitReaderError.TheVariants.{EndOfStream, OutOfRange}
use Rattle.std.specs.Prelude.{Err, Ok, Result}
use Rattle.bits.specs.declared.cursor.Cursor.{Cursor}

module _ (d : List ℕ) (at : ℕ) where
  pub remaining_due_lem : count_outcome (remaining d at) ≡ remaining_due d at
  remaining_due_lem = one_test count_outcome (in_data (length d) at) _ _

  pub skip_due_lem : (n : ℕ) → moved_outcome (skipped d at n) ≡ skip_due d at n
  skip_due_lem n = two_tests moved_outcome (in_data (length d) at) (leb n (length (bits_from d at))) _ _ _

  pub align_due_lem : moved_outcome (aligned d at) ≡ align_due d at
  align_due_lem = one_test moved_outcome (in_data (length d) at) _ _

  pub read_due_lem : (n : ℕ) → bits_outcome (read_bits d at n) ≡ read_due d at n
  unfolding read_bits
  read_due_lem n = three_tests bits_outcome (in_data (length d) at) (leb n 32) (leb n (length (bits_from d at))) _ _ _

  pub bool_due_lem : bool_outcome (read_bool d at) ≡ bool_due d at
  unfolding read_bits
  bool_due_lem = three_tests (λ (r : Result (ℕ × Cursor) BitReaderError). bool_outcome (bool_of r)) (in_data (length d) at) (leb 1 32) (leb 1 (length (bits_from d at))) _ _ _

  pub peek_due_lem : (n : ℕ) → peeked_outcome (next_bits d at n) ≡ peek_due d at n
  unfolding read_bits
  peek_due_lem n = three_tests (λ (r : Result (ℕ × Cursor) BitReaderError). peeked_outcome (peeked_of r)) (in_data (length d) at) (leb n 32) (leb n (length (bits_from d at))) _ _ _

  pub window_due_lem : (most : ℕ) → window_outcome (next_window d at most) ≡ window_due d at most
  unfolding next_window
  window_due_lem most =
      three_tests window_outcome (in_data (length d) at) (leb most 32) (eqb (length (bits_from d at)) 0) (Err EndOfStream)
      (Ok (val (take most (bits_from d at)), length (take most (bits_from d at)))) (Err OutOfRange)
      ∙ turned (in_data (length d) at) (leb most 32) (eqb (length (bits_from d at)) 0) _
    where
      turned : (s u t : Bool) → (x : Outcome (ℕ × ℕ)) → cond s (cond u (cond t (refused 1 0) x) (refused 11 0)) (refused 11 0) ≡ cond s (cond u (cond (not t) x (refused 1 0)) (refused 11 0)) (refused 11 0)
      turned true true true x = refl
      turned true true false x = refl
      turned true false t x = refl
      turned false u t x = refl

-- ---- the numbers tell the answers apart

abbrev error_by : ℕ → BitReaderError
error_by n = cond (eqb n 1) EndOfStream OutOfRange

error_by_lem : (e : BitReaderError) → e ≡ error_by (number_of e)
error_by_lem EndOfStream = refl
error_by_lem OutOfRange = refl

pub number-apart : (e f : BitReaderError) → number_of e ≡ number_of f → e ≡ f
number-apart e f h = error_by_lem e ∙ ap error_by h ∙ sym (error_by_lem f)

-- an answer out of its outcome
abbrev answer_by : {A R : Type 0} → (A → R) → (BitReaderError → R) → Outcome A → R
answer_by took fails (accepted a) = took a
answer_by took fails (refused n f) = fails (error_by n)

abbrev bits_by : Outcome (ℕ × ℕ) → Result (ℕ × Cursor) BitReaderError
bits_by = answer_by (λ (p : ℕ × ℕ). Ok (p.0, cursor_at p.1)) Err

bits_by_lem : (r : Result (ℕ × Cursor) BitReaderError) → r ≡ bits_by (bits_outcome r)
bits_by_lem (Ok (v, c)) = refl
bits_by_lem (Err e) = ap Err (error_by_lem e)

pub bits-apart : (r s : Result (ℕ × Cursor) BitReaderError) → bits_outcome r ≡ bits_outcome s → r ≡ s
bits-apart r s h = bits_by_lem r ∙ ap bits_by h ∙ sym (bits_by_lem s)

abbrev bool_by : Outcome (Bool × ℕ) → Result (Bool × Cursor) BitReaderError
bool_by = answer_by (λ (p : Bool × ℕ). Ok (p.0, cursor_at p.1)) Err

bool_by_lem : (r : Result (Bool × Cursor) BitReaderError) → r ≡ bool_by (bool_outcome r)
bool_by_lem (Ok (b, c)) = refl
bool_by_lem (Err e) = ap Err (error_by_lem e)

pub bool_apart : (r s : Result (Bool × Cursor) BitReaderError) → bool_outcome r ≡ bool_outcome s → r ≡ s
bool_apart r s h = bool_by_lem r ∙ ap bool_by h ∙ sym (bool_by_lem s)

abbrev peeked_by : Outcome ℕ → Result ℕ BitReaderError
peeked_by = answer_by Ok Err

peeked_by_lem : (r : Result ℕ BitReaderError) → r ≡ peeked_by (peeked_outcome r)
peeked_by_lem (Ok v) = refl
peeked_by_lem (Err e) = ap Err (error_by_lem e)

pub peeked_apart : (r s : Result ℕ BitReaderError) → peeked_outcome r ≡ peeked_outcome s → r ≡ s
peeked_apart r s h = peeked_by_lem r ∙ ap peeked_by h ∙ sym (peeked_by_lem s)

abbrev window_by : Outcome (ℕ × ℕ) → Result (ℕ × ℕ) BitReaderError
window_by = answer_by (λ (p : ℕ × ℕ). Ok (p.0, p.1)) Err

window_by_lem : (r : Result (ℕ × ℕ) BitReaderError) → r ≡ window_by (window_outcome r)
window_by_lem (Ok (v, n)) = refl
window_by_lem (Err e) = ap Err (error_by_lem e)

pub window-apart : (r s : Result (ℕ × ℕ) BitReaderError) → window_outcome r ≡ window_outcome s → r ≡ s
window-apart r s h = window_by_lem r ∙ ap window_by h ∙ sym (window_by_lem s)

abbrev moved_by : Outcome ℕ → Result Cursor BitReaderError
moved_by = answer_by (λ (n : ℕ). Ok (cursor_at n)) Err

moved_by_lem : (r : Result Cursor BitReaderError) → r ≡ moved_by (moved_outcome r)
moved_by_lem (Ok c) = refl
moved_by_lem (Err e) = ap Err (error_by_lem e)

pub moved_apart : (r s : Result Cursor BitReaderError) → moved_outcome r ≡ moved_outcome s → r ≡ s
moved_apart r s h = moved_by_lem r ∙ ap moved_by h ∙ sym (moved_by_lem s)

abbrev count_by : Outcome ℕ → Result ℕ BitReaderError
count_by = answer_by Ok Err

count_by_lem : (r : Result ℕ BitReaderError) → r ≡ count_by (count_outcome r)
count_by_lem (Ok n) = refl
count_by_lem (Err e) = ap Err (error_by_lem e)

pub count_apart : (r s : Result ℕ BitReaderError) → count_outcome r ≡ count_outcome s → r ≡ s
count_apart r s h = count_by_lem r ∙ ap count_by h ∙ sym (count_by_lem s)
