-- What each of the cursor's answers says in document 01's numbers, and what is due. Definitions only.
use Rattle.std.specs.Prelude.{Bool, not, List, [], ◌∷◌, ℕ, ◌*◌, ◌+◌, ◌/◌, eqb, leb, length, take, Err, Ok, Result}
use Rattle.numbers.specs.Outcome.{Outcome, accepted, checked, refused}
use Rattle.bits.specs.Bits.{bits_from, val}
use Rattle.bits.specs.Cursor.{in_data, number_of}
use Rattle.bits.specs.declared.error.BitReaderError.{BitReaderError}
use Rattle.bits.specs.declared.cursor.Cursor.{Cursor}

-- ---- the answers: values, with the position after them where the cursor moves

abbrev pub bits_outcome : Result (ℕ × Cursor) BitReaderError → Outcome (ℕ × ℕ)
bits_outcome (Ok (v, c)) = accepted (v, c.bit_pos)
bits_outcome (Err e) = refused (number_of e) 0

abbrev pub bool_outcome : Result (Bool × Cursor) BitReaderError → Outcome (Bool × ℕ)
bool_outcome (Ok (b, c)) = accepted (b, c.bit_pos)
bool_outcome (Err e) = refused (number_of e) 0

abbrev pub peeked_outcome : Result ℕ BitReaderError → Outcome ℕ
peeked_outcome (Ok v) = accepted v
peeked_outcome (Err e) = refused (number_of e) 0

-- the number of a window's bits, and how many they are
abbrev pub window_outcome : Result (ℕ × ℕ) BitReaderError → Outcome (ℕ × ℕ)
window_outcome (Ok (v, n)) = accepted (v, n)
window_outcome (Err e) = refused (number_of e) 0

abbrev pub moved_outcome : Result Cursor BitReaderError → Outcome ℕ
moved_outcome (Ok c) = accepted c.bit_pos
moved_outcome (Err e) = refused (number_of e) 0

abbrev pub count_outcome : Result ℕ BitReaderError → Outcome ℕ
count_outcome (Ok n) = accepted n
count_outcome (Err e) = refused (number_of e) 0

-- ---- what is due, of data d at a position

module _ (d : List ℕ) (at : ℕ) where
  abbrev pub remaining_due : Outcome ℕ
  remaining_due = checked ((in_data (length d) at, 11) ∷ []) (accepted (length (bits_from d at)))

  abbrev pub skip_due : ℕ → Outcome ℕ
  skip_due n = checked ((in_data (length d) at, 11) ∷ (leb n (length (bits_from d at)), 1) ∷ []) (accepted (at + n))

  abbrev pub align_due : Outcome ℕ
  align_due = checked ((in_data (length d) at, 11) ∷ []) (accepted ((at + 7) / 8 * 8))

  -- at most 32 bits at once
  abbrev pub read_tests : ℕ → List (Bool × ℕ)
  read_tests n = (in_data (length d) at, 11) ∷ (leb n 32, 11) ∷ (leb n (length (bits_from d at)), 1) ∷ []

  abbrev pub read_due : ℕ → Outcome (ℕ × ℕ)
  read_due n = checked (read_tests n) (accepted (val (take n (bits_from d at)), at + n))

  abbrev pub bool_due : Outcome (Bool × ℕ)
  bool_due = checked (read_tests 1) (accepted (eqb (val (take 1 (bits_from d at))) 1, at + 1))

  abbrev pub peek_due : ℕ → Outcome ℕ
  peek_due n = checked (read_tests n) (accepted (val (take n (bits_from d at))))

  -- fewer bits than asked for are a window too, none are not
  abbrev pub window_due : ℕ → Outcome (ℕ × ℕ)
  window_due most =
      checked ((in_data (length d) at, 11) ∷ (leb most 32, 11) ∷ (not (eqb (length (bits_from d at)) 0), 1) ∷ [])
      (accepted (val (take most (bits_from d at)), length (take most (bits_from d at))))
