-- What the answers to a field, a marker and a code say in document 01's numbers, and what is due. Definitions only.
use Rattle.std.specs.Prelude.{cond, not, List, [], ◌∷◌, ◌≡◌, ℕ, ◌+◌, eqb, leb, ltb, get_or, length, take, Err, Ok, Result}
use Rattle.bits.specs.Bits.{bits_from}
use Rattle.bits.specs.Cursor.{in_data}
use Rattle.fields.specs.Answer.{FoundAt, after, rows_of}
use Rattle.fields.specs.Reader.{Res, field, marker, no, no_code, ok}
use Rattle.fields.specs.Refusal.{figure_of, number_of}
use Rattle.fields.specs.declared.error.TextureParseError.{TextureParseError}
use Rattle.numbers.specs.Outcome.{Outcome, accepted, checked, refused}
use Rattle.bits.specs.declared.cursor.Cursor.{Cursor}

-- a number, and the position after it
abbrev pub got_outcome : Result (ℕ × Cursor) TextureParseError → Outcome (ℕ × ℕ)
got_outcome (Ok (v, c)) = accepted (v, c.bit_pos)
got_outcome (Err e) = refused (number_of e) (figure_of e)

-- of what the reader makes of the bits: what f says of it and the position after it, or its refusal's number and figure
abbrev pub read_as : {A B : Type 0} → (A → ℕ → B) → List ℕ → Res A → Outcome B
read_as f d (ok a r) = accepted (f a (after d r).bit_pos)
read_as f d (no e) = refused (number_of e) (figure_of e)

abbrev pub number_said : ℕ → ℕ → ℕ × ℕ
number_said v position = (v, position)

-- of data d at a position: 11, then what is read there
module _ (d : List ℕ) (at : ℕ) where
  abbrev pub field_due : ℕ → Outcome (ℕ × ℕ)
  field_due n = checked ((in_data (length d) at, 11) ∷ (leb n 32, 11) ∷ []) (read_as number_said d (field n (bits_from d at)))

  abbrev pub marker_due : TextureParseError → Outcome (ℕ × ℕ)
  marker_due missing = checked ((in_data (length d) at, 11) ∷ []) (read_as number_said d (marker missing (bits_from d at)))

  -- of a code: a window of at most 32 bits, of which there is one at least, and the row that was found among n
  abbrev pub row_due : List ℕ → List ℕ → ℕ → ℕ → (ℕ → TextureParseError) → ℕ → Outcome (ℕ × ℕ)
  row_due cs ls width n err i =
      checked ((in_data (length d) at, 11) ∷ (leb width 32, 11) ∷ (not (eqb (length (bits_from d at)) 0), 1) ∷ [])
      (cond (ltb i n) (accepted (i, at + get_or ls i 0)) (refused (number_of (no_code cs ls width n err (take width (bits_from d at)))) (figure_of (no_code cs ls width n err (take width (bits_from d at))))))

  abbrev pub CodeDue : List ℕ → List ℕ → ℕ → ℕ → (ℕ → TextureParseError) → Outcome (ℕ × ℕ) → Type 0
  CodeDue cs ls width rows err o = (i : ℕ) × (FoundAt d at cs ls width rows i × (o ≡ row_due cs ls width (rows_of cs ls rows) err i))
