-- What the answer to a DC part says in document 01's numbers, and what is due. Definitions only.
use Rattle.std.specs.Prelude.{List, [], ◌∷◌, ℕ, ℤ, length, Err, Ok, Result}
use Rattle.bits.specs.Bits.{bits_from}
use Rattle.bits.specs.Cursor.{in_data}
use Rattle.codes.specs.declared.dc_size.DcComponent.{DcComponent}
use Rattle.dc_parts.specs.Dc.{Dc, dc, difference_of, size_at}
use Rattle.dc_parts.specs.DcReader.{read_dc}
use Rattle.fields.specs.Outcomes.{read_as}
use Rattle.fields.specs.Refusal.{figure_of, number_of}
use Rattle.numbers.specs.Outcome.{Outcome, accepted, checked, refused}
use Rattle.dc_parts.specs.declared.dc.IntraDcDifferential.{IntraDcDifferential}
use Rattle.bits.specs.declared.cursor.Cursor.{Cursor}
use Rattle.fields.specs.declared.error.TextureParseError.{TextureParseError}

-- size and difference, and the position after them
abbrev pub dc_outcome : Result (IntraDcDifferential × Cursor) TextureParseError → Outcome ((ℕ × ℤ) × ℕ)
dc_outcome (Ok (v, c)) = accepted ((v.size, v.differential), c.bit_pos)
dc_outcome (Err e) = refused (number_of e) (figure_of e)

abbrev pub dc_said : DcComponent → Dc → ℕ → (ℕ × ℤ) × ℕ
dc_said c (dc i a) position = ((size_at c i, difference_of c (dc i a)), position)

-- of data d at a position: 11, then what is read there
module _ (d : List ℕ) (at : ℕ) where
  abbrev pub dc_due : DcComponent → Outcome ((ℕ × ℤ) × ℕ)
  dc_due c = checked ((in_data (length d) at, 11) ∷ []) (read_as (dc_said c) d (read_dc c (bits_from d at)))
