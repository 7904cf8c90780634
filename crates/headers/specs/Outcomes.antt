-- What the check and the reading of a header say in document 01's numbers, and what is due. Definitions only.
use Rattle.std.specs.Prelude.{Bool, not, List, [], ◌∷◌, ℕ, length, Err, Ok, Result}
use Rattle.bits.specs.Bits.{bits_from}
use Rattle.bits.specs.Cursor.{in_data}
use Rattle.numbers.specs.Outcome.{Outcome, accepted, checked, done, refused}
use Rattle.ranges.specs.Range.{quantiser_fine}
use Rattle.fields.specs.Outcomes.{read_as}
use Rattle.assembly.specs.Answer.{figure_of, number_of}
use Rattle.headers.specs.Fields.{fields_of, is_intra}
use Rattle.headers.specs.Header.{Header}
use Rattle.headers.specs.HeaderReader.{read_header}
use Rattle.headers.specs.declared.header.MacroblockHeader.{MacroblockHeader}
use Rattle.headers.specs.declared.parse.HeaderFields.{HeaderFields}
use Rattle.bits.specs.declared.cursor.Cursor.{Cursor}
use Rattle.assembly.specs.declared.error.BlockAssemblyError.{BlockAssemblyError}

-- ---- the check of a header record: 9, then 10

abbrev pub header_numbers : MacroblockHeader → List (Bool × ℕ)
header_numbers h = (not h.not_coded, 9) ∷ (is_intra h.mb_type, 10) ∷ []

abbrev pub header_due : MacroblockHeader → Outcome (Unit {0})
header_due h = checked (header_numbers h) done

-- ---- a header out of bits: 11, 12, then what is read

-- its fields, and the position after it
abbrev pub header_read_outcome : Result (HeaderFields × Cursor) BlockAssemblyError → Outcome (HeaderFields × ℕ)
header_read_outcome (Ok (f, c)) = accepted (f, c.bit_pos)
header_read_outcome (Err e) = refused (number_of e) (figure_of e)

abbrev pub header_said : ℕ → Header → ℕ → HeaderFields × ℕ
header_said q h position = (fields_of q h, position)

abbrev pub header_read_due : List ℕ → ℕ → ℕ → Outcome (HeaderFields × ℕ)
header_read_due d at q = checked ((in_data (length d) at, 11) ∷ (quantiser_fine q, 12) ∷ []) (read_as (header_said q) d (read_header (bits_from d at)))
