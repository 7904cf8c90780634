-- What is answered of a header: the tests of the state, then what the reader makes of the bits, with the cursor after them. Definitions only.
use Rattle.std.specs.Prelude.{List, [], ◌∷◌, ℕ, length, Err, Ok, Result, ⊤}
use Rattle.bits.specs.Bits.{bits_from}
use Rattle.bits.specs.Cursor.{in_data}
use Rattle.fields.specs.Answer.{after}
use Rattle.fields.specs.Reader.{Res, no, ok}
use Rattle.ranges.specs.Range.{quantiser_fine}
use Rattle.assembly.specs.Answer.{first_bad}
use Rattle.assembly.specs.declared.error.BlockAssemblyError.TheVariants.{Context, OutOfRange, Texture}
use Rattle.headers.specs.Fields.{fields_of}
use Rattle.headers.specs.Header.{Header}
use Rattle.headers.specs.HeaderReader.{read_header}
use Rattle.assembly.specs.declared.error.BlockAssemblyError.{BlockAssemblyError}
use Rattle.headers.specs.declared.parse.HeaderFields.{HeaderFields}
use Rattle.bits.specs.declared.cursor.Cursor.{Cursor}

-- before any bit: 11, then 12 of the quantiser before the change
unfoldable pub header_state : List ℕ → ℕ → ℕ → Result ⊤ BlockAssemblyError
header_state d at q = first_bad ((in_data (length d) at, OutOfRange) ∷ (quantiser_fine q, Context) ∷ [])

abbrev pub header_told : List ℕ → ℕ → Res Header → Result (HeaderFields × Cursor) BlockAssemblyError
header_told d q (ok h r) = Ok (fields_of q h, after d r)
header_told d q (no e) = Err (Texture e)

abbrev pub answer_by : Result ⊤ BlockAssemblyError → Result (HeaderFields × Cursor) BlockAssemblyError → Result (HeaderFields × Cursor) BlockAssemblyError
answer_by (Ok tt) a = a
answer_by (Err e) a = Err e

unfoldable pub header_answer : List ℕ → ℕ → ℕ → Result (HeaderFields × Cursor) BlockAssemblyError
header_answer d at q = answer_by (header_state d at q) (header_told d q (read_header (bits_from d at)))
