-- The outcome of a header tells its answer. Assumes nothing.
use mathlib.Core.List.{List, [], ◌∷◌}
use mathlib.Core.Path.{◌≡◌, refl}
use Prim.Native.Nat.{ℕ}
use lib.ListN.{length}
use Rattle.bits.specs.Bits.{bits_from}
use Rattle.bits.specs.Cursor.{cursor_at, in_data}
use Rattle.ranges.specs.Range.{quantiser_fine}
use Rattle.assembly.proofs.Apart.{Told, after-told, answers-apart, fine, first_told, read_told, taken}
use Rattle.assembly.specs.declared.error.BlockAssemblyError.TheVariants.{Context, OutOfRange}
use Rattle.headers.proofs.HeaderLaws.{header_by_bits}
use Rattle.headers.specs.Answer.{answer_by, header_answer, header_state, header_told}
use Rattle.headers.specs.Fields.{header_check, header_tests}
use Rattle.headers.specs.HeaderReader.{read_header}
use Rattle.headers.specs.Outcomes.{header_read_outcome}
use Rattle.headers.specs.declared.header.MacroblockHeader.{MacroblockHeader}
use Rattle.headers.specs.declared.parse.HeaderFields.{HeaderFields}
use Rattle.std.specs.Prelude.{Err, Ok, Result, ⊤}
use Rattle.assembly.specs.declared.error.BlockAssemblyError.{BlockAssemblyError}
use Rattle.bits.specs.declared.cursor.Cursor.{Cursor}

pub header-told : (h : MacroblockHeader) → Told fine Err (header_check h)
header-told h = first_told (header_tests h) (tt, (tt, tt))

abbrev pub read : HeaderFields × ℕ → Result (HeaderFields × Cursor) BlockAssemblyError
read a = Ok (a.0, cursor_at a.1)

pub header-read-apart : (r s : Result (HeaderFields × Cursor) BlockAssemblyError) → Told read Err r → Told read Err s → header_read_outcome r ≡ header_read_outcome s → r ≡ s
header-read-apart = answers-apart read Err header_read_outcome (λ a. refl) (λ e. refl)

pub header-read-told : (d : List ℕ) (at q : ℕ) → Told read Err (header_answer d at q)
unfolding header_answer header_state
header-read-told d at q =
    after-told read Err (λ (k : Result ⊤ BlockAssemblyError). answer_by k (header_told d q (read_header (bits_from d at)))) (λ e. refl)
    (read_told read Err (header_told d q) (λ h r. taken (_, _) refl) (λ e. refl) (read_header (bits_from d at)) (header_by_bits (bits_from d at)))
    (header_state d at q) (first_told ((in_data (length d) at, OutOfRange) ∷ (quantiser_fine q, Context) ∷ []) (tt, (tt, tt)))
