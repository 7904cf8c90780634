-- The public answer to a DC part: what the reader makes of the bits, with the cursor after them, or its refusal. Definitions only.
use Rattle.std.specs.Prelude.{cond, List, ℕ, length, Err, Ok, Result}
use Rattle.bits.specs.Bits.{bits_from}
use Rattle.bits.specs.Cursor.{in_data}
use Rattle.codes.specs.declared.dc_size.DcComponent.{DcComponent}
use Rattle.dc_parts.specs.Dc.{Dc, dc, size_at, difference_of}
use Rattle.dc_parts.specs.DcReader.{read_dc}
use Rattle.dc_parts.specs.declared.dc.IntraDcDifferential.{IntraDcDifferential}
use Rattle.fields.specs.Answer.{after}
use Rattle.fields.specs.Reader.{Res, ok, no, mapped}
use Rattle.fields.specs.declared.error.TextureParseError.TheVariants.{OutOfRange}
use Rattle.bits.specs.declared.cursor.Cursor.{Cursor}
use Rattle.fields.specs.declared.error.TextureParseError.{TextureParseError}

-- a DC part: its size and its difference
abbrev pub dc_value : DcComponent → Dc → IntraDcDifferential
dc_value c (dc i a) = record { size = size_at c i; differential = difference_of c (dc i a) }

abbrev pub dc_told : List ℕ → Res IntraDcDifferential → Result (IntraDcDifferential × Cursor) TextureParseError
dc_told d (ok v r) = Ok (v, after d r)
dc_told d (no e) = Err e

abbrev pub dc_answer : List ℕ → ℕ → DcComponent → Result (IntraDcDifferential × Cursor) TextureParseError
dc_answer d at c = cond (in_data (length d) at) (dc_told d (mapped (dc_value c) (read_dc c (bits_from d at)))) (Err OutOfRange)
