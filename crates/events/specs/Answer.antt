-- The public answers to an event and to its parts: what the reader makes of the bits, with the cursor after them, or its refusal. Definitions only.
use Rattle.std.specs.Prelude.{Bool, cond, List, ℕ, length, Err, Ok, Result}
use Rattle.bits.specs.Bits.{bits_from}
use Rattle.bits.specs.Cursor.{in_data}
use Rattle.codes.specs.declared.tcoef_tables.TcoefTable.{TcoefTable}
use Rattle.events.specs.Event.{value_of}
use Rattle.events.specs.EventReader.{event, fixed, rvlc_escaped}
use Rattle.events.specs.Rows.{row_of}
use Rattle.events.specs.declared.event.AcEvent.{AcEvent}
use Rattle.events.specs.declared.event.RowForm.{RowForm}
use Rattle.fields.specs.Answer.{after}
use Rattle.fields.specs.Reader.{Res, ok, no, bind, field, mapped}
use Rattle.fields.specs.declared.error.TextureParseError.TheVariants.{OutOfRange}
use Rattle.bits.specs.declared.cursor.Cursor.{Cursor}
use Rattle.fields.specs.declared.error.TextureParseError.{TextureParseError}

abbrev pub event_told : List ℕ → Res AcEvent → Result (AcEvent × Cursor) TextureParseError
event_told d (ok v r) = Ok (v, after d r)
event_told d (no e) = Err e

abbrev pub event_answer : List ℕ → ℕ → Bool → TcoefTable → Result (AcEvent × Cursor) TextureParseError
event_answer d at rev t = cond (in_data (length d) at) (event_told d (mapped (value_of t) (event rev (bits_from d at)))) (Err OutOfRange)

-- ---- parts of events

-- the sign after row i of lent columns
abbrev pub sign_answer : List ℕ → ℕ → List ℕ → RowForm → ℕ → Result (AcEvent × Cursor) TextureParseError
sign_answer d at es k i = cond (in_data (length d) at) (event_told d (bind (field 1 (bits_from d at)) (λ s r. ok (row_of es k i s) r))) (Err OutOfRange)

-- a type 3 escape after its mode, and a reversible one after its code
abbrev pub fixed_answer : List ℕ → ℕ → TcoefTable → Result (AcEvent × Cursor) TextureParseError
fixed_answer d at t = cond (in_data (length d) at) (event_told d (mapped (value_of t) (fixed (bits_from d at)))) (Err OutOfRange)

abbrev pub rvlc_escape_answer : List ℕ → ℕ → TcoefTable → Result (AcEvent × Cursor) TextureParseError
rvlc_escape_answer d at t = cond (in_data (length d) at) (event_told d (mapped (value_of t) (rvlc_escaped (bits_from d at)))) (Err OutOfRange)
