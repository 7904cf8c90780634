-- What the answers to an event and to its parts say in document 01's numbers, and what is due. Definitions only.
use Rattle.std.specs.Prelude.{Bool, List, [], ◌∷◌, ℕ, ℤ, length, Err, Ok, Result}
use Rattle.bits.specs.Bits.{bits_from}
use Rattle.bits.specs.Cursor.{in_data}
use Rattle.codes.specs.declared.tcoef_tables.TcoefTable.{TcoefTable}
use Rattle.events.specs.Event.{Event, last_of, level_of, run_of, spelling_of}
use Rattle.events.specs.EventReader.{event, fixed, rvlc_escaped}
use Rattle.events.specs.Rows.{row_of}
use Rattle.events.specs.declared.event.AcEvent.{AcEvent}
use Rattle.events.specs.declared.event.RowForm.{RowForm}
use Rattle.events.specs.declared.spelling.Spelling.{Spelling}
use Rattle.fields.specs.Outcomes.{read_as}
use Rattle.fields.specs.Reader.{field}
use Rattle.fields.specs.Refusal.{figure_of, number_of}
use Rattle.numbers.specs.Outcome.{Outcome, accepted, checked, refused}
use Rattle.bits.specs.declared.cursor.Cursor.{Cursor}
use Rattle.fields.specs.declared.error.TextureParseError.{TextureParseError}

-- last, run, level and spelling, and the position after them
abbrev pub event_outcome : Result (AcEvent × Cursor) TextureParseError → Outcome ((Bool × (ℕ × (ℤ × Spelling))) × ℕ)
event_outcome (Ok (v, c)) = accepted ((v.last, (v.run, (v.level, v.spelling))), c.bit_pos)
event_outcome (Err e) = refused (number_of e) (figure_of e)

abbrev pub event_said : TcoefTable → Event → ℕ → (Bool × (ℕ × (ℤ × Spelling))) × ℕ
event_said t e position = ((last_of t e, (run_of t e, (level_of t e, spelling_of e))), position)

-- the same of a row of lent columns
abbrev pub row_said : AcEvent → ℕ → (Bool × (ℕ × (ℤ × Spelling))) × ℕ
row_said v position = ((v.last, (v.run, (v.level, v.spelling))), position)

-- of data d at a position: 11, then what is read there
module _ (d : List ℕ) (at : ℕ) where
  abbrev pub event_due : Bool → TcoefTable → Outcome ((Bool × (ℕ × (ℤ × Spelling))) × ℕ)
  event_due rev t = checked ((in_data (length d) at, 11) ∷ []) (read_as (event_said t) d (event rev (bits_from d at)))

  abbrev pub sign_due : List ℕ → RowForm → ℕ → Outcome ((Bool × (ℕ × (ℤ × Spelling))) × ℕ)
  sign_due es k i = checked ((in_data (length d) at, 11) ∷ []) (read_as (λ s position. row_said (row_of es k i s) position) d (field 1 (bits_from d at)))

  abbrev pub fixed_due : TcoefTable → Outcome ((Bool × (ℕ × (ℤ × Spelling))) × ℕ)
  fixed_due t = checked ((in_data (length d) at, 11) ∷ []) (read_as (event_said t) d (fixed (bits_from d at)))

  abbrev pub rvlc_escape_due : TcoefTable → Outcome ((Bool × (ℕ × (ℤ × Spelling))) × ℕ)
  rvlc_escape_due t = checked ((in_data (length d) at, 11) ∷ []) (read_as (event_said t) d (rvlc_escaped (bits_from d at)))
