-- The answers to an event and to its parts by number are what is due. Assumes nothing.
use mathlib.Core.Bool.{Bool, cond}
use mathlib.Core.List.{List, [], ◌∷◌}
use mathlib.Core.Path.{◌≡◌, refl}
use Prim.Native.Nat.{ℕ}
use lib.IntN.{ℤ}
use lib.ListN.{length}
use Rattle.bits.specs.Bits.{bits_from}
use Rattle.bits.specs.Cursor.{in_data}
use Rattle.codes.specs.declared.tcoef_tables.TcoefTable.{TcoefTable}
use Rattle.events.specs.Answer.{event_answer, event_told, fixed_answer, rvlc_escape_answer, sign_answer}
use Rattle.events.specs.Event.{Event, value_of}
use Rattle.events.specs.EventReader.{event, fixed, rvlc_escaped}
use Rattle.events.specs.Outcomes.{event_due, event_outcome, event_said, fixed_due, row_said, rvlc_escape_due, sign_due}
use Rattle.events.specs.Rows.{row_of}
use Rattle.events.specs.declared.event.AcEvent.{AcEvent}
use Rattle.events.specs.declared.event.RowForm.{RowForm}
use Rattle.events.specs.declared.spelling.Spelling.{Spelling}
use Rattle.fields.proofs.OutcomeLaws.{after_test}
use Rattle.fields.specs.Outcomes.{read_as}
use Rattle.fields.specs.Reader.{Res, bind, field, mapped, no, ok}
use Rattle.fields.specs.declared.error.TextureParseError.TheVariants.{OutOfRange}
use Rattle.numbers.specs.Outcome.{Outcome, checked}
use Rattle.std.specs.Prelude.{Err, Result}
use Rattle.bits.specs.declared.cursor.Cursor.{Cursor}
use Rattle.fields.specs.declared.error.TextureParseError.{TextureParseError}

module _ (d : List ℕ) where
  event-said : (t : TcoefTable) (m : Res Event) → event_outcome (event_told d (mapped (value_of t) m)) ≡ read_as (event_said t) d m
  event-said t (ok e r) = refl
  event-said t (no e) = refl

  row-said : (f : ℕ → AcEvent) (m : Res ℕ) → event_outcome (event_told d (bind m (λ s r. ok (f s) r))) ≡ read_as (λ s position. row_said (f s) position) d m
  row-said f (ok s r) = refl
  row-said f (no e) = refl

  module _ (at : ℕ) where
    due : {o : Outcome ((Bool × (ℕ × (ℤ × Spelling))) × ℕ)} (r : Result (AcEvent × Cursor) TextureParseError) → event_outcome r ≡ o → event_outcome (cond (in_data (length d) at) r (Err OutOfRange)) ≡ checked ((in_data (length d) at, 11) ∷ []) o
    due r h = after_test event_outcome Err (λ e. refl) (in_data (length d) at) r h

    pub event_due_lem : (rev : Bool) (t : TcoefTable) → event_outcome (event_answer d at rev t) ≡ event_due d at rev t
    event_due_lem rev t = due _ (event-said t (event rev (bits_from d at)))

    pub sign_due_lem : (es : List ℕ) (k : RowForm) (i : ℕ) → event_outcome (sign_answer d at es k i) ≡ sign_due d at es k i
    sign_due_lem es k i = due _ (row-said (row_of es k i) (field 1 (bits_from d at)))

    pub fixed_due_lem : (t : TcoefTable) → event_outcome (fixed_answer d at t) ≡ fixed_due d at t
    fixed_due_lem t = due _ (event-said t (fixed (bits_from d at)))

    pub rvlc_escape_due_lem : (t : TcoefTable) → event_outcome (rvlc_escape_answer d at t) ≡ rvlc_escape_due d at t
    rvlc_escape_due_lem t = due _ (event-said t (rvlc_escaped (bits_from d at)))
