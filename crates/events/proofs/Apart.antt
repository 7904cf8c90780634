-- The outcome of an event tells its answer. Assumes nothing.
use mathlib.Core.Bool.{Bool}
use mathlib.Core.Path.{◌≡◌, ap, refl, sym, ◌∙◌}
use Prim.Native.Nat.{ℕ}
use lib.IntN.{ℤ}
use Rattle.bits.specs.Cursor.{cursor_at}
use Rattle.events.specs.Outcomes.{event_outcome}
use Rattle.events.specs.declared.spelling.Spelling.{Spelling}
use Rattle.fields.proofs.Apart.{answer_by, error_by_lem}
use Rattle.numbers.specs.Outcome.{Outcome}
use Rattle.std.specs.Prelude.{Err, Ok, Result}
use Rattle.events.specs.declared.event.AcEvent.{AcEvent}
use Rattle.bits.specs.declared.cursor.Cursor.{Cursor}
use Rattle.fields.specs.declared.error.TextureParseError.{TextureParseError}

abbrev event_by : Outcome ((Bool × (ℕ × (ℤ × Spelling))) × ℕ) → Result (AcEvent × Cursor) TextureParseError
event_by = answer_by (λ (p : (Bool × (ℕ × (ℤ × Spelling))) × ℕ). Ok (record { last = p.0.0; run = p.0.1.0; level = p.0.1.1.0; spelling = p.0.1.1.1 }, cursor_at p.1)) Err

event_by_lem : (r : Result (AcEvent × Cursor) TextureParseError) → r ≡ event_by (event_outcome r)
event_by_lem (Ok (v, c)) = refl
event_by_lem (Err e) = ap Err (error_by_lem e)

pub event-apart : (r s : Result (AcEvent × Cursor) TextureParseError) → event_outcome r ≡ event_outcome s → r ≡ s
event-apart r s h = event_by_lem r ∙ ap event_by h ∙ sym (event_by_lem s)
