-- The reader of an event list: the events through the one with last, and then 8 with the first bad landing. Definitions only.
use Rattle.std.specs.Prelude.{Bool, cond, ℕ, zero, suc, ◌+◌, ltb, eqb, length}
use Rattle.bits.specs.Bits.{Bits}
use Rattle.codes.specs.declared.tcoef_tables.TcoefTable.{TcoefTable}
use Rattle.events.specs.Event.{last_of, run_of}
use Rattle.events.specs.EventReader.{event}
use Rattle.fields.specs.Reader.{Res, ok, no, bind}
use Rattle.fields.specs.declared.error.TextureParseError.TheVariants.{Truncated, Overflow}
use Rattle.texture.specs.Events.{Events, final, more}

-- the events through the one with last; the fuel is the number of bits, of which each event takes one at least
unfoldable pub events_in : Bool → TcoefTable → ℕ → Bits → Res Events
events_in rev t zero b = no Truncated
events_in rev t (suc n) b =
    bind (event rev b) (λ e r. cond (last_of t e) (ok (final e) r) (bind (events_in rev t n r) (λ es r. ok (more e es) r)))

-- the first landing that is 64 or more, or 0
unfoldable pub bad : TcoefTable → ℕ → Events → ℕ
bad t place (final e) = cond (ltb (place + run_of t e) 64) 0 (place + run_of t e)
bad t place (more e es) = cond (ltb (place + run_of t e) 64) (bad t (place + run_of t e + 1) es) (place + run_of t e)

-- the list of one block: 8 with the first bad landing, once the list is read through
unfoldable pub list : Bool → TcoefTable → ℕ → Bits → Res Events
list rev t place b =
    bind (events_in rev t (length b) b) (λ es r. cond (eqb (bad t place es) 0) (ok es r) (no (Overflow (bad t place es))))
