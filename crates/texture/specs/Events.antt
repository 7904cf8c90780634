-- Event lists: events without last, then one with it, each landing below 64. No reader is named here. Definitions only.
use Rattle.std.specs.Prelude.{◌≡◌, Bool, true, false, cond, List, [], ◌∷◌, ℕ, ◌+◌, ◌<◌}
use Rattle.bits.specs.Bits.{Bits}
use Rattle.codes.specs.declared.tcoef_tables.TcoefTable.{TcoefTable}
use Rattle.events.specs.Event.{Event, ◌▸◌, event_bits, GoodEvent, last_of, run_of}

pub data Events : Type 0 where
  final : Event → Events
  more : Event → Events → Events

-- its events, one after the other
unfoldable pub listed : Events → List Event
listed (final e) = e ∷ []
listed (more e es) = e ∷ listed es

unfoldable pub events_bits : Events → Bits
events_bits (final e) = event_bits e
events_bits (more e es) = event_bits e ▸ events_bits es

-- every event is good, the first with last 1 ends the list
unfoldable pub GoodEvents : Bool → TcoefTable → Events → Type 0
GoodEvents rev t (final e) = GoodEvent rev e × (last_of t e ≡ true)
GoodEvents rev t (more e es) = GoodEvent rev e × (last_of t e ≡ false) × GoodEvents rev t es

-- each event lands at place + run, below 64; the next place is one more
unfoldable pub Lands : TcoefTable → ℕ → Events → Type 0
Lands t place (final e) = place + run_of t e < 64
Lands t place (more e es) = (place + run_of t e < 64) × Lands t (place + run_of t e + 1) es

-- a list of one block whose first place is `place`
abbrev pub GoodList : Bool → TcoefTable → ℕ → Events → Type 0
GoodList rev t place es = GoodEvents rev t es × Lands t place es

-- the first place: 1 after a DC code, 0 without one
abbrev pub first_place : Bool → ℕ
first_place dc_coded = cond dc_coded 1 0
