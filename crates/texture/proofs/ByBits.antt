-- Reading a list refuses by 1, 4 to 8 and 17 alone: 11 is told before any bit. Assumes nothing.
use mathlib.Core.Bool.{Bool}
use Prim.Native.Nat.{ℕ, suc, zero}
use lib.Dec.{eqb}
use lib.ListN.{length}
use Rattle.bits.specs.Bits.{Bits}
use Rattle.codes.specs.declared.tcoef_tables.TcoefTable.{TcoefTable}
use Rattle.events.proofs.ByBits.{event_by_bits}
use Rattle.events.specs.Event.{last_of}
use Rattle.events.specs.EventReader.{event}
use Rattle.fields.proofs.ByBits.{ByBits, either, then}
use Rattle.texture.specs.EventsReader.{bad, events_in, list}

events_by_bits : (rev : Bool) (t : TcoefTable) (n : ℕ) (b : Bits) → ByBits (events_in rev t n b)
unfolding events_in
events_by_bits rev t zero b = tt
events_by_bits rev t (suc n) b =
    then (event rev b) _ (event_by_bits rev b) (λ e r. either (last_of t e) _ _ tt (then (events_in rev t n r) _ (events_by_bits rev t n r) (λ es r. tt)))

pub list_by_bits : (rev : Bool) (t : TcoefTable) (place : ℕ) (b : Bits) → ByBits (list rev t place b)
unfolding list
list_by_bits rev t place b = then (events_in rev t (length b) b) _ (events_by_bits rev t (length b) b) (λ es r. either (eqb (bad t place es) 0) _ _ tt tt)
