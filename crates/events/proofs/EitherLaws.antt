-- Events of either coding: the reader reads their grammar and is stopped where one breaks off, and each has a bit. Assumes nothing.
use mathlib.Core.Bool.{Bool, false, true}
use mathlib.Core.Path.{◌≡◌}
use Prim.Native.Nat.{◌<◌}
use native.Mathlib.Omega.{arith}
use lib.ListN.{length, length-append}
use Rattle.bits.proofs.BitLaws.{length-bin}
use Rattle.bits.specs.Bits.{Bits, bin}
use Rattle.events.proofs.EventLaws.{plain-sound, plain-takes}
use Rattle.events.proofs.RvlcLaws.{rvlc-sound, rvlc-takes}
use Rattle.events.specs.Event.{Event, plain, type1, type2, type3, rvlc, rvlc_escape, ◌▸◌, vlc_bits, rvlc_bits, event_bits, GoodEvent}
use Rattle.events.specs.EventReader.{event}
use Rattle.fields.proofs.TakeLaws.{Takes}
use Rattle.fields.specs.Reader.{ok}

pub event-sound : (rev : Bool) (b : Bits) {e : Event} {r : Bits} → event rev b ≡ ok e r → GoodEvent rev e × (b ≡ event_bits e ▸ r)
unfolding event
event-sound false b q = plain-sound b q
event-sound true b q = rvlc-sound b q

pub event-takes : (rev : Bool) (e : Event) → GoodEvent rev e → Takes (event rev) (event_bits e) e
unfolding event
event-takes false e g = plain-takes e g
event-takes true e g = rvlc-takes e g

pub event-long : (e : Event) → 0 < length (event_bits e)
unfolding event_bits
event-long (plain i s) = rw (length-append (vlc_bits i) (bin 1 s), length-bin 1 s) (omega arith)
event-long (type1 i s) = simp (length-append, length-bin) (omega arith)
event-long (type2 i s) = simp (length-append, length-bin) (omega arith)
event-long (type3 l n v) = simp (length-append, length-bin) (omega arith)
event-long (rvlc i s) = rw (length-append (rvlc_bits i) (bin 1 s), length-bin 1 s) (omega arith)
event-long (rvlc_escape l n m s) = simp (length-append, length-bin) (omega arith)
