-- The loop of `bits::cursor::gather`: what is read so far is the number of the bytes so far. Assumes nothing.
use Rattle.std.proofs.Common.{take, ◌*◌, ◌≡◌}
use Rattle.bits.specs.Bits.{bits_from, val}
use Rattle.bits.proofs.cursor.gather.Given as goal

abbrev pub invariant-loop-b : goal.invariant-loop-b
invariant-loop-b l = l.v ≡ val (take (8 * l.b-index) (bits_from l.«data» (8 * l.first)))
