-- The loop of `headers::parts::read_type`: the row that is still to come stays the same. Assumes nothing.
use Rattle.std.proofs.Common.{length, ◌*◌, ◌-◌, ◌≡◌, ◌≤◌}
use Rattle.bits.specs.Bits.{bits_from}
use Rattle.headers.proofs.McbpcLaws.{row_read}
use Rattle.headers.proofs.parts.read_type.Given as goal

abbrev pub invariant-loop-row : goal.invariant-loop-row
invariant-loop-row l = (l.at.bit_pos ≤ 8 * length l.«data») × (row_read (bits_from l.«data» l.fn.c.bit_pos) ≡ row_read (bits_from l.«data» l.at.bit_pos))

abbrev pub decreases-loop-row : goal.decreases-loop-row
decreases-loop-row l = 8 * length l.«data» - l.at.bit_pos
