-- The loop of `texture::list::read_list`: what is left to answer stays the same, and each event takes bits. Assumes nothing.
use Rattle.std.proofs.Common.{length, ◌*◌, ◌-◌, ◌≡◌, ◌≤◌}
use Rattle.bits.specs.Bits.{bits_from}
use Rattle.texture.proofs.LoopLaws.{Held, rest, start_of}
use Rattle.texture.specs.Inside.{state_of}
use Rattle.texture.proofs.list.read_list.Given as goal

abbrev pub invariant-loop-why : goal.invariant-loop-why
invariant-loop-why l =
    (l.at.bit_pos ≤ 8 * length l.«data») × Held (state_of l.l l.qfs)
    × (rest l.reversible l.table (start_of l.first) (bits_from l.«data» l.initial.at.bit_pos) ≡ rest l.reversible l.table (state_of l.l l.qfs) (bits_from l.«data» l.at.bit_pos))

abbrev pub decreases-loop-why : goal.decreases-loop-why
decreases-loop-why l = 8 * length l.«data» - l.at.bit_pos
