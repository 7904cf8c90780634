-- What is read is what the cursor reads there, so its outcome is the one that is due. Assumes nothing.
use Rattle.numbers.proofs.OutcomeLaws.{both}
use Rattle.bits.proofs.OutcomeLaws.{peek_due_lem}
use Rattle.bits.specs.Outcomes.{peeked_outcome}
use Rattle.bit_reader.proofs.reader.BitReader.next_bits.Goals as goal

pub returns : goal.returns
returns c = both peeked_outcome c.next_at.ensures (peek_due_lem c.args.self.«data».now c.args.self.bit_pos c.args.n)
