-- What is read is what the cursor reads there, so its outcome is the one that is due. Assumes nothing.
use Rattle.numbers.proofs.OutcomeLaws.{both}
use Rattle.bits.proofs.OutcomeLaws.{peek_due_lem}
use Rattle.bits.specs.Outcomes.{peeked_outcome}
use Rattle.bit_reader.proofs.reader.BitReader.read_bits.Goals as goal

pub returns-clause-value : goal.returns-clause-value
returns-clause-value c = both peeked_outcome c.read_at-got.ensures.0 (peek_due_lem c.args.self.now.«data».now c.args.self.now.bit_pos c.args.n)
