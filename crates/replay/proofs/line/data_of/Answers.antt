-- `replay::line::data_of`: its count is within the bytes. Assumes nothing.
use Rattle.std.proofs.Common.{arith, length-take-le, sym}
use Rattle.replay.proofs.line.data_of.Goals as goal

pub returns : goal.returns
returns c = (omega arith, sym (length-take-le _ _ (omega arith)))
