use Rattle.std.proofs.Common.{take, ◌≡◌}
use Rattle.numbers.specs.Sum.{sum_z}
use Rattle.inverse_quant.proofs.row.sum_of.Given as goal

abbrev pub invariant-loop-x : goal.invariant-loop-x
invariant-loop-x l = l.sum ≡ sum_z (take l.x-index l.fn.sums)
