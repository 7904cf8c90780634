use Rattle.std.proofs.Common.{drop, ◌&&◌, ◌≡◌}
use Rattle.numbers.specs.Every.{every}
use Rattle.ranges.specs.Range.{level_fine}
use Rattle.inverse_quant.proofs.rows.block_fine.Given as goal

-- what is told so far, with the rows that are left
abbrev pub invariant-loop-row : goal.invariant-loop-row
invariant-loop-row l = every (every level_fine) l.fn.qf ≡ (l.fine && every (every level_fine) (drop l.row-index l.fn.qf))
