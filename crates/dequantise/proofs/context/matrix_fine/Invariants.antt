use Rattle.std.proofs.Common.{drop, ◌&&◌, ◌≡◌}
use Rattle.numbers.specs.Every.{every}
use Rattle.dequantise.specs.Methods.{non_zero}
use Rattle.dequantise.proofs.context.matrix_fine.Given as goal

-- the tests before the row and those of the row are what is told so far and the tests that are left of the row
abbrev pub invariant-loop-x : goal.invariant-loop-x
invariant-loop-x l = (l.initial.fine && every non_zero l.row) ≡ (l.fine && every non_zero (drop l.x-index l.row))

abbrev pub invariant-loop-row : goal.invariant-loop-row
invariant-loop-row l = every (every non_zero) l.fn.w ≡ (l.fine && every (every non_zero) (drop l.row-index l.fn.w))
