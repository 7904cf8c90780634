use Rattle.std.proofs.Common.{drop, nat_eq, of_z, w32, ◌&&◌, ◌≡◌}
use Rattle.numbers.specs.Every.{every}
use Rattle.inverse_quant.specs.ByRows.{is_zero}
use Rattle.inverse_quant.proofs.row.row_zero.Given as goal

-- whether those so far are 0, with those that are left
abbrev pub invariant-loop-x : goal.invariant-loop-x
invariant-loop-x l = every is_zero l.fn.row ≡ (nat_eq (of_z w32 l.some) 0 && every is_zero (drop l.x-index l.fn.row))
