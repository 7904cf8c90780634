-- `rounding::floor_of` meets its contract: the shift leaves a whole number near to x, and where that is above x it is one too many. Assumes nothing.
use Rattle.rounding.proofs.Floors.{cast_fine, less_fits, floor_less, floor_same}
use Rattle.rounding.proofs.floor_of.Statement.{statement}
use Rattle.rounding.proofs.floor_of.Tie as tie

float_to_int-t : tie.Need-float_to_int-t
float_to_int-t c = cast_fine c.args.x c.requires

overflow_sub-result : tie.Need-overflow_sub-result
overflow_sub-result c = less_fits c.args.x c.requires

returns-then-x-near : tie.Need-returns-then-x-near
returns-then-x-near c = floor_less c.args.x c.requires c.if-x-near.true

returns-else-x-near : tie.Need-returns-else-x-near
returns-else-x-near c = floor_same c.args.x c.requires c.if-x-near.false

pub floor_of_spec : {M : Type 1} → statement M
floor_of_spec = tie.close (tie.spec float_to_int-t overflow_sub-result returns-then-x-near returns-else-x-near)
