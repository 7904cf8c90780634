-- `ranges::limits_of` meets its contract. Assumes nothing.
use borrow.Author.Rules.{rules}
use Rattle.ranges.proofs.Powers.{cast_fits, low_fits, high_fits, low-is, high_is}
use Rattle.ranges.proofs.limits_of.Statement.{statement}
use Rattle.std.specs.Prelude.{Some}
use Rattle.ranges.proofs.limits_of.Tie as tie

overflow_shl-top : tie.Need-overflow_shl-top
overflow_shl-top c = search rules

overflow_cast-top : tie.Need-overflow_cast-top
overflow_cast-top c = cast_fits c.args.bits c.requires

overflow_sub-result : tie.Need-overflow_sub-result
overflow_sub-result c = low_fits c.args.bits c.requires

overflow_sub-result-2 : tie.Need-overflow_sub-result-2
overflow_sub-result-2 c = high_fits c.args.bits c.requires

returns : tie.Need-returns
returns c = λ i. Some (low-is c.args.bits c.requires i, high_is c.args.bits c.requires i)

pub limits_of_spec : {M : Type 1} → statement M
limits_of_spec = tie.close (tie.spec overflow_shl-top overflow_cast-top overflow_sub-result overflow_sub-result-2 returns)
