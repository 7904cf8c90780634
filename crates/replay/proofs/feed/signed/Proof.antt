-- `replay::feed::signed` is safe: a magnitude that fits 31 bits has a negative. Assumes nothing.
use lib.IntN.{pos}
use borrow.Author.Rules.{rules}
use Rattle.numbers.proofs.Expressions.{loc, lit, ◌⊟◌, fits}
use Rattle.replay.proofs.feed.signed.Statement.{statement}
use Rattle.replay.proofs.feed.signed.Tie as tie

returns-then-negative : tie.Need-returns-then-negative
returns-then-negative c = search rules

returns-else-negative : tie.Need-returns-else-negative
returns-else-negative c = search rules

overflow_cast-z : tie.Need-overflow_cast-z
overflow_cast-z c = search rules

overflow_sub-result : tie.Need-overflow_sub-result
overflow_sub-result c = fits (lit (pos 0) ⊟ loc (pos c.args.magnitude) 2147483647 c.if-magnitude-gt2147483647.false) tt

returns-then-negative-2 : tie.Need-returns-then-negative-2
returns-then-negative-2 c = search rules

returns-else-negative-2 : tie.Need-returns-else-negative-2
returns-else-negative-2 c = search rules

pub signed_spec : {M : Type 1} → statement M
signed_spec = tie.close (tie.spec returns-then-negative returns-else-negative overflow_cast-z overflow_sub-result returns-then-negative-2 returns-else-negative-2)
