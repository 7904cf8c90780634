-- `cosines::c` meets its contract. Assumes nothing.
use Rattle.cosines.proofs.Factors.{c-zero, c_other}
use Rattle.cosines.proofs.c.Statement.{statement}
use Rattle.cosines.proofs.c.Tie as tie

returns-then-k-eq0 : tie.Need-returns-then-k-eq0
returns-then-k-eq0 c = c-zero c.args.k c.if-k-eq0.true

returns-else-k-eq0 : tie.Need-returns-else-k-eq0
returns-else-k-eq0 c = c_other c.args.k c.if-k-eq0.false

pub c_spec : {M : Type 1} → statement M
c_spec = tie.close (tie.spec returns-then-k-eq0 returns-else-k-eq0)
