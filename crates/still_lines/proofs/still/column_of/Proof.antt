-- `still_lines::still::column_of` meets its contract. Assumes nothing.
use borrow.Author.Rules.{rules}
use borrow.Author.Tests.{eq-eqb, ne_eqb}
use Rattle.still_lines.proofs.still.column_of.Statement.{statement}
use Rattle.still_lines.proofs.still.column_of.Tie as tie

returns-then-p-eq0 : tie.Need-returns-then-p-eq0
returns-then-p-eq0 c = rw (eq-eqb _ 0 c.if-p-eq0.true)

nonzero_rem-result : tie.Need-nonzero_rem-result
nonzero_rem-result c = search rules

returns : tie.Need-returns
returns c = rw (ne_eqb _ 0 c.if-p-eq0.false)

pub column_of_spec : {M : Type 1} → statement M
column_of_spec = tie.close (tie.spec returns-then-p-eq0 nonzero_rem-result returns)
