-- `still_lines::still::row_of` meets its contract. Assumes nothing.
use borrow.Author.Rules.{rules}
use borrow.Author.Tests.{eq-eqb, ne_eqb}
use Rattle.still_lines.proofs.still.row_of.Statement.{statement}
use Rattle.still_lines.proofs.still.row_of.Tie as tie

returns-then-p-eq0 : tie.Need-returns-then-p-eq0
returns-then-p-eq0 c = rw (eq-eqb _ 0 c.if-p-eq0.true)

nonzero_div-result : tie.Need-nonzero_div-result
nonzero_div-result c = search rules

returns : tie.Need-returns
returns c = rw (ne_eqb _ 0 c.if-p-eq0.false)

pub row_of_spec : {M : Type 1} → statement M
row_of_spec = tie.close (tie.spec returns-then-p-eq0 nonzero_div-result returns)
