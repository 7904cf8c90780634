-- `vaxembro::answer::refused` meets its contract. Assumes nothing.
use borrow.Author.Rules.{rules}
use Rattle.vaxembro.proofs.answer.refused.Statement.{statement}
use Rattle.vaxembro.proofs.answer.refused.Tie as tie

number-requires : tie.Need-number-requires
number-requires c κs = search rules

figure-requires : tie.Need-figure-requires
figure-requires c κs = search rules

none-requires : tie.Need-none-requires
none-requires c κs = search rules

returns : tie.Need-returns
returns c = rw (c.none.ensures, c.figure.ensures, c.number.ensures)

pub refused_spec : {M : Type 1} → statement M
refused_spec = tie.close (tie.spec number-requires figure-requires none-requires returns)
