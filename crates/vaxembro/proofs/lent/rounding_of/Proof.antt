-- `vaxembro::lent::rounding_of` meets its contract. Assumes nothing.
use mathlib.Core.Path.{sym, ◌∙◌}
use borrow.Author.Rules.{rules}
use Rattle.vaxembro.proofs.lent.rounding_of.Statement.{statement}
use Rattle.vaxembro.proofs.lent.rounding_of.Tie as tie

flag-requires : tie.Need-flag-requires
flag-requires c κs = search rules

returns-then-flag : tie.Need-returns-then-flag
returns-then-flag c = rw (sym c.flag.ensures ∙ c.if-flag.true)

returns : tie.Need-returns
returns c = rw (sym c.flag.ensures ∙ c.if-flag.false)

pub rounding_of_spec : {M : Type 1} → statement M
rounding_of_spec = tie.close (tie.spec flag-requires returns-then-flag returns)
