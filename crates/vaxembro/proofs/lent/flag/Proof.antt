-- `vaxembro::lent::flag` meets its contract. Assumes nothing.
use mathlib.Core.Path.{refl}
use borrow.Author.Rules.{rules}
use Rattle.vaxembro.specs.Lent.{flag_at}
use Rattle.vaxembro.proofs.lent.flag.Statement.{statement}
use Rattle.vaxembro.proofs.lent.flag.Tie as tie

overflow_shr-result : tie.Need-overflow_shr-result
overflow_shr-result c = search rules

returns : tie.Need-returns
unfolding flag_at
returns c = refl

pub flag_spec : {M : Type 1} → statement M
flag_spec = tie.close (tie.spec overflow_shr-result returns)
