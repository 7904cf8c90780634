-- `eights::greater` meets its contract. Assumes nothing.
use mathlib.Core.Bool.{Bool, cond}
use mathlib.Core.Path.{ap, sym}
use Rattle.eights.proofs.greater.Statement.{statement}
use Rattle.eights.proofs.greater.Tie as tie

returns-then-a-b : tie.Need-returns-then-a-b
returns-then-a-b c = sym (ap (λ (t : Bool). cond t c.args.b c.args.a) c.if-a-b.true)

returns-else-a-b : tie.Need-returns-else-a-b
returns-else-a-b c = sym (ap (λ (t : Bool). cond t c.args.b c.args.a) c.if-a-b.false)

pub greater_spec : {M : Type 1} → statement M
greater_spec = tie.close (tie.spec returns-then-a-b returns-else-a-b)
