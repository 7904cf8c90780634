-- `still_lines::steps::start` meets its contract. Assumes nothing.
use borrow.Author.Rules.{rules}
use Rattle.still_lines.proofs.steps.start.Statement.{statement}
use Rattle.still_lines.proofs.steps.start.Tie as tie

start-still-requires : tie.Need-start-still-requires
start-still-requires c κs = search rules

returns : tie.Need-returns
returns c = λ i. record { still = c.start-still.ensures i; n = 0 }

pub start_spec : {M : Type 1} → statement M
start_spec = tie.close (tie.spec start-still-requires returns)
