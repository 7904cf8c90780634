-- `rounding::magnitude` meets its contract. Assumes nothing.
use Rattle.rounding.proofs.Rounds.{mag_neg, mag_pos}
use Rattle.rounding.proofs.magnitude.Statement.{statement}
use Rattle.rounding.proofs.magnitude.Tie as tie

returns-then-x : tie.Need-returns-then-x
returns-then-x c = mag_neg c.args.x c.if-x.true

returns-else-x : tie.Need-returns-else-x
returns-else-x c = mag_pos c.args.x c.if-x.false

pub magnitude_spec : {M : Type 1} → statement M
magnitude_spec = tie.close (tie.spec returns-then-x returns-else-x)
