-- `mismatch::is_odd` meets its contract: the remainder by 2 is 0 of an even number and of no other. Assumes nothing.
use lib.Dec.{lit<}
use lib.IntN.{pos}
use mir.Facts.{to_z-of_z}
use Rattle.numbers.proofs.Expressions.{any, lit, ◌⊘◌, fits}
use Rattle.mismatch.proofs.ParityLaws.{rem_tells}
use Rattle.mismatch.proofs.is_odd.Statement.{statement}
use Rattle.mismatch.proofs.is_odd.Tie as tie

nonzero_rem-result : tie.Need-nonzero_rem-result
nonzero_rem-result c = (lit< tt, fits (any c.args.z c.ranges.z ⊘ lit (pos 2)) tt)

returns : tie.Need-returns
returns c = rw (to_z-of_z c.ranges.z, rem_tells c.args.z)

pub is_odd_spec : {M : Type 1} → statement M
is_odd_spec = tie.close (tie.spec nonzero_rem-result returns)
