-- After i turns the record and the samples are those of the blocks below i. Assumes nothing.
use Rattle.picture.proofs.TurnLaws.{Turned}
use Rattle.picture.proofs.reconstruct.reconstruct.Given as goal

abbrev pub invariant-loop-i : goal.invariant-loop-i
invariant-loop-i l = Turned l.due.context l.w l.due.place l.store l.rows l.fn.samples l.i l.own l.samples
