-- `replay::line::within` gives a count that a part may have. Assumes nothing.
use Rattle.std.proofs.Common.{◌≤◌, arith, length, length-take-le, sym}
use Rattle.replay.proofs.line.within.Goals as goal

pub returns : goal.returns
returns c =
    let h : c.min.result ≤ length c.args.s.now = omega (arith, c.min.ensures) in
    (h, sym (length-take-le _ _ h))
