-- `numbers::clamp` meets its contract: each arm's tests pick the definition's case.
use mir.Facts.{to_z-of_z}
use Rattle.numbers.proofs.clamp.Statement.{statement}
use Rattle.numbers.proofs.clamp.Tie as tie

returns-then-v-lo : tie.Need-returns-then-v-lo
returns-then-v-lo c =
    let s = c.before in
    simp (to_z-of_z, s.ranges.lo, simp (to_z-of_z, s.ranges.v, s.ranges.lo) at c.if-v-lo.true)

returns-then-hi-v : tie.Need-returns-then-hi-v
returns-then-hi-v c =
    let s = c.before.before in
    simp (to_z-of_z, s.ranges.hi, simp (to_z-of_z, s.ranges.v, s.ranges.lo) at c.if-v-lo.false, simp (to_z-of_z, s.ranges.v, s.ranges.hi) at c.if-hi-v.true)

returns-else-hi-v : tie.Need-returns-else-hi-v
returns-else-hi-v c =
    let s = c.before.before in
    simp (to_z-of_z, s.ranges.v, simp (to_z-of_z, s.ranges.v, s.ranges.lo) at c.if-v-lo.false, simp (to_z-of_z, s.ranges.v, s.ranges.hi) at c.if-hi-v.false)

pub clamp_spec : {M : Type 1} → statement M
clamp_spec = tie.close (tie.spec returns-then-v-lo returns-then-hi-v returns-else-hi-v)
