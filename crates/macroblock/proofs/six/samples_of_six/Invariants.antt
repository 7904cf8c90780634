-- The loop of `macroblock::six::samples_of_six` goes block after block.
use Rattle.std.proofs.Common.{length, ◌-◌, ◌≡◌, ◌≤◌}
use Rattle.coefficients.specs.Needed.{numbered}
use Rattle.samples.specs.Samples.{blocks_after}
use Rattle.macroblock.specs.Six.{samples_of_six, values_of_six}
use Rattle.macroblock.proofs.six.samples_of_six.Given as goal

abbrev pub invariant-loop-i : goal.invariant-loop-i
invariant-loop-i l =
    (l.i ≤ 6) × (length l.samples ≡ length l.fn.samples) × (l.samples ≡ blocks_after l.i (samples_of_six l.ctx (values_of_six l.ctx (numbered l.n) l.w l.rows)) l.fn.samples)

abbrev pub decreases-loop-i : goal.decreases-loop-i
decreases-loop-i l = 6 - l.i
