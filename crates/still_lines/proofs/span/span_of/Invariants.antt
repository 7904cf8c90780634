use Rattle.std.proofs.Common.{◌≡◌, ◌+◌}
use Rattle.still_lines.specs.Spans.{part, span_from, span_of}
use Rattle.still_lines.proofs.span.span_of.Given as goal

abbrev pub invariant-loop-z : goal.invariant-loop-z
invariant-loop-z l = span_of (part l.samples l.from l.to) ≡ span_from l.s (part l.samples (l.from + 1 + l.z-index) l.to)
