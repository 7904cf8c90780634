-- The loop of `codes::search`: the search goes on from row i. Assumes nothing.
use Rattle.std.proofs.Common.{◌-◌, ◌≡◌}
use Rattle.codes.specs.Table.{hit_at, seek}
use Rattle.codes.proofs.search.search.Given as goal

abbrev pub invariant-loop-i : goal.invariant-loop-i
invariant-loop-i l = seek (hit_at l.codes l.lens l.window l.n) (l.to - l.from) l.from ≡ seek (hit_at l.codes l.lens l.window l.n) (l.to - l.i) l.i
