use Rattle.std.proofs.Common.{drop, ◌&&◌, ◌≡◌}
use Rattle.numbers.specs.Every.{every}
use Rattle.ranges.specs.Range.{level_fine}
use Rattle.needed.proofs.stored.seven_levels.Given as goal

-- what is told so far, with the tests that are left
abbrev pub invariant-loop-x : goal.invariant-loop-x
invariant-loop-x l = every level_fine l.x-items ≡ (l.fine && every level_fine (drop l.x-index l.x-items))
