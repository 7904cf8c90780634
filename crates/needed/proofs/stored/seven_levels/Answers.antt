-- `needed::stored::seven_levels` meets its contract, one test a turn: what is told so far, with the tests that are left. Assumes nothing.
use Rattle.std.proofs.Common.{List, ap, drop, of_z, pos, refl, rules, slice_index_or, take, to_z, w32, ℤ, ◌+◌, ◌-◌, ◌∙◌, ◌≡◌}
use native.Mathlib.Omega.{arith}
use Rattle.numbers.specs.Every.{every}
use Rattle.numbers.proofs.EveryLaws.{test_done, test_more}
use Rattle.ranges.specs.Range.{level_fine}
use Rattle.record.proofs.RecordLaws.{part_built}
use Rattle.needed.proofs.stored.seven_levels.Goals as goal

level : (c : goal.After-fine-fine)
    → let x = slice_index_or (take (c.args.at + 7 - c.args.at) (drop c.args.at c.args.s.now)) c.loop-x.x-index (pos 0) in
    to_z w32 (of_z w32 x) ≡ x
level c = search rules

pub loop-x-init : goal.loop-x-init
loop-x-init c = refl

pub loop-x-preserved : goal.loop-x-preserved
loop-x-preserved c =
    let r = take (c.args.at + 7 - c.args.at) (drop c.args.at c.args.s.now) in
    let l = c.loop-x in
    test_more level_fine (pos 0) r (every level_fine r) l.x-index l.fine c.fine-fine.result c.loop-x-test.true l.invariant (c.fine-fine.ensures ∙ ap level_fine (level c))

pub returns : goal.returns
returns c =
    let r = take (c.args.at + 7 - c.args.at) (drop c.args.at c.args.s.now) in
    let l = c.loop-x in
    test_done level_fine (pos 0) r (every level_fine r) l.x-index l.fine c.loop-x-test.false l.invariant ∙ ap (every level_fine) (part_built c.args.s.now c.args.at 7 c.requires)
