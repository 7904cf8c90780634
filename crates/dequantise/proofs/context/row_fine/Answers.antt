-- `dequantise::context::row_fine` meets its contract, one test a turn: what is told so far, with the tests that are left. Assumes nothing.
use Rattle.std.proofs.Common.{ap, of_z, pos, refl, rules, slice_index_or, to_z, w32, ◌∙◌, ◌≡◌}
use native.Mathlib.Omega.{arith}
use Rattle.numbers.specs.Every.{every}
use Rattle.numbers.proofs.EveryLaws.{test_done, test_more}
use Rattle.ranges.specs.Range.{level_fine}
use Rattle.dequantise.proofs.context.row_fine.Goals as goal

level : (c : goal.After-fine-fine) → to_z w32 (of_z w32 (slice_index_or c.args.row c.loop-x.x-index (pos 0))) ≡ slice_index_or c.args.row c.loop-x.x-index (pos 0)
level c = search rules

pub loop-x-init : goal.loop-x-init
loop-x-init c = refl

pub loop-x-preserved : goal.loop-x-preserved
loop-x-preserved c =
    let r = c.args.row in
    let l = c.loop-x in
    test_more level_fine (pos 0) r (every level_fine r) l.x-index l.fine c.fine-fine.result (omega arith) l.invariant (c.fine-fine.ensures ∙ ap level_fine (level c))

pub returns : goal.returns
returns c =
    let r = c.args.row in
    let l = c.loop-x in
    test_done level_fine (pos 0) r (every level_fine r) l.x-index l.fine (omega arith) l.invariant
