-- `inverse_quant::rows::block_fine` meets its contract, one row a turn: what is told so far, with the rows that are left. Assumes nothing.
use Rattle.std.proofs.Common.{[], refl}
use native.Mathlib.Omega.{arith}
use Rattle.numbers.specs.Every.{every}
use Rattle.numbers.proofs.EveryLaws.{test_done, test_more}
use Rattle.ranges.specs.Range.{level_fine}
use Rattle.inverse_quant.proofs.rows.block_fine.Goals as goal

pub loop-row-init : goal.loop-row-init
loop-row-init c = refl

pub loop-row-preserved : goal.loop-row-preserved
loop-row-preserved c =
    let b = c.args.qf.now in
    let l = c.loop-row in
    test_more (every level_fine) [] b (every (every level_fine) b) l.row-index l.fine c.row_fine-fine.result (omega arith) l.invariant c.row_fine-fine.ensures

pub returns : goal.returns
returns c =
    let b = c.args.qf.now in
    let l = c.loop-row in
    test_done (every level_fine) [] b (every (every level_fine) b) l.row-index l.fine (omega arith) l.invariant
