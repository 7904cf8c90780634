-- `block::short::coded` meets its contract: the levels that the stage left are within their range. Assumes nothing.
use Rattle.std.proofs.Common.{ap, sym, ◌∙◌}
use Rattle.coefficients.proofs.LevelLaws.{levels-fine}
use Rattle.coefficients.specs.Level.{block_fine, levels_answer}
use Rattle.coefficients.specs.Needed.{numbered}
use Rattle.scan_rows.specs.UpTo.{up_to}
use Rattle.block.proofs.ValueLaws.{done_leaves}
use Rattle.block.proofs.short.coded.Goals as goal

pub from_levels-requires : goal.from_levels-requires
from_levels-requires c =
    let a = c.args in
    let x = a.ctx in
    let e = c.intra_levels_up_to.ensures.value in
    let are = e.1 ∙ done_leaves (levels_answer x.quantiser_scale (numbered a.n.now) (up_to a.end a.qfs.now)) _ _ (sym e.0 ∙ c.in-Ok.is) in
    (c.requires, ap block_fine are ∙ levels-fine a.component x.quantiser_scale x.ac_pred_flag x.alternate_vertical_scan (numbered a.n.now) _)
