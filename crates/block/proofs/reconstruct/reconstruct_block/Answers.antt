-- `block::reconstruct::reconstruct_block` meets its contract: the block by what its levels need is the whole block. Assumes nothing.
use Rattle.std.proofs.Common.{length, rules, ◌≡◌}
use Rattle.block.proofs.HandedLaws.{whole}
use Rattle.block.proofs.RebuildLaws.{Meets}
use Rattle.block.proofs.reconstruct.reconstruct_block.Goals as goal
use Rattle.block.proofs.reconstruct.reconstruct_block.Goals.{After-reconstruct_up_to}

met : (c : After-reconstruct_up_to) → let a = c.args in let r = c.reconstruct_up_to in
    Meets a.i a.ctx a.predictors a.w a.qfs r.result r.new.spatial a.spatial.now r.new.qf a.qf.now
met c =
    let a = c.args in
    let e = c.reconstruct_up_to.ensures in
    let long : length a.qfs ≡ 64 = search rules in
    whole a.i a.ctx a.predictors a.w a.qfs long c.handed-numbers.result c.handed-numbers.ensures c.reconstruct_up_to.result _ a.spatial.now _ a.qf.now (e.value, (e.samples, (e.levels, e.outcome)))

pub returns-clause-value : goal.returns-clause-value
returns-clause-value c = (met (goal.at.returns-clause-value c).After-reconstruct_up_to).0

pub returns-clause-samples : goal.returns-clause-samples
returns-clause-samples c = (met (goal.at.returns-clause-samples c).After-reconstruct_up_to).1.0

pub returns-clause-levels : goal.returns-clause-levels
returns-clause-levels c = (met (goal.at.returns-clause-levels c).After-reconstruct_up_to).1.1.0

pub returns-clause-outcome : goal.returns-clause-outcome
returns-clause-outcome c = (met (goal.at.returns-clause-outcome c).After-reconstruct_up_to).1.1.1
