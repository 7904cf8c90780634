-- `block::short::reconstruct_up_to` meets its contract: the index, the context, then the block. Assumes nothing.
use Rattle.std.proofs.Common.{sym}
use Rattle.coefficients.specs.Needed.{numbered}
use Rattle.scan_rows.specs.UpTo.{up_to}
use Rattle.std.specs.Prelude.{Err}
use Rattle.assembly.specs.declared.error.BlockAssemblyError.TheVariants.{Context, OutOfRange}
use Rattle.numbers.proofs.Tests.{flag_passes, flag_refuses}
use Rattle.block.proofs.RebuildLaws.{Meets, no_block, no-context, whole-block}
use Rattle.block.proofs.short.reconstruct_up_to.Goals as goal
use Rattle.block.proofs.short.reconstruct_up_to.Goals.{After-rebuild_up_to, In_default, Then-not-context_fine}

outside : (c : In_default) → let a = c.args in
    Meets a.i a.ctx (numbered a.n.now) a.w (up_to a.end a.qfs.now) (Err OutOfRange) a.spatial.now a.spatial.now a.qf.now a.qf.now
outside c =
    let a = c.args in
    no_block a.i a.ctx (numbered a.n.now) a.w (up_to a.end a.qfs.now) c.from_block_index.result a.spatial.now a.qf.now c.from_block_index.ensures.outcome c.in_default.is

unfit : (c : Then-not-context_fine) → let a = c.args in
    Meets a.i a.ctx (numbered a.n.now) a.w (up_to a.end a.qfs.now) (Err Context) a.spatial.now a.spatial.now a.qf.now a.qf.now
unfit c =
    let a = c.args in
    no-context a.i a.ctx (numbered a.n.now) a.w (up_to a.end a.qfs.now) _ c.from_block_index.result a.spatial.now a.qf.now c.from_block_index.ensures.outcome c.in-Some.is
    (flag_refuses c.context_fine.ensures c.if-not-context_fine.true)

met : (c : After-rebuild_up_to) → let a = c.args in let r = c.rebuild_up_to in
    Meets a.i a.ctx (numbered a.n.now) a.w (up_to a.end a.qfs.now) r.result r.new.spatial a.spatial.now r.new.qf a.qf.now
met c =
    let a = c.args in
    let e = c.rebuild_up_to.ensures in
    whole-block a.i a.ctx (numbered a.n.now) a.w (up_to a.end a.qfs.now) _ c.from_block_index.result a.spatial.now a.qf.now c.from_block_index.ensures.outcome c.in-Some.is
    (flag_passes c.context_fine.ensures c.if-not-context_fine.false) (e.value, (e.samples, e.levels))

pub returns-in_default-clause-value : goal.returns-in_default-clause-value
returns-in_default-clause-value c = (outside (goal.at.returns-in_default-clause-value c).In_default).0

pub returns-in_default-clause-samples : goal.returns-in_default-clause-samples
returns-in_default-clause-samples c = (outside (goal.at.returns-in_default-clause-samples c).In_default).1.0

pub returns-in_default-clause-levels : goal.returns-in_default-clause-levels
returns-in_default-clause-levels c = (outside (goal.at.returns-in_default-clause-levels c).In_default).1.1.0

pub returns-in_default-clause-outcome : goal.returns-in_default-clause-outcome
returns-in_default-clause-outcome c = (outside (goal.at.returns-in_default-clause-outcome c).In_default).1.1.1

pub returns-then-not-context_fine-clause-value : goal.returns-then-not-context_fine-clause-value
returns-then-not-context_fine-clause-value c = (unfit (goal.at.returns-then-not-context_fine-clause-value c).Then-not-context_fine).0

pub returns-then-not-context_fine-clause-samples : goal.returns-then-not-context_fine-clause-samples
returns-then-not-context_fine-clause-samples c = (unfit (goal.at.returns-then-not-context_fine-clause-samples c).Then-not-context_fine).1.0

pub returns-then-not-context_fine-clause-levels : goal.returns-then-not-context_fine-clause-levels
returns-then-not-context_fine-clause-levels c = (unfit (goal.at.returns-then-not-context_fine-clause-levels c).Then-not-context_fine).1.1.0

pub returns-then-not-context_fine-clause-outcome : goal.returns-then-not-context_fine-clause-outcome
returns-then-not-context_fine-clause-outcome c = (unfit (goal.at.returns-then-not-context_fine-clause-outcome c).Then-not-context_fine).1.1.1

pub returns-clause-value : goal.returns-clause-value
returns-clause-value c = (met (goal.at.returns-clause-value c).After-rebuild_up_to).0

pub returns-clause-samples : goal.returns-clause-samples
returns-clause-samples c = (met (goal.at.returns-clause-samples c).After-rebuild_up_to).1.0

pub returns-clause-levels : goal.returns-clause-levels
returns-clause-levels c = (met (goal.at.returns-clause-levels c).After-rebuild_up_to).1.1.0

pub returns-clause-outcome : goal.returns-clause-outcome
returns-clause-outcome c = (met (goal.at.returns-clause-outcome c).After-rebuild_up_to).1.1.1
