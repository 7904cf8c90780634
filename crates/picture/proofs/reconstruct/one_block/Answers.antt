-- `picture::reconstruct::one_block` meets its contract: with what the block needs it is rebuilt as with all that it takes. Assumes nothing.
use Rattle.std.proofs.Common.{rules, ◌≡◌, ◌∙◌, length}
use Rattle.std.specs.Prelude.{Ok}
use Rattle.numbers.proofs.Words.{held}
use Rattle.codes.specs.Component.{component_at}
use Rattle.block.specs.Rebuilt.{dc_here}
use Rattle.picture.proofs.TurnLaws.{not-refused, rebuilt_is, record_is, same-dc, samples-are}
use Rattle.picture.specs.Turn.{taken_by}
use Rattle.picture.proofs.reconstruct.one_block.Goals as goal
use Rattle.picture.proofs.reconstruct.one_block.Goals.{After-reconstruct_up_to}

-- the DC that is rebuilt
rebuilt : (r : After-reconstruct_up_to) → let a = r.args in r.reconstruct_up_to.result ≡ Ok (dc_here (component_at a.i) a.ctx (taken_by a.ctx a.place a.store.now a.own.now a.i) a.w a.qfs.now)
rebuilt r =
    let a = r.args in
    rebuilt_is a.ctx a.w a.place a.store.now a.own.now a.qfs.now a.i a.end (length a.samples.now) r.requires _ _ r.predictors_needed.ensures.value.1 r.reconstruct_up_to.ensures.value

pub returns-in_default-clause-record : goal.returns-in_default-clause-record
returns-in_default-clause-record c = absurd (not-refused (rebuilt (goal.at.returns-in_default-clause-record c).After-reconstruct_up_to) c.in_default.is)

pub returns-in_default-clause-samples : goal.returns-in_default-clause-samples
returns-in_default-clause-samples c = absurd (not-refused (rebuilt (goal.at.returns-in_default-clause-samples c).After-reconstruct_up_to) c.in_default.is)

pub returns-clause-record : goal.returns-clause-record
returns-clause-record c =
    let r = (goal.at.returns-clause-record c).After-reconstruct_up_to in
    let a = c.args in
    record_is a.ctx a.w a.place a.store.now a.own.now a.qfs.now a.i a.end (length a.samples.now) c.requires _ _ c.predictors_needed.ensures.value.1 _ (held c.in-Ok.dc (search rules) ∙ same-dc (rebuilt r) c.in-Ok.is) c.reconstruct_up_to.ensures.levels c.put.ensures.record

pub returns-clause-samples : goal.returns-clause-samples
returns-clause-samples c =
    let a = c.args in
    samples-are a.ctx a.w a.place a.store.now a.own.now a.qfs.now a.i a.end (length a.samples.now) c.requires _ _ c.predictors_needed.ensures.value.1 a.samples.now _ c.reconstruct_up_to.ensures.samples c.put.ensures.samples
