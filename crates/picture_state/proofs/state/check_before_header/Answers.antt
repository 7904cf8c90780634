-- `picture_state::state::check_before_header` meets its contract: the first tests, then 13. Assumes nothing.
use Rattle.std.proofs.Common.{◌≡◌, ◌∙◌, ap, length, sym}
use Rattle.numbers.proofs.Parts.{err_by}
use Rattle.assembly.specs.Answer.{first_bad}
use Rattle.assembly.specs.declared.context.MacroblockTextureContext.{MacroblockTextureContext}
use Rattle.picture_state.proofs.StateLaws.{before_after, before_bad, before_due}
use Rattle.picture_state.specs.Outcomes.{state_outcome}
use Rattle.picture_state.specs.Picture.{context_of}
use Rattle.picture_state.specs.Ring.{around_due}
use Rattle.picture_state.specs.State.{checked_by, first_tests, neighbour_tests}
use Rattle.picture_state.proofs.state.check_before_header.Goals as goal
use Rattle.picture_state.proofs.state.check_before_header.Goals.{After-check_first}

-- the first tests, with the picture's context
first_is : (k : After-check_first) → let a = k.args in
    first_bad (first_tests a.p a.«data».now a.c.bit_pos (context_of a.p a.m) a.w a.room (length a.store.now)) ≡ k.check_first.result
first_is k =
    let a = k.args in
    sym (k.check_first.ensures ∙ ap (λ (x : MacroblockTextureContext). first_bad (first_tests a.p a.«data».now a.c.bit_pos x a.w a.room (length a.store.now))) k.texture_context-ctx.ensures)

pub returns-in_err-check_first-clause-value : goal.returns-in_err-check_first-clause-value
returns-in_err-check_first-clause-value c =
    let k = (goal.at.returns-in_err-check_first-clause-value c).After-check_first in
    let a = c.args in
    let x = context_of a.p a.m in
    err_by c.from_residual.ensures
    ∙ sym (ap (checked_by a.p x) (before_bad a.p a.«data».now a.c.bit_pos x a.w a.room (length a.store.now) (around_due a.p x.quantiser_scale a.store.now) (first_is k ∙ c.in_err-check_first.was)))

pub returns-in_err-check_first-clause-outcome : goal.returns-in_err-check_first-clause-outcome
returns-in_err-check_first-clause-outcome c =
    let a = c.args in
    ap state_outcome (returns-in_err-check_first-clause-value c) ∙ before_due a.p a.«data».now a.c.bit_pos a.m a.w a.room a.store.now

pub returns-clause-value : goal.returns-clause-value
returns-clause-value c =
    let k = (goal.at.returns-clause-value c).After-check_first in
    let a = c.args in
    let x = context_of a.p a.m in
    c.check_neighbours.ensures
    ∙ ap (λ (y : MacroblockTextureContext). checked_by a.p y (first_bad (neighbour_tests a.p y (around_due a.p y.quantiser_scale a.store.now)))) c.texture_context-ctx.ensures
    ∙ sym (ap (checked_by a.p x) (before_after a.p a.«data».now a.c.bit_pos x a.w a.room (length a.store.now) (around_due a.p x.quantiser_scale a.store.now) (first_is k ∙ c.in_ok-check_first.was)))
