-- `picture_state::state::check_state` meets its contract: the tests that ask no header, then 9 and 10. Assumes nothing.
use Rattle.std.proofs.Common.{◌≡◌, ◌∙◌, ap, length, sym}
use Rattle.std.specs.Prelude.{Ok}
use Rattle.numbers.proofs.Parts.{err_by}
use Rattle.picture_state.proofs.StateLaws.{checked-after, checked_ready, checked_refused, state-after, state-bad, state_due_lem}
use Rattle.picture_state.specs.Outcomes.{state_outcome}
use Rattle.picture_state.specs.Picture.{context_of}
use Rattle.picture_state.specs.Ring.{around_due}
use Rattle.picture_state.specs.State.{checked_by, due_of, state_before, state_by}
use Rattle.picture_state.proofs.state.check_state.Goals as goal
use Rattle.picture_state.proofs.state.check_state.Goals.{After-check_header}

-- the tests without a header pass, and what is due is known
ready : (h : After-check_header) → let a = h.args in
    (state_before a.p a.«data».now a.c.bit_pos (context_of a.p a.m) a.w a.room (length a.store.now) (around_due a.p a.m.quantiser_scale a.store.now) ≡ Ok tt)
    × (h.in_ok-due.due ≡ due_of a.p (context_of a.p a.m))
ready h =
    let a = h.args in
    let x = context_of a.p a.m in
    checked_ready a.p x (state_before a.p a.«data».now a.c.bit_pos x a.w a.room (length a.store.now) (around_due a.p a.m.quantiser_scale a.store.now)) (sym h.check_before_header.ensures.value ∙ h.in_ok-due.was)

-- and the header's are left
left : (h : After-check_header) → let a = h.args in
    state_by a.p a.«data».now a.c.bit_pos a.header (context_of a.p a.m) a.w a.room (length a.store.now) (around_due a.p a.m.quantiser_scale a.store.now) ≡ h.check_header.result
left h =
    let a = h.args in
    state-after a.p a.«data».now a.c.bit_pos (context_of a.p a.m) a.w a.room (length a.store.now) a.header _ (ready h).0 ∙ sym h.check_header.ensures.value

pub returns-in_err-due-clause-value : goal.returns-in_err-due-clause-value
returns-in_err-due-clause-value c =
    let a = c.args in
    let x = context_of a.p a.m in
    let k = state_before a.p a.«data».now a.c.bit_pos x a.w a.room (length a.store.now) (around_due a.p a.m.quantiser_scale a.store.now) in
    err_by c.from_residual.ensures
    ∙ sym (ap (checked_by a.p x) (state-bad a.p a.«data».now a.c.bit_pos x a.w a.room (length a.store.now) a.header _ (checked_refused a.p x k (sym c.check_before_header.ensures.value ∙ c.in_err-due.was))))

pub returns-in_err-check_header-clause-value : goal.returns-in_err-check_header-clause-value
returns-in_err-check_header-clause-value c =
    let h = (goal.at.returns-in_err-check_header-clause-value c).After-check_header in
    let a = c.args in
    err_by c.from_residual-in_err-check_header.ensures ∙ sym (ap (checked_by a.p (context_of a.p a.m)) (left h ∙ c.in_err-check_header.was))

pub returns-in_err-check_header-clause-outcome : goal.returns-in_err-check_header-clause-outcome
returns-in_err-check_header-clause-outcome c =
    let a = c.args in
    ap state_outcome (returns-in_err-check_header-clause-value c) ∙ state_due_lem a.p a.«data».now a.c.bit_pos a.header a.m a.w a.room a.store.now

pub returns-clause-value : goal.returns-clause-value
returns-clause-value c =
    let h = (goal.at.returns-clause-value c).After-check_header in
    let a = c.args in
    checked-after a.p (context_of a.p a.m) _ _ (ready h).1 (left h ∙ c.in_ok-check_header.was)
