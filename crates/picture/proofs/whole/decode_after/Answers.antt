-- `picture::whole::decode_after` meets its contract: the call behind the header, with the header in front. Assumes nothing.
use mathlib.Core.Path.{subst⁻¹}
use Rattle.std.proofs.Common.{refl, ◌≡◌}
use Rattle.std.specs.Prelude.{Ok, Result}
use Rattle.numbers.proofs.Parts.{err_by}
use Rattle.assembly.specs.declared.error.BlockAssemblyError.{BlockAssemblyError}
use Rattle.picture_state.specs.Picture.{context_of}
use Rattle.picture_state.specs.State.{due_of}
use Rattle.picture.proofs.BehindLaws.{behind-decoded, behind-refused, due_fine, due_is, onward-from}
use Rattle.picture.proofs.DueLaws.{counted, decoded, six_ready, unread}
use Rattle.picture.specs.Call.{Input, given, state_here}
use Rattle.picture.specs.Whole.{Bare, bare}
use Rattle.picture.specs.WholeAnswered.{WholeAnswered}
use Rattle.picture.specs.declared.whole.PictureWholeDecoded.{PictureWholeDecoded}
use Rattle.picture.proofs.whole.decode_after.Goals as goal
use Rattle.picture.proofs.whole.decode_after.Goals.{After-read_six}

-- what the call brings, and what the call behind the header
abbrev brought : After-read_six → Bare
brought b = let a = b.args in bare a.«data».now a.c.bit_pos a.m a.w a.samples.now

abbrev there : After-read_six → Input
there b = let a = b.args in given a.«data».now a.next.bit_pos a.fields.header b.context_with-x.result a.w a.samples.now

-- its state is fine, and what is due is
fine : (b : After-read_six) → let a = b.args in state_here a.p (there b) a.store.now ≡ Ok tt
fine b =
    let a = b.args in
    due_fine a.p (brought b) a.store.now b.requires.0 a.fields a.next b.requires.2 _ b.context_with-x.ensures

due : (b : After-read_six) → b.due_with-there.result ≡ due_of b.args.p (context_of b.args.p b.context_with-x.result)
due b =
    let a = b.args in
    due_is a.p (brought b) a.store.now b.requires.0 a.fields a.next b.requires.2 _ b.context_with-x.ensures a.due _ b.requires.1 b.due_with-there.ensures

pub returns-in_err-after : goal.returns-in_err-after
returns-in_err-after c =
    let b = (goal.at.returns-in_err-after c).After-read_six in
    let a = c.args in
    subst⁻¹ (λ (r : Result PictureWholeDecoded BlockAssemblyError). WholeAnswered a.p (brought b) a.store.now r a.samples.now a.store.now) (err_by c.from_residual.ensures)
    (behind-refused a.p (brought b) a.store.now c.requires.0 a.fields a.next c.requires.2 _ c.context_with-x.ensures _ _ _
    (unread a.p (there b) a.store.now (fine b) _ c.pattern_code-pattern.ensures _ c.read_six.ensures.value c.in_err-after.was) refl)

pub reconstruct-requires : goal.reconstruct-requires
reconstruct-requires c =
    let b = (goal.at.reconstruct-requires c).After-read_six in
    let a = c.args in
    six_ready a.p (there b) a.store.now (fine b) _ c.pattern_code-pattern.ensures _ c.read_six.ensures.value _ _ c.read_six.ensures.rows _ _ c.in_ok-after.was _ (due b) _ c.read_six.ensures.ends

pub overflow_add-onward : goal.overflow_add-onward
overflow_add-onward c =
    let b = (goal.at.overflow_add-onward c).After-read_six in
    let a = c.args in
    counted a.p (there b) a.store.now (fine b) _ c.pattern_code-pattern.ensures _ c.read_six.ensures.value _ _ c.read_six.ensures.rows _ _ c.in_ok-after.was

pub overflow_sub-bits : goal.overflow_sub-bits
overflow_sub-bits c =
    let b = (goal.at.overflow_sub-bits c).After-read_six in
    let a = c.args in
    onward-from a.p (brought b) a.store.now c.requires.0 a.fields a.next c.requires.2 _ c.context_with-x.ensures _ _ _
    (decoded a.p (there b) a.store.now (fine b) _ c.pattern_code-pattern.ensures _ c.read_six.ensures.value _ _ c.read_six.ensures.rows _ _ c.in_ok-after.was _ (due b) c.reconstruct.ensures.samples c.reconstruct.ensures.store) refl

pub returns : goal.returns
returns c =
    let b = (goal.at.returns c).After-read_six in
    let a = c.args in
    behind-decoded a.p (brought b) a.store.now c.requires.0 a.fields a.next c.requires.2 _ c.context_with-x.ensures _ _ _
    (decoded a.p (there b) a.store.now (fine b) _ c.pattern_code-pattern.ensures _ c.read_six.ensures.value _ _ c.read_six.ensures.rows _ _ c.in_ok-after.was _ (due b) c.reconstruct.ensures.samples c.reconstruct.ensures.store) refl
