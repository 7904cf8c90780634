-- `picture::call::decode_due` meets its contract: the sentence that was read, its samples and its record. Assumes nothing.
use mathlib.Core.Path.{subst⁻¹}
use Rattle.std.specs.Prelude.{Result}
use Rattle.numbers.proofs.Parts.{err_by}
use Rattle.assembly.specs.declared.error.BlockAssemblyError.{BlockAssemblyError}
use Rattle.picture.proofs.DueLaws.{counted, decoded, forward, six_ready, unread}
use Rattle.picture.specs.Answered.{Answered}
use Rattle.picture.specs.Call.{Input, given}
use Rattle.picture.specs.declared.call.PictureDecoded.{PictureDecoded}
use Rattle.picture.proofs.call.decode_due.Goals as goal
use Rattle.picture.proofs.call.decode_due.Goals.{Start}

-- what the call brings
abbrev brought : Start → Input
brought s = let a = s.args in given a.«data».now a.c.bit_pos a.header a.m a.w a.samples.now

pub returns-in_err-next : goal.returns-in_err-next
returns-in_err-next c =
    let s = (goal.at.returns-in_err-next c).Start in
    let a = c.args in
    subst⁻¹ (λ (r : Result PictureDecoded BlockAssemblyError). Answered a.p (brought s) a.store.now r a.samples.now a.store.now) (err_by c.from_residual.ensures)
    (unread a.p (brought s) a.store.now c.requires.0 _ c.pattern_code-pattern.ensures _ c.read_six.ensures.value c.in_err-next.was)

pub reconstruct-requires : goal.reconstruct-requires
reconstruct-requires c =
    let s = (goal.at.reconstruct-requires c).Start in
    let a = c.args in
    six_ready a.p (brought s) a.store.now c.requires.0 _ c.pattern_code-pattern.ensures _ c.read_six.ensures.value _ _ c.read_six.ensures.rows _ _ c.in_ok-next.was a.due c.requires.1 _ c.read_six.ensures.ends

pub overflow_add-onward : goal.overflow_add-onward
overflow_add-onward c =
    let s = (goal.at.overflow_add-onward c).Start in
    let a = c.args in
    counted a.p (brought s) a.store.now c.requires.0 _ c.pattern_code-pattern.ensures _ c.read_six.ensures.value _ _ c.read_six.ensures.rows _ _ c.in_ok-next.was

pub overflow_sub-bits : goal.overflow_sub-bits
overflow_sub-bits c =
    let s = (goal.at.overflow_sub-bits c).Start in
    let a = c.args in
    forward a.p (brought s) a.store.now c.requires.0 _ c.pattern_code-pattern.ensures _ c.read_six.ensures.value _ _ c.read_six.ensures.rows _ _ c.in_ok-next.was

pub returns : goal.returns
returns c =
    let s = (goal.at.returns c).Start in
    let a = c.args in
    decoded a.p (brought s) a.store.now c.requires.0 _ c.pattern_code-pattern.ensures _ c.read_six.ensures.value _ _ c.read_six.ensures.rows _ _ c.in_ok-next.was a.due c.requires.1 c.reconstruct.ensures.samples c.reconstruct.ensures.store
