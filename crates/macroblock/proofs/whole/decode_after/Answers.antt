-- `macroblock::whole::decode_after` meets its contract: the blocks behind the header, with the header in front. Assumes nothing.
use Rattle.std.proofs.Common.{length, refl, ◌≡◌, ◌∙◌}
use Rattle.std.specs.Prelude.{Ok}
use Rattle.numbers.proofs.Parts.{err_by}
use Rattle.macroblock.proofs.CheckedLaws.{decoded, six_ready, told-read, unread}
use Rattle.macroblock.proofs.WholeAnswerLaws.{behind-fine, then_decoded, then_forward, then_refused, then_samples}
use Rattle.macroblock.specs.Answer.{state_of}
use Rattle.macroblock.proofs.whole.decode_after.Goals as goal
use Rattle.macroblock.proofs.whole.decode_after.Goals.{After-context_with-x}

-- the state behind the header
behind : (c : After-context_with-x) → let a = c.args in state_of a.«data».now a.next.bit_pos a.fields.header c.context_with-x.result a.predictors a.w (length a.samples.now) ≡ Ok tt
behind c =
    let a = c.args in
    behind-fine a.«data».now a.c.bit_pos a.use_intra_dc_vlc a.reversible_vlc a.ctx a.predictors a.w a.samples.now c.requires.0 a.fields a.next c.requires.1 _ c.context_with-x.ensures

pub samples_of_six-requires : goal.samples_of_six-requires
samples_of_six-requires c =
    let a = c.args in
    let e = c.read_six.ensures in
    six_ready a.«data».now a.next.bit_pos a.fields.header a.use_intra_dc_vlc a.reversible_vlc _ a.predictors a.w a.samples.now (behind (goal.at.samples_of_six-requires c).After-context_with-x) _ c.pattern_code-pattern.ensures _ e.value _ _ e.rows _ _ c.in_ok-after.was _ e.ends

pub overflow_sub-bits : goal.overflow_sub-bits
overflow_sub-bits c =
    let a = c.args in
    let e = c.read_six.ensures in
    then_forward a.«data».now a.c.bit_pos a.use_intra_dc_vlc a.reversible_vlc a.ctx a.predictors a.w a.samples.now c.requires.0 a.fields a.next c.requires.1 _ c.context_with-x.ensures _
    (told-read a.«data».now a.next.bit_pos a.fields.header a.use_intra_dc_vlc a.reversible_vlc _ a.predictors a.w a.samples.now (behind (goal.at.overflow_sub-bits c).After-context_with-x) _ c.pattern_code-pattern.ensures _ e.value _ _ e.rows _ _ c.in_ok-after.was) refl

pub returns-in_err-after-clause-value : goal.returns-in_err-after-clause-value
returns-in_err-after-clause-value c =
    let a = c.args in
    let t = unread a.«data».now a.next.bit_pos a.fields.header a.use_intra_dc_vlc a.reversible_vlc _ a.predictors a.w a.samples.now (behind (goal.at.returns-in_err-after-clause-value c).After-context_with-x) _ c.pattern_code-pattern.ensures _ c.read_six.ensures.value c.in_err-after.was in
    err_by c.from_residual.ensures ∙ then_refused a.«data».now a.c.bit_pos a.use_intra_dc_vlc a.reversible_vlc a.ctx a.predictors a.w a.samples.now c.requires.0 a.fields a.next c.requires.1 _ c.context_with-x.ensures _ t.0 refl

pub returns-in_err-after-clause-samples : goal.returns-in_err-after-clause-samples
returns-in_err-after-clause-samples c =
    let a = c.args in
    let t = unread a.«data».now a.next.bit_pos a.fields.header a.use_intra_dc_vlc a.reversible_vlc _ a.predictors a.w a.samples.now (behind (goal.at.returns-in_err-after-clause-samples c).After-context_with-x) _ c.pattern_code-pattern.ensures _ c.read_six.ensures.value c.in_err-after.was in
    then_samples a.«data».now a.c.bit_pos a.use_intra_dc_vlc a.reversible_vlc a.ctx a.predictors a.w a.samples.now c.requires.0 a.fields a.next c.requires.1 _ c.context_with-x.ensures _ t.1

pub returns-clause-value : goal.returns-clause-value
returns-clause-value c =
    let a = c.args in
    let e = c.read_six.ensures in
    let t = told-read a.«data».now a.next.bit_pos a.fields.header a.use_intra_dc_vlc a.reversible_vlc _ a.predictors a.w a.samples.now (behind (goal.at.returns-clause-value c).After-context_with-x) _ c.pattern_code-pattern.ensures _ e.value _ _ e.rows _ _ c.in_ok-after.was in
    then_decoded a.«data».now a.c.bit_pos a.use_intra_dc_vlc a.reversible_vlc a.ctx a.predictors a.w a.samples.now c.requires.0 a.fields a.next c.requires.1 _ c.context_with-x.ensures _ t refl

pub returns-clause-samples : goal.returns-clause-samples
returns-clause-samples c =
    let a = c.args in
    let e = c.read_six.ensures in
    let t = decoded a.«data».now a.next.bit_pos a.fields.header a.use_intra_dc_vlc a.reversible_vlc _ a.predictors a.w a.samples.now (behind (goal.at.returns-clause-samples c).After-context_with-x) _ c.pattern_code-pattern.ensures _ e.value _ _ e.rows _ _ c.in_ok-after.was _ c.samples_of_six.ensures.1 in
    then_samples a.«data».now a.c.bit_pos a.use_intra_dc_vlc a.reversible_vlc a.ctx a.predictors a.w a.samples.now c.requires.0 a.fields a.next c.requires.1 _ c.context_with-x.ensures _ t.1
