-- `macroblock::decode::decode_checked` meets its contract: the sentence that was read and its samples. Assumes nothing.
use Rattle.std.proofs.Common.{arith, ℕ, ◌≡◌, ◌∙◌}
use Rattle.numbers.proofs.Parts.{err_by}
use Rattle.macroblock.proofs.CheckedLaws.{decoded, forward, six_ready, unread}
use Rattle.macroblock.proofs.decode.decode_checked.Goals as goal

pub samples_of_six-requires : goal.samples_of_six-requires
samples_of_six-requires c =
    let a = c.args in
    let e = c.read_six.ensures in
    six_ready a.«data».now a.c.bit_pos a.header a.use_intra_dc_vlc a.reversible_vlc a.ctx a.predictors a.w a.samples.now c.requires _ c.pattern_code-pattern.ensures _ e.value _ _ e.rows _ _ c.in_ok-next.was _ e.ends

pub overflow_sub-bits : goal.overflow_sub-bits
overflow_sub-bits c =
    let a = c.args in
    let e = c.read_six.ensures in
    forward a.«data».now a.c.bit_pos a.header a.use_intra_dc_vlc a.reversible_vlc a.ctx a.predictors a.w a.samples.now c.requires _ c.pattern_code-pattern.ensures _ e.value _ _ e.rows _ _ c.in_ok-next.was

pub returns-in_err-next-clause-value : goal.returns-in_err-next-clause-value
returns-in_err-next-clause-value c =
    let a = c.args in
    err_by c.from_residual.ensures
    ∙ (unread a.«data».now a.c.bit_pos a.header a.use_intra_dc_vlc a.reversible_vlc a.ctx a.predictors a.w a.samples.now c.requires _ c.pattern_code-pattern.ensures _ c.read_six.ensures.value c.in_err-next.was).0

pub returns-in_err-next-clause-samples : goal.returns-in_err-next-clause-samples
returns-in_err-next-clause-samples c =
    let a = c.args in
    (unread a.«data».now a.c.bit_pos a.header a.use_intra_dc_vlc a.reversible_vlc a.ctx a.predictors a.w a.samples.now c.requires _ c.pattern_code-pattern.ensures _ c.read_six.ensures.value c.in_err-next.was).1

pub returns-clause-value : goal.returns-clause-value
returns-clause-value c =
    let a = c.args in
    let e = c.read_six.ensures in
    (decoded a.«data».now a.c.bit_pos a.header a.use_intra_dc_vlc a.reversible_vlc a.ctx a.predictors a.w a.samples.now c.requires _ c.pattern_code-pattern.ensures _ e.value _ _ e.rows _ _ c.in_ok-next.was _ c.samples_of_six.ensures.1).0

pub returns-clause-samples : goal.returns-clause-samples
returns-clause-samples c =
    let a = c.args in
    let e = c.read_six.ensures in
    (decoded a.«data».now a.c.bit_pos a.header a.use_intra_dc_vlc a.reversible_vlc a.ctx a.predictors a.w a.samples.now c.requires _ c.pattern_code-pattern.ensures _ e.value _ _ e.rows _ _ c.in_ok-next.was _ c.samples_of_six.ensures.1).1
