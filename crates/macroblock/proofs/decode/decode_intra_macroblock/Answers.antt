-- `macroblock::decode::decode_intra_macroblock` meets its contract, demand 3 included. Assumes nothing.
use Rattle.std.proofs.Common.{subst, sym, ◌∙◌}
use Rattle.numbers.proofs.Parts.{err_by}
use Rattle.macroblock.proofs.AloneLaws.{Meets, refused, whole}
use Rattle.macroblock.proofs.decode.decode_intra_macroblock.Goals as goal
use Rattle.macroblock.proofs.decode.decode_intra_macroblock.Goals.{After-decode_checked, After-from_residual}

unfit : (c : After-from_residual) → let a = c.args in
    Meets a.«data».now a.c.bit_pos a.header a.use_intra_dc_vlc a.reversible_vlc a.ctx a.predictors a.quant_matrix a.samples.now c.from_residual.result a.samples.now
unfit c =
    let a = c.args in
    subst (λ r. Meets a.«data».now a.c.bit_pos a.header a.use_intra_dc_vlc a.reversible_vlc a.ctx a.predictors a.quant_matrix a.samples.now r a.samples.now) (sym (err_by c.from_residual.ensures))
    (refused a.«data».now a.c.bit_pos a.header a.use_intra_dc_vlc a.reversible_vlc a.ctx a.predictors a.quant_matrix a.samples.now (sym c.check_state.ensures ∙ c.in_err-check_state.was))

met : (c : After-decode_checked) → let a = c.args in
    Meets a.«data».now a.c.bit_pos a.header a.use_intra_dc_vlc a.reversible_vlc a.ctx a.predictors a.quant_matrix a.samples.now c.decode_checked.result c.decode_checked.new.samples
met c =
    let a = c.args in
    let e = c.decode_checked.ensures in
    whole a.«data».now a.c.bit_pos a.header a.use_intra_dc_vlc a.reversible_vlc a.ctx a.predictors a.quant_matrix a.samples.now (sym c.check_state.ensures ∙ c.in_ok-check_state.was) _ _ e.value e.samples

pub decode_checked-requires : goal.decode_checked-requires
decode_checked-requires c = sym c.check_state.ensures ∙ c.in_ok-check_state.was

pub returns-in_err-check_state-clause-value : goal.returns-in_err-check_state-clause-value
returns-in_err-check_state-clause-value c = (unfit (goal.at.returns-in_err-check_state-clause-value c).After-from_residual).0

pub returns-in_err-check_state-clause-samples : goal.returns-in_err-check_state-clause-samples
returns-in_err-check_state-clause-samples c = (unfit (goal.at.returns-in_err-check_state-clause-samples c).After-from_residual).1.0

pub returns-in_err-check_state-clause-demand : goal.returns-in_err-check_state-clause-demand
returns-in_err-check_state-clause-demand c = (unfit (goal.at.returns-in_err-check_state-clause-demand c).After-from_residual).1.1.0

pub returns-in_err-check_state-clause-outcome : goal.returns-in_err-check_state-clause-outcome
returns-in_err-check_state-clause-outcome c = (unfit (goal.at.returns-in_err-check_state-clause-outcome c).After-from_residual).1.1.1.0

pub returns-in_err-check_state-clause-stopped : goal.returns-in_err-check_state-clause-stopped
returns-in_err-check_state-clause-stopped c = (unfit (goal.at.returns-in_err-check_state-clause-stopped c).After-from_residual).1.1.1.1

pub returns-clause-value : goal.returns-clause-value
returns-clause-value c = (met (goal.at.returns-clause-value c).After-decode_checked).0

pub returns-clause-samples : goal.returns-clause-samples
returns-clause-samples c = (met (goal.at.returns-clause-samples c).After-decode_checked).1.0

pub returns-clause-demand : goal.returns-clause-demand
returns-clause-demand c = (met (goal.at.returns-clause-demand c).After-decode_checked).1.1.0

pub returns-clause-outcome : goal.returns-clause-outcome
returns-clause-outcome c = (met (goal.at.returns-clause-outcome c).After-decode_checked).1.1.1.0

pub returns-clause-stopped : goal.returns-clause-stopped
returns-clause-stopped c = (met (goal.at.returns-clause-stopped c).After-decode_checked).1.1.1.1
