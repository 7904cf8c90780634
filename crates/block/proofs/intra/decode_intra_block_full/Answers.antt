-- `block::intra::decode_intra_block_full` meets its contract: the index, the state, then the bits. Assumes nothing.
use Rattle.std.proofs.Common.{ap, ap₂, length, refl, sym, ◌∙◌}
use Rattle.std.specs.Prelude.{Option, Result, ⊤}
use Rattle.numbers.proofs.Parts.{err_by}
use Rattle.bits.proofs.CursorLaws.{in_data_yes}
use Rattle.codes.specs.declared.dc_size.DcComponent.{DcComponent}
use Rattle.assembly.proofs.StateLaws.{all_fine}
use Rattle.assembly.specs.declared.error.BlockAssemblyError.{BlockAssemblyError}
use Rattle.block.proofs.OutcomeLaws.{block_due_lem}
use Rattle.block.specs.Decoded.{answer_of, levels_out, samples_out}
use Rattle.block.specs.Outcomes.{block_outcome}
use Rattle.block.proofs.intra.decode_intra_block_full.Goals as goal

pub decode_checked-requires : goal.decode_checked-requires
decode_checked-requires c =
    let a = c.args in
    let d = a.«data».now in
    let at = a.c.bit_pos in
    let f = all_fine d at a.ctx a.predictors a.quant_matrix (sym c.check.ensures.value ∙ c.in_ok-check.was) in
    let h = in_data_yes (length d) at f.0 in
    ((h.1, h.0), f.1, f.2)

pub returns-in_default-clause-value : goal.returns-in_default-clause-value
returns-in_default-clause-value c =
    let a = c.args in
    sym (ap₂ (answer_of a.«data».now a.c.bit_pos a.coded a.use_intra_dc_vlc a.reversible_vlc a.ctx a.predictors a.quant_matrix) (sym c.from_block_index.ensures.value ∙ c.in_default.is) refl)

pub returns-in_default-clause-samples : goal.returns-in_default-clause-samples
returns-in_default-clause-samples c =
    let a = c.args in
    sym (ap₂ (λ (m : Option DcComponent) (y : Result ⊤ BlockAssemblyError). samples_out a.«data».now a.c.bit_pos a.coded a.use_intra_dc_vlc a.reversible_vlc a.ctx a.predictors a.quant_matrix m y a.spatial.now) (sym c.from_block_index.ensures.value ∙ c.in_default.is) refl)

pub returns-in_default-clause-levels : goal.returns-in_default-clause-levels
returns-in_default-clause-levels c =
    let a = c.args in
    sym (ap₂ (λ (m : Option DcComponent) (y : Result ⊤ BlockAssemblyError). levels_out a.«data».now a.c.bit_pos a.coded a.use_intra_dc_vlc a.reversible_vlc a.ctx a.predictors a.quant_matrix m y a.qf.now) (sym c.from_block_index.ensures.value ∙ c.in_default.is) refl)

pub returns-in_default-clause-outcome : goal.returns-in_default-clause-outcome
returns-in_default-clause-outcome c =
    let a = c.args in
    ap block_outcome (returns-in_default-clause-value c) ∙ block_due_lem a.«data».now a.c.bit_pos a.coded a.use_intra_dc_vlc a.reversible_vlc a.ctx a.predictors a.quant_matrix a.i

pub returns-in_err-check-clause-value : goal.returns-in_err-check-clause-value
returns-in_err-check-clause-value c =
    let a = c.args in
    err_by c.from_residual.ensures ∙ sym (ap₂ (answer_of a.«data».now a.c.bit_pos a.coded a.use_intra_dc_vlc a.reversible_vlc a.ctx a.predictors a.quant_matrix) (sym c.from_block_index.ensures.value ∙ c.in-Some.is) (sym c.check.ensures.value ∙ c.in_err-check.was))

pub returns-in_err-check-clause-samples : goal.returns-in_err-check-clause-samples
returns-in_err-check-clause-samples c =
    let a = c.args in
    sym (ap₂ (λ (m : Option DcComponent) (y : Result ⊤ BlockAssemblyError). samples_out a.«data».now a.c.bit_pos a.coded a.use_intra_dc_vlc a.reversible_vlc a.ctx a.predictors a.quant_matrix m y a.spatial.now) (sym c.from_block_index.ensures.value ∙ c.in-Some.is) (sym c.check.ensures.value ∙ c.in_err-check.was))

pub returns-in_err-check-clause-levels : goal.returns-in_err-check-clause-levels
returns-in_err-check-clause-levels c =
    let a = c.args in
    sym (ap₂ (λ (m : Option DcComponent) (y : Result ⊤ BlockAssemblyError). levels_out a.«data».now a.c.bit_pos a.coded a.use_intra_dc_vlc a.reversible_vlc a.ctx a.predictors a.quant_matrix m y a.qf.now) (sym c.from_block_index.ensures.value ∙ c.in-Some.is) (sym c.check.ensures.value ∙ c.in_err-check.was))

pub returns-in_err-check-clause-outcome : goal.returns-in_err-check-clause-outcome
returns-in_err-check-clause-outcome c =
    let a = c.args in
    ap block_outcome (returns-in_err-check-clause-value c) ∙ block_due_lem a.«data».now a.c.bit_pos a.coded a.use_intra_dc_vlc a.reversible_vlc a.ctx a.predictors a.quant_matrix a.i

pub returns-clause-value : goal.returns-clause-value
returns-clause-value c =
    let a = c.args in
    c.decode_checked.ensures.value ∙ sym (ap₂ (answer_of a.«data».now a.c.bit_pos a.coded a.use_intra_dc_vlc a.reversible_vlc a.ctx a.predictors a.quant_matrix) (sym c.from_block_index.ensures.value ∙ c.in-Some.is) (sym c.check.ensures.value ∙ c.in_ok-check.was))

pub returns-clause-samples : goal.returns-clause-samples
returns-clause-samples c =
    let a = c.args in
    c.decode_checked.ensures.samples ∙ sym (ap₂ (λ (m : Option DcComponent) (y : Result ⊤ BlockAssemblyError). samples_out a.«data».now a.c.bit_pos a.coded a.use_intra_dc_vlc a.reversible_vlc a.ctx a.predictors a.quant_matrix m y a.spatial.now) (sym c.from_block_index.ensures.value ∙ c.in-Some.is) (sym c.check.ensures.value ∙ c.in_ok-check.was))

pub returns-clause-levels : goal.returns-clause-levels
returns-clause-levels c =
    let a = c.args in
    c.decode_checked.ensures.levels ∙ sym (ap₂ (λ (m : Option DcComponent) (y : Result ⊤ BlockAssemblyError). levels_out a.«data».now a.c.bit_pos a.coded a.use_intra_dc_vlc a.reversible_vlc a.ctx a.predictors a.quant_matrix m y a.qf.now) (sym c.from_block_index.ensures.value ∙ c.in-Some.is) (sym c.check.ensures.value ∙ c.in_ok-check.was))

pub returns-clause-outcome : goal.returns-clause-outcome
returns-clause-outcome c =
    let a = c.args in
    ap block_outcome (returns-clause-value c) ∙ block_due_lem a.«data».now a.c.bit_pos a.coded a.use_intra_dc_vlc a.reversible_vlc a.ctx a.predictors a.quant_matrix a.i
