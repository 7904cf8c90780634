-- `macroblock::whole::decode_intra_macroblock_with_header` meets its contract, demand 3 included. Assumes nothing.
use Rattle.std.proofs.Common.{subst, sym, ◌∙◌}
use Rattle.numbers.proofs.Parts.{err_by}
use Rattle.macroblock.proofs.WholeAnswerLaws.{header_asked, header_refused, whole_answered, whole-refused}
use Rattle.macroblock.specs.WholeAnswer.{WholeAnswered}
use Rattle.macroblock.proofs.whole.decode_intra_macroblock_with_header.Goals as goal

pub decode_after-requires : goal.decode_after-requires
decode_after-requires c =
    let a = c.args in
    let fine = sym c.check_room.ensures ∙ c.in_ok-check_room.was in
    (fine, sym c.in_ok-fields.was ∙ c.parse_macroblock_header.ensures.value ∙ header_asked a.«data».now a.c.bit_pos a.ctx a.predictors a.quant_matrix _ fine)

pub returns-in_err-check_room : goal.returns-in_err-check_room
returns-in_err-check_room c =
    let a = c.args in
    subst (λ r. WholeAnswered a.«data».now a.c.bit_pos a.use_intra_dc_vlc a.reversible_vlc a.ctx a.predictors a.quant_matrix a.samples.now r a.samples.now) (sym (err_by c.from_residual.ensures))
    (whole-refused a.«data».now a.c.bit_pos a.use_intra_dc_vlc a.reversible_vlc a.ctx a.predictors a.quant_matrix a.samples.now (sym c.check_room.ensures ∙ c.in_err-check_room.was))

pub returns-in_err-fields : goal.returns-in_err-fields
returns-in_err-fields c =
    let a = c.args in
    let fine = sym c.check_room.ensures ∙ c.in_ok-check_room.was in
    let read = c.parse_macroblock_header.ensures.value ∙ header_asked a.«data».now a.c.bit_pos a.ctx a.predictors a.quant_matrix _ fine in
    subst (λ r. WholeAnswered a.«data».now a.c.bit_pos a.use_intra_dc_vlc a.reversible_vlc a.ctx a.predictors a.quant_matrix a.samples.now r a.samples.now) (sym (err_by c.from_residual-in_err-fields.ensures))
    (header_refused a.«data».now a.c.bit_pos a.use_intra_dc_vlc a.reversible_vlc a.ctx a.predictors a.quant_matrix a.samples.now fine _ read c.in_err-fields.was)

pub returns : goal.returns
returns c =
    let a = c.args in
    let e = c.decode_after.ensures in
    whole_answered a.«data».now a.c.bit_pos a.use_intra_dc_vlc a.reversible_vlc a.ctx a.predictors a.quant_matrix a.samples.now (sym c.check_room.ensures ∙ c.in_ok-check_room.was) _ _ e.value e.samples
