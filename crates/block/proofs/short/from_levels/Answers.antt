-- `block::short::from_levels` meets its contract: the values lie within their limits, so the transform takes them. Assumes nothing.
use Rattle.std.proofs.Common.{ap, arith, ℕ, ◌≡◌, ◌∙◌}
use Rattle.idct.specs.Limits.{values_fine}
use Rattle.assembly.proofs.ContextLaws.{depth-fine}
use Rattle.block.proofs.AnswerLaws.{values-fine}
use Rattle.block.proofs.ShortAnswers.{transformed_is}
use Rattle.block.proofs.ValueLaws.{by_rows}
use Rattle.block.proofs.short.from_levels.Goals as goal

pub returns-in-Err-ValueOutOfLimits : goal.returns-in-Err-ValueOutOfLimits
returns-in-Err-ValueOutOfLimits c =
    let a = c.args in
    let q = c.inverse_quant_rows in
    let are = by_rows a.ctx a.w c.requires.0 a.component a.levels c.requires.1 c.quant_of-quant.result c.quant_of-quant.ensures q.result _ _ q.ensures.value.0 q.ensures.value.1 in
    let within = ap (values_fine a.ctx.bits_per_pixel) are ∙ values-fine a.component a.ctx a.w a.levels in
    let taken = transformed_is a.ctx _ c.idct_8x8_clipped.result (depth-fine a.ctx a.w c.requires.0) within c.idct_8x8_clipped.ensures.result_value in
    let not = c.in-Err-ValueOutOfLimits.is in
    let z : ◌≡◌ {A = ℕ} 0 1 = cc in
    absurd (omega arith)
