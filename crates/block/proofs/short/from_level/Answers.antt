-- `block::short::from_level` meets its contract: the DC lies within its limits, and the level stands alone. Assumes nothing.
use Rattle.std.proofs.Common.{ap, to_z-of_z, ◌+◌, ◌∙◌}
use Rattle.numbers.proofs.Words.{held}
use Rattle.numbers.specs.Grid.{build}
use Rattle.idct.proofs.Refusals.{limited-inside}
use Rattle.idct.specs.Clipped.{dc_block}
use Rattle.idct.specs.Limits.{in_bounds}
use Rattle.std.specs.Prelude.{false}
use Rattle.dequantise.specs.Methods.{intra_dc}
use Rattle.block.specs.Short.{dc_value}
use Rattle.block.proofs.short.from_level.Goals as goal

pub dc_samples-requires : goal.dc_samples-requires
dc_samples-requires c =
    let a = c.args in
    let b = a.ctx.bits_per_pixel + 3 in
    let value = held c.value_of-dc.result c.value_of-dc.type_inv ∙ c.value_of-dc.ensures ∙ ap (dc_value a.component a.ctx) (to_z-of_z c.ranges.level) in
    (c.requires.1, ap (in_bounds b) value ∙ limited-inside b (intra_dc a.level a.component a.ctx.quantiser_scale false))

pub returns-in-Ok-clause-levels : goal.returns-in-Ok-clause-levels
unfolding dc_block build
returns-in-Ok-clause-levels c = ap dc_block (to_z-of_z c.ranges.level)
