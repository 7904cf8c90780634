-- What passes the test of 12 is what the functions inside take. Assumes nothing.
use mathlib.Core.Bool.{true}
use mathlib.Core.Path.{◌≡◌}
use Rattle.numbers.proofs.Tests.{both_true}
use Rattle.ranges.specs.Range.{depth_fine, quantiser_fine}
use Rattle.ranges.proofs.RangeLaws.{depth_range, quantiser_range, range_quantiser}
use Rattle.dequantise.specs.Methods.{context_fine}
use Rattle.dequantise.specs.declared.context.InverseQuantContext.{InverseQuantContext}
use Rattle.inverse_quant.specs.ByRows.{ContextGood}

pub context-good : (ctx : InverseQuantContext) → context_fine ctx ≡ true → ContextGood ctx
context-good ctx e =
    let b = both_true (quantiser_fine ctx.quantiser_scale) (depth_fine ctx.bits_per_pixel) e in
    let q = quantiser_range ctx.quantiser_scale b.0 in
    record { positive = q.0; quantiser = q.1; shallow = (depth_range ctx.bits_per_pixel b.1).0; depth = (depth_range ctx.bits_per_pixel b.1).1 }

pub quantiser-fine : (ctx : InverseQuantContext) → ContextGood ctx → quantiser_fine ctx.quantiser_scale ≡ true
quantiser-fine ctx c = range_quantiser ctx.quantiser_scale c.positive c.quantiser
