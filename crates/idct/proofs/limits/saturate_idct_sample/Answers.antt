-- `idct::limits::saturate_idct_sample` meets its contract. Assumes nothing.
use mathlib.Core.Path.{◌∙◌}
use mir.Facts.{to_z-of_z}
use mir.Syntax.{w32}
use borrow.Author.Rules.{rules}
use Rattle.numbers.proofs.Words.{held}
use Rattle.numbers.specs.Limit.{clamp_z}
use Rattle.idct.proofs.SampleArms.{sample_is}
use Rattle.idct.proofs.limits.saturate_idct_sample.Goals as goal

pub returns : goal.returns
returns c =
    let m = c.in_ok-lo in
    let b = c.idct_saturation_bounds in
    let v = to_z-of_z {w = w32} {z = c.args.value} c.ranges.value in
    sample_is c.args.bits_per_pixel c.args.value b.result b.ensures m.lo m.hi _ m.was
    (held c.clamp.result c.clamp.type_inv ∙ c.clamp.ensures ∙ (λ i. clamp_z (v i) (held m.lo (search rules) i) (held m.hi (search rules) i)))
