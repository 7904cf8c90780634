-- `idct::rows::ruled_sample` meets its contract: a value within the limits of rounding is never refused. Assumes nothing.
use mathlib.Core.Path.{◌∙◌}
use mir.Facts.{to_z-of_z}
use mir.Syntax.{w32}
use borrow.Author.Rules.{rules}
use Rattle.numbers.proofs.Words.{held}
use Rattle.numbers.specs.Limit.{clamp_z}
use Rattle.rounding.proofs.Answers.{never_refused, tells_whole}
use Rattle.idct.proofs.rows.ruled_sample.Goals as goal

pub returns-in-None : goal.returns-in-None
returns-in-None c = absurd (never_refused c.args.rounding c.args.value _ c.round_to_integer-rounded.ensures c.requires c.in-None.is)

pub returns-in-Some : goal.returns-in-Some
returns-in-Some c =
    let a = c.args in
    let n = c.in-Some.n in
    let whole = held n (search rules) ∙ tells_whole a.rounding a.value _ c.round_to_integer-rounded.ensures c.requires n c.in-Some.is in
    let lo = to_z-of_z {w = w32} {z = a.lo} c.ranges.lo in
    let hi = to_z-of_z {w = w32} {z = a.hi} c.ranges.hi in
    held c.clamp.result c.clamp.type_inv ∙ c.clamp.ensures ∙ (λ i. clamp_z (whole i) (lo i) (hi i))
