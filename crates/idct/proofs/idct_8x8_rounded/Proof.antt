-- `idct::idct_8x8_rounded` meets its contract: what is taken stays near the exact transform. Assumes nothing.
use borrow.Author.Rules.{rules}
use Rattle.idct.specs.Limits.{saturated}
use Rattle.idct.proofs.Refusals.{answer-near}
use Rattle.idct.proofs.idct_8x8_rounded.Statement.{statement}
use Rattle.idct.proofs.idct_8x8_rounded.Tie as tie

at_depth-requires : tie.Need-at_depth-requires
at_depth-requires c κs = search rules

returns : tie.Need-returns
unfolding saturated
returns c =
    let a = c.args in
    let e = c.at_depth.ensures in
    (e.0, (e.1, answer-near a.bits_per_pixel a.coefficients a.rounding c.at_depth.result e.0))

pub idct_8x8_rounded_spec : {M : Type 1} → statement M
idct_8x8_rounded_spec = tie.close (tie.spec at_depth-requires returns)
