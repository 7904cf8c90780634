-- `idct::depth::least_sample` meets its contract. Assumes nothing.
use mathlib.Core.Bool.{Bool, cond}
use mathlib.Core.Path.{ap, sym, ◌∙◌}
use lib.IntN.{pos}
use mir.Facts.{to_z-of_z}
use mir.Syntax.{w32}
use Rattle.idct.proofs.depth.least_sample.Statement.{statement}
use Rattle.idct.proofs.depth.least_sample.Tie as tie

returns-then-signed : tie.Need-returns-then-signed
returns-then-signed c = let s = c.before in to_z-of_z {w = w32} {z = s.args.lo} s.ranges.lo ∙ sym (ap (λ (b : Bool). cond b s.args.lo (pos 0)) c.if-signed.true)

returns-else-signed : tie.Need-returns-else-signed
returns-else-signed c = sym (ap (λ (b : Bool). cond b c.args.lo (pos 0)) c.if-signed.false)

pub least_sample_spec : {M : Type 1} → statement M
least_sample_spec = tie.close (tie.spec returns-then-signed returns-else-signed)
