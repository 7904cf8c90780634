-- `codes::ends_in` meets its contract: a shift past the width leaves nothing of the code. Assumes nothing.
use Rattle.std.proofs.Common.{ap, eqb, sym, ℕ, ◌-◌, ◌∙◌}
use Rattle.codes.proofs.CutLaws.{cut-is}
use Rattle.codes.proofs.TableLaws.{shifted}
use Rattle.codes.proofs.search.ends_in.Goals as goal

pub returns-then-n-len : goal.returns-then-n-len
returns-then-n-len c =
    let a = c.args in
    ap (λ (x : ℕ). eqb a.window x) (c.unwrap_or.ensures ∙ shifted _ a.code (a.len - a.n) c.ranges.code.fits c.checked_shr.ensures) ∙ sym (cut-is a.window a.n a.code a.len c.if-n-len.true)
