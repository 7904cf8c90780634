-- `codes::hits` meets its contract: a shift past the width leaves nothing of the window. Assumes nothing.
use Rattle.std.proofs.Common.{ap, eqb, sym, ℕ, ◌-◌, ◌∙◌}
use Rattle.codes.proofs.TableLaws.{hit-is, shifted}
use Rattle.codes.proofs.search.hits.Goals as goal

pub returns-then-len-n : goal.returns-then-len-n
returns-then-len-n c =
    let a = c.args in
    ap (λ (x : ℕ). eqb x a.code) (c.unwrap_or.ensures ∙ shifted _ a.window (a.n - a.len) c.ranges.window.fits c.checked_shr.ensures) ∙ sym (hit-is a.window a.n a.code a.len c.if-len-n.true)
