-- `lines::fed::rest` meets its contract: no byte, room, too many. Assumes nothing.
use mathlib.Core.Bool.{false, true}
use mathlib.Core.Path.{refl, sym}
use borrow.Author.Tests.{eq-eqb, le-leb, lt-leb, ne_eqb}
use Rattle.forms.specs.Forms.{longest}
use Rattle.lines.proofs.FedLaws.{rest_by}
use Rattle.lines.proofs.fed.rest.Statement.{statement}
use Rattle.lines.proofs.fed.rest.Tie as tie

returns-then-n-eq0 : tie.Need-returns-then-n-eq0
returns-then-n-eq0 c =
    let a = c.args in
    sym (rest_by a.n true _ (eq-eqb a.n 0 c.if-n-eq0.true) refl)

returns-then-n-le-LONGEST : tie.Need-returns-then-n-le-LONGEST
returns-then-n-le-LONGEST c =
    let a = c.args in
    sym (rest_by a.n false true (ne_eqb a.n 0 c.if-n-eq0.false) (le-leb a.n longest c.if-n-le-LONGEST.true))

returns : tie.Need-returns
returns c =
    let a = c.args in
    sym (rest_by a.n false false (ne_eqb a.n 0 c.if-n-eq0.false) (lt-leb a.n longest c.if-n-le-LONGEST.false))

pub rest_spec : {M : Type 1} → statement M
rest_spec = tie.close (tie.spec returns-then-n-eq0 returns-then-n-le-LONGEST returns)
