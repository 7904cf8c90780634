-- `lines::fed::feed` meets its contract: a newline, room, one byte too many. Assumes nothing.
use mathlib.Core.Bool.{false, true}
use mathlib.Core.Path.{sym}
use borrow.Author.Rules.{rules}
use borrow.Author.Tests.{eq-eqb, le-leb, lt-leb, ne_eqb}
use Rattle.forms.specs.Forms.{longest}
use Rattle.lines.proofs.FedLaws.{fed_by}
use Rattle.lines.proofs.fed.feed.Statement.{statement}
use Rattle.lines.proofs.fed.feed.Tie as tie

returns-then-n-le-LONGEST : tie.Need-returns-then-n-le-LONGEST
returns-then-n-le-LONGEST c =
    let a = c.args in
    sym (fed_by a.n a.b true true (eq-eqb a.b 10 c.if-b-eq10.true) (le-leb a.n longest c.if-n-le-LONGEST.true))

returns-then-b-eq10 : tie.Need-returns-then-b-eq10
returns-then-b-eq10 c =
    let a = c.args in
    sym (fed_by a.n a.b true false (eq-eqb a.b 10 c.if-b-eq10.true) (lt-leb a.n longest c.if-n-le-LONGEST.false))

overflow_add-result : tie.Need-overflow_add-result
overflow_add-result c = search rules

returns-then-n-le-LONGEST-2 : tie.Need-returns-then-n-le-LONGEST-2
returns-then-n-le-LONGEST-2 c =
    let a = c.args in
    sym (fed_by a.n a.b false true (ne_eqb a.b 10 c.if-b-eq10.false) (le-leb a.n longest c.if-n-le-LONGEST-2.true))

returns : tie.Need-returns
returns c =
    let a = c.args in
    sym (fed_by a.n a.b false false (ne_eqb a.b 10 c.if-b-eq10.false) (lt-leb a.n longest c.if-n-le-LONGEST-2.false))

pub feed_spec : {M : Type 1} → statement M
feed_spec = tie.close (tie.spec returns-then-n-le-LONGEST returns-then-b-eq10 overflow_add-result returns-then-n-le-LONGEST-2 returns)
