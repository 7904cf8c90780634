-- `still_lines::steps::keep` meets its contract: room, or none, or a newline. Assumes nothing.
use Rattle.std.proofs.Common.{false, refl, sym, true}
use borrow.Author.Tests.{eq-eqb, le-ltb, lt-ltb, ne_eqb}
use Rattle.forms.specs.Forms.{longest}
use Rattle.still_lines.proofs.LineLaws.{line_by}
use Rattle.still_lines.proofs.steps.keep.Goals as goal
use Rattle.still_lines.proofs.steps.keep.Goals.{else-b-ne10-via-then-b-ne10+else-n-lt-LONGEST, else-b-ne10-via-else-b-ne10}

pub returns-then-n-lt-LONGEST : goal.returns-then-n-lt-LONGEST
returns-then-n-lt-LONGEST c =
    let a = c.args in
    sym (line_by a.line.now a.n a.b false true (ne_eqb a.b 10 c.if-b-ne10.true) (lt-ltb a.n longest c.if-n-lt-LONGEST.true))

pub returns-else-b-ne10 : goal.returns-else-b-ne10
returns-else-b-ne10 c =
    let a = c.args in
    elim c.else-b-ne10.branch [
      | else-b-ne10-via-then-b-ne10+else-n-lt-LONGEST w ↦ sym (line_by a.line.now a.n a.b false false (ne_eqb a.b 10 w.if-b-ne10.true) (le-ltb a.n longest w.if-n-lt-LONGEST.false))
      | else-b-ne10-via-else-b-ne10 w ↦ sym (line_by a.line.now a.n a.b true _ (eq-eqb a.b 10 w.if-b-ne10.false) refl)
    ]
