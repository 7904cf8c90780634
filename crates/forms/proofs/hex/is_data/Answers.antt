-- `forms::hex::is_data` meets its contract: two digits or more, and an even number of them. Assumes nothing.
use Rattle.std.proofs.Common.{◌≡◌, ◌∙◌, ◌-◌, ◌%◌, eqb, false, sym, true}
use Rattle.std.proofs.lemmas.Bool.{false≢true}
use borrow.Author.Tests.{le-leb, lt-leb}
use Rattle.forms.proofs.HexLaws.{part_tests}
use Rattle.forms.proofs.hex.is_data.Goals as goal
use Rattle.forms.proofs.hex.is_data.Goals.{then-n-ge2, else-n-ge2}

pub returns-then-n-eq0 : goal.returns-then-n-eq0
returns-then-n-eq0 c =
    let a = c.args in
    elim c.if-n-ge2.branch [
      | then-n-ge2 w ↦ (let e : eqb ((a.to - a.from) % 2) 0 ≡ true = sym w.value-is ∙ c.if-n-eq0.true in
          c.all_hex.ensures ∙ sym (part_tests a.line.now a.from a.to c.requires.1 ∙ rw (le-leb 2 _ w.if-n-ge2.true, e)))
      | else-n-ge2 w ↦ absurd (false≢true (sym (lt-leb 2 _ w.if-n-ge2.false) ∙ sym w.value-is ∙ c.if-n-eq0.true))
    ]

pub returns-else-n-eq0 : goal.returns-else-n-eq0
returns-else-n-eq0 c =
    let a = c.args in
    elim c.if-n-ge2.branch [
      | then-n-ge2 w ↦ (let e : eqb ((a.to - a.from) % 2) 0 ≡ false = sym w.value-is ∙ c.if-n-eq0.false in
          c.if-n-eq0.false ∙ sym (part_tests a.line.now a.from a.to c.requires.1 ∙ rw (le-leb 2 _ w.if-n-ge2.true, e)))
      | else-n-ge2 w ↦ c.if-n-eq0.false ∙ sym (part_tests a.line.now a.from a.to c.requires.1 ∙ rw (lt-leb 2 _ w.if-n-ge2.false))
    ]
