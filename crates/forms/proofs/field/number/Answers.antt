-- `forms::field::number` meets its contract: the first word, where there is one, as a number. Assumes nothing.
use Rattle.std.proofs.Common.{◌∙◌, sym}
use Rattle.forms.proofs.FormLaws.{says-bad, says_value}
use Rattle.forms.specs.Words.{number_in}
use Rattle.forms.proofs.field.number.Goals as goal

pub returns-in_err-v : goal.returns-in_err-v
returns-in_err-v c =
    let a = c.args in
    rw c.from_residual.ensures (says-bad (number_in a.most) a.line.now a.from a.to c.if-to-from.false c.requires.1.0 _ c.word_end-e.ensures.0 (sym c.in_err-v.was ∙ c.value.ensures))

pub returns : goal.returns
returns c =
    let a = c.args in
    says_value (number_in a.most) a.line.now a.from a.to c.if-to-from.false c.requires.1.0 _ c.word_end-e.ensures.0 _ (sym c.in_ok-v.was ∙ c.value.ensures)
