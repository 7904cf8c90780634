-- `forms::kind::is_word` meets its contract: as `==` compares. Assumes nothing.
use Rattle.std.proofs.Common.{◌∙◌, sym}
use Rattle.forms.proofs.NumberLaws.{same_is}
use Rattle.forms.proofs.kind.is_word.Goals as goal

pub returns : goal.returns
returns c = c.eq.ensures ∙ sym (same_is _ _)
