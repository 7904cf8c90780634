-- `vaxembro::lent::header_of` meets its contract. Assumes nothing.
use borrow.Author.Rules.{rules}
use Rattle.vaxembro.specs.Lent.{header_by}
use Rattle.vaxembro.proofs.lent.header_of.Goals as goal

pub returns : goal.returns
unfolding header_by
returns c = rw (c.ac_pred_flag.ensures, c.not_coded.ensures, c.type_of-kind.ensures)
