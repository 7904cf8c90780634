-- `inverse_quant::row::put2` meets its contract: a row of zeros stays, and any other is `row2`'s. Assumes nothing.
use Rattle.std.proofs.Common.{sym, ◌∙◌}
use Rattle.inverse_quant.proofs.ZeroLaws.{zero_row2}
use Rattle.inverse_quant.proofs.row.put2.Goals as goal

pub returns-else-not-row_zero : goal.returns-else-not-row_zero
returns-else-not-row_zero c = c.requires.2 ∙ zero_row2 c.args.levels (sym c.row_zero.ensures ∙ c.if-not-row_zero.false) c.args.ctx
