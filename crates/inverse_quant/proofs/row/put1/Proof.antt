-- `inverse_quant::row::put1` meets its contract: a row of zeros stays, and any other is `row1`'s. Assumes nothing.
use mathlib.Core.Path.{◌≡◌, ap, sym, ◌∙◌}
use lib.ListN.{length}
use mir.Syntax.{w32}
use borrow.Author.Rules.{rules}
use borrow.Kind.Array.{e_s_int, good_length}
use Rattle.inverse_quant.specs.ByRows.{row_by1, with_row, zeros}
use Rattle.inverse_quant.proofs.ByRowsLaws.{values_row1}
use Rattle.inverse_quant.proofs.RowSums.{nothing_added}
use Rattle.inverse_quant.proofs.ZeroLaws.{zero_row1}
use Rattle.inverse_quant.proofs.row.put1.Statement.{statement}
use Rattle.inverse_quant.proofs.row.put1.Tie as tie

row_zero-requires : tie.Need-row_zero-requires
row_zero-requires c κs = search rules

returns-then-row_zero : tie.Need-returns-then-row_zero
returns-then-row_zero c =
    let s = c.before.before in
    let z = sym c.row_zero.ensures ∙ c.if-row_zero.true in
    let e : zeros ≡ row_by1 s.args.ctx s.args.weights s.args.levels = zero_row1 s.args.levels z s.args.ctx s.args.weights in
    let long : length s.args.sums ≡ 8 = good_length (e_s_int w32) 8 s.args.sums _ s.well_formed.1.1.1.1.0 in
    (s.requires.2 ∙ e, nothing_added s.args.sums long ∙ ap (with_row s.args.sums) e)

row1-values-requires : tie.Need-row1-values-requires
row1-values-requires c κs = search rules

added-more-requires : tie.Need-added-more-requires
added-more-requires c κs =
    let s = c.before.before.before in
    (s.requires.3, rw c.row1-values.ensures (values_row1 s.args.ctx s.args.weights s.args.levels s.requires.1.depth))

returns : tie.Need-returns
returns c =
    let r = c.row1-values.ensures in
    (r, c.added-more.ensures ∙ ap (with_row c.args.sums) r)

pub put1_spec : {M : Type 1} → statement M
put1_spec = tie.close (tie.spec row_zero-requires returns-then-row_zero row1-values-requires added-more-requires returns)
