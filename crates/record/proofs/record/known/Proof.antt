-- `record::record::known` meets its contract: the numbers of block b, read one by one. Assumes nothing.
use mathlib.Core.Path.{ap, ◌∙◌}
use borrow.Author.Rules.{rules}
use Rattle.numbers.proofs.Words.{held}
use Rattle.record.specs.Record.{quantiser_of}
use Rattle.record.proofs.KnownLaws.{known_is}
use Rattle.record.proofs.record.known.Statement.{statement}
use Rattle.record.proofs.record.known.Tie as tie

overflow_mul-base : tie.Need-overflow_mul-base
overflow_mul-base c = search rules

overflow_add-base : tie.Need-overflow_add-base
overflow_add-base c = search rules

number-dc-requires : tie.Need-number-dc-requires
number-dc-requires c κs = search rules

overflow_add-start : tie.Need-overflow_add-start
overflow_add-start c = search rules

number-requires : tie.Need-number-requires
number-requires c κs = search rules

quantiser-qp-requires : tie.Need-quantiser-qp-requires
quantiser-qp-requires c κs = search rules

overflow_add-base-2 : tie.Need-overflow_add-base-2
overflow_add-base-2 c = search rules

seven-row-requires : tie.Need-seven-row-requires
seven-row-requires c κs = search rules

overflow_add-base-3 : tie.Need-overflow_add-base-3
overflow_add-base-3 c = search rules

seven-column-requires : tie.Need-seven-column-requires
seven-column-requires c κs = search rules

returns : tie.Need-returns
returns c =
    let q = c.before.before in
    let m = q.before in
    let n = m.before in
    let s = n.before in
    known_is s.args.s.now s.args.at s.args.b
    (held n.number-dc.result n.number-dc.type_inv ∙ n.number-dc.ensures)
    (q.quantiser-qp.ensures ∙ ap quantiser_of (held m.number.result m.number.type_inv ∙ m.number.ensures))
    c.seven-row.ensures
    c.seven-column.ensures

pub known_spec : {M : Type 1} → statement M
known_spec =
    tie.close
    (tie.spec
    overflow_mul-base
    overflow_add-base
    number-dc-requires
    overflow_add-start
    number-requires
    quantiser-qp-requires
    overflow_add-base-2
    seven-row-requires
    overflow_add-base-3
    seven-column-requires
    returns)
