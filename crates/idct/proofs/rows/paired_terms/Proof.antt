-- `idct::rows::paired_terms` meets its contract. Assumes nothing.
use borrow.Author.Rules.{rules}
use Rattle.idct.proofs.EvenOddLaws.{paired_terms}
use Rattle.idct.proofs.rows.paired_terms.Statement.{statement}
use Rattle.idct.proofs.rows.paired_terms.Tie as tie

half_sums-e-requires : tie.Need-half_sums-e-requires
half_sums-e-requires c κs = search rules

half_sums-o-requires : tie.Need-half_sums-o-requires
half_sums-o-requires c κs = search rules

c-requires : tie.Need-c-requires
c-requires c κs = search rules

both_terms-requires : tie.Need-both_terms-requires
both_terms-requires c κs = search rules

returns : tie.Need-returns
returns c =
    let k = c.before in
    let o = k.before in
    let e = o.before in
    let a = e.args in
    paired_terms a.row.now a.v e.half_sums-e.result o.half_sums-o.result c.both_terms.result k.c.result e.half_sums-e.ensures o.half_sums-o.ensures k.c.ensures c.both_terms.ensures

pub paired_terms_spec : {M : Type 1} → statement M
paired_terms_spec =
    tie.close
    (tie.spec half_sums-e-requires half_sums-o-requires c-requires both_terms-requires returns)
