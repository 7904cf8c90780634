-- `idct::rows::row_terms` meets its contract. Assumes nothing.
use borrow.Author.Rules.{rules}
use Rattle.idct.proofs.Blocks.{row_terms_lem}
use Rattle.idct.proofs.rows.row_terms.Statement.{statement}
use Rattle.idct.proofs.rows.row_terms.Tie as tie

row_in-input-requires : tie.Need-row_in-input-requires
row_in-input-requires c κs = search rules

idct_1d-transformed-requires : tie.Need-idct_1d-transformed-requires
idct_1d-transformed-requires c κs = search rules

c-requires : tie.Need-c-requires
c-requires c κs = search rules

scaled-requires : tie.Need-scaled-requires
scaled-requires c κs = search rules

returns : tie.Need-returns
returns c =
    let k = c.before in
    let t = k.before in
    let i = t.before in
    let a = i.args in
    row_terms_lem a.row a.v i.row_in-input.result t.idct_1d-transformed.result c.scaled.result k.c.result i.row_in-input.ensures t.idct_1d-transformed.ensures k.c.ensures c.scaled.ensures

pub row_terms_spec : {M : Type 1} → statement M
row_terms_spec =
    tie.close (tie.spec row_in-input-requires idct_1d-transformed-requires c-requires scaled-requires returns)
