-- `idct::rows::dc_pass` meets its contract. Assumes nothing.
use borrow.Author.Rules.{rules}
use Rattle.idct.proofs.DcAlone.{dc-pass-is}
use Rattle.idct.proofs.rows.dc_pass.Statement.{statement}
use Rattle.idct.proofs.rows.dc_pass.Tie as tie

c-requires : tie.Need-c-requires
c-requires c κs = search rules

returns : tie.Need-returns
returns c = dc-pass-is c.c.result c.args.value c.c.ensures

pub dc_pass_spec : {M : Type 1} → statement M
dc_pass_spec = tie.close (tie.spec c-requires returns)
