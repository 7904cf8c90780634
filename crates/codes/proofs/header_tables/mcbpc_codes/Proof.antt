-- `codes::mcbpc_codes` meets its contract: the constant is the definition computed. Assumes nothing.
use mathlib.Core.Path.{refl}
use Rattle.codes.proofs.header_tables.mcbpc_codes.Statement.{statement}
use Rattle.codes.specs.Header.{mcbpc_codes, mcbpc_intra}
use Rattle.codes.proofs.header_tables.mcbpc_codes.Tie as tie

returns : tie.Need-returns
unfolding mcbpc_codes mcbpc_intra
returns c = refl

pub mcbpc_codes_spec : {M : Type 1} → statement M
mcbpc_codes_spec = tie.close (tie.spec returns)
