-- `codes::mcbpc_lens` meets its contract: the constant is the definition computed. Assumes nothing.
use mathlib.Core.Path.{refl}
use Rattle.codes.proofs.header_tables.mcbpc_lens.Statement.{statement}
use Rattle.codes.specs.Header.{mcbpc_intra, mcbpc_lens}
use Rattle.codes.proofs.header_tables.mcbpc_lens.Tie as tie

returns : tie.Need-returns
unfolding mcbpc_lens mcbpc_intra
returns c = refl

pub mcbpc_lens_spec : {M : Type 1} → statement M
mcbpc_lens_spec = tie.close (tie.spec returns)
