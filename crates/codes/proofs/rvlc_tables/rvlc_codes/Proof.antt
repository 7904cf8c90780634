-- `codes::rvlc_codes` meets its contract: the constant is the definition computed. Assumes nothing.
use mathlib.Core.Path.{refl}
use Rattle.codes.proofs.rvlc_tables.rvlc_codes.Statement.{statement}
use Rattle.codes.specs.Rvlc.{rvlc_codes, rvlc_tcoef}
use Rattle.codes.proofs.rvlc_tables.rvlc_codes.Tie as tie

returns : tie.Need-returns
unfolding rvlc_codes rvlc_tcoef
returns c = refl

pub rvlc_codes_spec : {M : Type 1} → statement M
rvlc_codes_spec = tie.close (tie.spec returns)
