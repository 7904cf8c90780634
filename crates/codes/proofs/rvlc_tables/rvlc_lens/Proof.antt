-- `codes::rvlc_lens` meets its contract: the constant is the definition computed. Assumes nothing.
use mathlib.Core.Path.{refl}
use Rattle.codes.proofs.rvlc_tables.rvlc_lens.Statement.{statement}
use Rattle.codes.specs.Rvlc.{rvlc_lens, rvlc_tcoef}
use Rattle.codes.proofs.rvlc_tables.rvlc_lens.Tie as tie

returns : tie.Need-returns
unfolding rvlc_lens rvlc_tcoef
returns c = refl

pub rvlc_lens_spec : {M : Type 1} → statement M
rvlc_lens_spec = tie.close (tie.spec returns)
