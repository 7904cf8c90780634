-- `codes::tcoef_codes` meets its contract: the constant is the definition computed. Assumes nothing.
use mathlib.Core.Path.{refl}
use Rattle.codes.proofs.tcoef_tables.tcoef_codes.Statement.{statement}
use Rattle.codes.specs.Tcoef.{tcoef_intra, vlc_codes}
use Rattle.codes.proofs.tcoef_tables.tcoef_codes.Tie as tie

returns : tie.Need-returns
unfolding vlc_codes tcoef_intra
returns c = refl

pub tcoef_codes_spec : {M : Type 1} → statement M
tcoef_codes_spec = tie.close (tie.spec returns)
