-- `codes::tcoef_lens` meets its contract: the constant is the definition computed. Assumes nothing.
use mathlib.Core.Path.{refl}
use Rattle.codes.proofs.tcoef_tables.tcoef_lens.Statement.{statement}
use Rattle.codes.specs.Tcoef.{tcoef_intra, vlc_lens}
use Rattle.codes.proofs.tcoef_tables.tcoef_lens.Tie as tie

returns : tie.Need-returns
unfolding vlc_lens tcoef_intra
returns c = refl

pub tcoef_lens_spec : {M : Type 1} → statement M
tcoef_lens_spec = tie.close (tie.spec returns)
