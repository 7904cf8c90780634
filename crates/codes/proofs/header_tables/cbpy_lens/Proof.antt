-- `codes::cbpy_lens` meets its contract: the constant is the definition computed. Assumes nothing.
use mathlib.Core.Path.{refl}
use Rattle.codes.proofs.header_tables.cbpy_lens.Statement.{statement}
use Rattle.codes.specs.Header.{cbpy_intra, cbpy_lens}
use Rattle.codes.proofs.header_tables.cbpy_lens.Tie as tie

returns : tie.Need-returns
unfolding cbpy_lens cbpy_intra
returns c = refl

pub cbpy_lens_spec : {M : Type 1} → statement M
cbpy_lens_spec = tie.close (tie.spec returns)
