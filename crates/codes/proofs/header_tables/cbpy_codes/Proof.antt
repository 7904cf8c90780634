-- `codes::cbpy_codes` meets its contract: the constant is the definition computed. Assumes nothing.
use mathlib.Core.Path.{refl}
use Rattle.codes.proofs.header_tables.cbpy_codes.Statement.{statement}
use Rattle.codes.specs.Header.{cbpy_codes, cbpy_intra}
use Rattle.codes.proofs.header_tables.cbpy_codes.Tie as tie

returns : tie.Need-returns
unfolding cbpy_codes cbpy_intra
returns c = refl

pub cbpy_codes_spec : {M : Type 1} → statement M
cbpy_codes_spec = tie.close (tie.spec returns)
