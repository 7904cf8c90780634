-- `codes::first_bits::tcoef_long` meets its contract: the constant is the definition computed. Assumes nothing.
use mathlib.Core.Path.{refl}
use Rattle.numbers.specs.Grid.{build}
use Rattle.codes.specs.FirstBits.{long_rows, packed_in}
use Rattle.codes.specs.Tcoef.{tcoef_intra}
use Rattle.codes.proofs.first_bits.tcoef_long.Statement.{statement}
use Rattle.codes.proofs.first_bits.tcoef_long.Tie as tie

returns : tie.Need-returns
unfolding long_rows build packed_in tcoef_intra
returns c = refl

pub tcoef_long_spec : {M : Type 1} → statement M
tcoef_long_spec = tie.close (tie.spec returns)
