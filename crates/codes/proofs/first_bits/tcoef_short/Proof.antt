-- `codes::first_bits::tcoef_short` meets its contract: the constant is the definition computed. Assumes nothing.
use mathlib.Core.Path.{refl}
use Rattle.numbers.specs.Grid.{build}
use Rattle.codes.specs.FirstBits.{packed_in, short_rows}
use Rattle.codes.specs.Tcoef.{tcoef_intra}
use Rattle.codes.proofs.first_bits.tcoef_short.Statement.{statement}
use Rattle.codes.proofs.first_bits.tcoef_short.Tie as tie

returns : tie.Need-returns
unfolding short_rows build packed_in tcoef_intra
returns c = refl

pub tcoef_short_spec : {M : Type 1} → statement M
tcoef_short_spec = tie.close (tie.spec returns)
