-- `codes::first_bits::lmax_intra` meets its contract: the constant is the definition computed. Assumes nothing.
use Rattle.numbers.specs.Grid.{build}
use Rattle.codes.specs.FirstBits.{lmax_rows}
use Rattle.codes.specs.Tcoef.{lmax_of, tcoef_intra}
use borrow.Author.Rules.{rules}
use Rattle.codes.proofs.first_bits.lmax_intra.Statement.{statement}
use Rattle.codes.proofs.first_bits.lmax_intra.Tie as tie

small_number-requires : tie.Need-small_number-requires
small_number-requires c κs = search rules

returns : tie.Need-returns
unfolding lmax_rows build lmax_of tcoef_intra
returns c = c.small_number.ensures

pub lmax_intra_spec : {M : Type 1} → statement M
lmax_intra_spec = tie.close (tie.spec small_number-requires returns)
