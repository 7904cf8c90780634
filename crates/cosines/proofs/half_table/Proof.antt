-- `cosines::half_table` meets its contract, each cosine by its turn. Assumes nothing.
use mathlib.Core.Path.{refl}
use lib.Ieee.{neg, of_bits}
use Rattle.numbers.specs.Grid.{build}
use Rattle.cosines.specs.Cosines.{by_turn_f}
use Rattle.cosines.proofs.half_table.Statement.{statement}
use Rattle.cosines.proofs.half_table.Tie as tie

returns : tie.Need-returns
unfolding build by_turn_f neg of_bits
returns c = refl

pub half_table_spec : {M : Type 1} → statement M
half_table_spec = tie.close (tie.spec returns)
