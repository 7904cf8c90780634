-- `assembly::matrix::default_intra_quant_matrix` meets its contract: the two tables are the same. Assumes nothing.
use Rattle.std.proofs.Common.{refl}
use Rattle.assembly.specs.Matrix.{default_intra}
use Rattle.assembly.proofs.matrix.default_intra_quant_matrix.Goals as goal

pub returns : goal.returns
unfolding default_intra
returns c = refl
