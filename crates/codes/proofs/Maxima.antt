-- The printed cells of Tables B.19 to B.22 are what Tables B.16 and B.17 give, at every last and every run or level below 64. Assumes nothing.
use mathlib.Core.Bool.{◌&&◌}
use lib.Dec.{T}
use Rattle.codes.specs.Maxima.{printed, agree_below, cell_at, lmax_intra, lmax_inter, rmax_intra, rmax_inter}
use Rattle.codes.specs.Tcoef.{tcoef_intra, tcoef_inter, lmax_of, rmax_of}

pub cells-printed : T (printed lmax_intra (lmax_of tcoef_intra) 64 && (printed lmax_inter (lmax_of tcoef_inter) 64 && (printed rmax_intra (rmax_of tcoef_intra) 64 && printed rmax_inter (rmax_of tcoef_inter) 64)))
unfolding agree_below cell_at lmax_intra lmax_inter rmax_intra rmax_inter tcoef_intra tcoef_inter lmax_of rmax_of
cells-printed = tt
