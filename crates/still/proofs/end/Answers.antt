-- What `still::end` writes lies within the lent bytes.
use Rattle.std.proofs.Common.{sym}
use lib.Seq.{length-take-le}
use Rattle.still_lines.proofs.StepLaws.{finish_fits}
use Rattle.still.proofs.end.Goals as goal

pub slice_bounds-write_all-end : goal.slice_bounds-write_all-end
slice_bounds-write_all-end g c = finish_fits _ _ c.in-Went.is c.finish.ensures

pub slice_bounds-write_all-end-in-Went : goal.slice_bounds-write_all-end-in-Went
slice_bounds-write_all-end-in-Went g c = sym (length-take-le _ _ (finish_fits _ _ c.in-Went.is c.finish.ensures))
