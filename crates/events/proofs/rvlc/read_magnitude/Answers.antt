-- `events::rvlc::read_magnitude` meets its contract: a field with its marker, then the delimiter. Assumes nothing.
use Rattle.bits.specs.Bits.{bits_from}
use Rattle.events.proofs.ChainLaws.{handed, marked-lt, passed_m, refused_m}
use Rattle.events.specs.EventReader.{rvlc_magnitude}
use Rattle.fields.proofs.ChainLaws.{number_in, number_is}
use Rattle.events.proofs.rvlc.read_magnitude.Goals as goal

pub read_delimiter-requires : goal.read_delimiter-requires
read_delimiter-requires c =
    let d = c.args.«data».now in
    let m = c.read_marked.ensures in
    let q = c.in_ok-m.was in
    ((number_in d _ _ m q, c.requires.1), marked-lt 11 (bits_from d c.args.c.bit_pos) (number_is d _ _ m q))

pub returns-in_err-m : goal.returns-in_err-m
unfolding rvlc_magnitude
returns-in_err-m c =
    let d = c.args.«data».now in
    handed d c.args.table _ c.from_residual.ensures (refused_m d c.args.table 11 _ _ _ c.read_marked.ensures c.in_err-m.was)

pub returns : goal.returns
unfolding rvlc_magnitude
returns c = passed_m c.args.«data».now c.args.table 11 _ _ _ c.read_marked.ensures c.in_ok-m.was c.read_delimiter.ensures
