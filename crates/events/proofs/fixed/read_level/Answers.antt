-- `events::fixed::read_level` meets its contract: a field with its marker, then the level told or refused. Assumes nothing.
use Rattle.bits.specs.Bits.{bits_from}
use Rattle.events.proofs.ChainLaws.{handed, marked-lt, passed_m, refused_m, settled_says}
use Rattle.events.specs.EventReader.{level}
use Rattle.fields.proofs.ChainLaws.{number_in, number_is}
use Rattle.events.proofs.fixed.read_level.Goals as goal

pub settle-requires : goal.settle-requires
settle-requires c =
    let d = c.args.«data».now in
    marked-lt 12 (bits_from d c.args.c.bit_pos) (number_is d _ _ c.read_marked.ensures c.in_ok-v.was)

pub returns-in_err-v : goal.returns-in_err-v
unfolding level
returns-in_err-v c =
    let d = c.args.«data».now in
    handed d c.args.table _ c.from_residual.ensures (refused_m d c.args.table 12 _ _ _ c.read_marked.ensures c.in_err-v.was)

pub returns : goal.returns
unfolding level
returns c =
    let a = c.args in
    let d = a.«data».now in
    let s = c.read_marked.ensures in
    let q = c.in_ok-v.was in
    passed_m d a.table 12 _ _ _ s q (settled_says d a.table a.last a.run c.in_ok-v.v _ _ c.settle.ensures (number_in d _ _ s q))
