-- `dc_parts::dc::read_additional` meets its contract: the bits, and a marker above size 8. Assumes nothing.
use Rattle.std.proofs.Common.{arith, refl, length, ◌*◌, ◌≤◌}
use borrow.Author.Tests.{le-leb, lt-leb}
use Rattle.bits.specs.Bits.{bits_from}
use Rattle.dc_parts.specs.DcReader.{dc_tail}
use Rattle.fields.proofs.ChainLaws.{field-says, handed_n, if_not_n, if_so_n, marker-says, number_in, passed_n, refused_n}
use Rattle.fields.specs.Inside.{SaysNumber}
use Rattle.fields.specs.Reader.{field, marker}
use Rattle.fields.specs.declared.error.TextureParseError.TheVariants.{MarkerBitMissing}
use Rattle.dc_parts.proofs.dc.read_additional.Goals as goal
use Rattle.dc_parts.proofs.dc.read_additional.Goals.{After-read_field, After-read_marker}

-- the bits that are read first
said : (k : After-read_field) → SaysNumber k.args.«data».now k.read_field.result (field k.args.size (bits_from k.args.«data».now k.args.c.bit_pos))
said k = let h = k.requires.1 in field-says k.args.«data».now k.args.c k.requires.0 _ k.args.size (omega arith) k.read_field.ensures.value

-- and the marker
then : (k : After-read_marker) → k.in_ok-a.next.bit_pos ≤ 8 * length k.args.«data».now → SaysNumber k.args.«data».now k.read_marker.result (marker MarkerBitMissing (bits_from k.args.«data».now k.in_ok-a.next.bit_pos))
then k h = marker-says k.args.«data».now k.in_ok-a.next (h, k.requires.0.1) _ MarkerBitMissing k.read_marker.ensures.value

pub returns-in_err-a : goal.returns-in_err-a
unfolding dc_tail
returns-in_err-a c =
    let s = said (goal.at.returns-in_err-a c).After-read_field in
    handed_n c.args.«data».now _ c.from_residual.ensures (refused_n c.args.«data».now _ _ _ s c.in_err-a.was)

pub returns-then-size-le8 : goal.returns-then-size-le8
unfolding dc_tail
returns-then-size-le8 c =
    let d = c.args.«data».now in
    let s = said (goal.at.returns-then-size-le8 c).After-read_field in
    let q = c.in_ok-a.was in
    passed_n d _ _ _ s q (if_so_n d _ _ _ (le-leb _ _ c.if-size-le8.true) (record { is = refl; inside = number_in d _ _ s q }))

pub returns-in_err-after : goal.returns-in_err-after
unfolding dc_tail
returns-in_err-after c =
    let d = c.args.«data».now in
    let s = said (goal.at.returns-in_err-after c).After-read_field in
    let q = c.in_ok-a.was in
    let m = then (goal.at.returns-in_err-after c).After-read_marker (number_in d _ _ s q) in
    handed_n d _ c.from_residual-in_err-after.ensures (passed_n d _ _ _ s q (if_not_n d _ _ _ (lt-leb _ _ c.if-size-le8.false) (refused_n d _ _ _ m c.in_err-after.was)))

pub returns : goal.returns
unfolding dc_tail
returns c =
    let d = c.args.«data».now in
    let s = said (goal.at.returns c).After-read_field in
    let q = c.in_ok-a.was in
    let m = then (goal.at.returns c).After-read_marker (number_in d _ _ s q) in
    let p = c.in_ok-after.was in
    passed_n d _ _ _ s q (if_not_n d _ _ _ (lt-leb _ _ c.if-size-le8.false) (passed_n d _ _ _ m p (record { is = refl; inside = number_in d _ _ m p })))
