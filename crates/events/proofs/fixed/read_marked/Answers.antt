-- `events::fixed::read_marked` meets its contract: the bits, and the marker. Assumes nothing.
use Rattle.std.proofs.Common.{refl, length, ◌*◌, ◌≤◌}
use Rattle.bits.specs.Bits.{bits_from}
use Rattle.events.specs.Inside.{marked}
use Rattle.fields.proofs.ChainLaws.{field-says, handed_n, marker-says, number_in, passed_n, refused_n}
use Rattle.fields.specs.Inside.{SaysNumber}
use Rattle.fields.specs.Reader.{field, marker}
use Rattle.fields.specs.declared.error.TextureParseError.TheVariants.{EscapeMarkerBitMissing}
use Rattle.events.proofs.fixed.read_marked.Goals as goal
use Rattle.events.proofs.fixed.read_marked.Goals.{After-read_field, After-read_marker}

-- the bits that are read first
said : (k : After-read_field) → SaysNumber k.args.«data».now k.read_field.result (field k.args.n (bits_from k.args.«data».now k.args.c.bit_pos))
said k = field-says k.args.«data».now k.args.c k.requires.0 _ k.args.n k.requires.1 k.read_field.ensures.value

-- and the marker
then : (k : After-read_marker) → k.in_ok-v.next.bit_pos ≤ 8 * length k.args.«data».now → SaysNumber k.args.«data».now k.read_marker.result (marker EscapeMarkerBitMissing (bits_from k.args.«data».now k.in_ok-v.next.bit_pos))
then k h = marker-says k.args.«data».now k.in_ok-v.next (h, k.requires.0.1) _ EscapeMarkerBitMissing k.read_marker.ensures.value

pub returns-in_err-v : goal.returns-in_err-v
unfolding marked
returns-in_err-v c =
    let s = said (goal.at.returns-in_err-v c).After-read_field in
    handed_n c.args.«data».now _ c.from_residual.ensures (refused_n c.args.«data».now _ _ _ s c.in_err-v.was)

pub returns-in_err-after : goal.returns-in_err-after
unfolding marked
returns-in_err-after c =
    let d = c.args.«data».now in
    let s = said (goal.at.returns-in_err-after c).After-read_field in
    let q = c.in_ok-v.was in
    let m = then (goal.at.returns-in_err-after c).After-read_marker (number_in d _ _ s q) in
    handed_n d _ c.from_residual-in_err-after.ensures (passed_n d _ _ _ s q (refused_n d _ _ _ m c.in_err-after.was))

pub returns : goal.returns
unfolding marked
returns c =
    let d = c.args.«data».now in
    let s = said (goal.at.returns c).After-read_field in
    let q = c.in_ok-v.was in
    let m = then (goal.at.returns c).After-read_marker (number_in d _ _ s q) in
    let p = c.in_ok-after.was in
    passed_n d _ _ _ s q (passed_n d _ _ _ m p (record { is = refl; inside = number_in d _ _ m p }))
