-- `events::rvlc::read_escape_sign` meets its contract: the sign, then the event told or refused. Assumes nothing.
use Rattle.std.proofs.Common.{arith}
use Rattle.bits.specs.Bits.{bits_from}
use Rattle.events.proofs.ChainLaws.{handed, passed, refused, rvlc-settled-says}
use Rattle.events.specs.EventReader.{rvlc_sign}
use Rattle.fields.proofs.ChainLaws.{field-says, number_in}
use Rattle.fields.specs.Inside.{SaysNumber}
use Rattle.fields.specs.Reader.{field}
use Rattle.events.proofs.rvlc.read_escape_sign.Goals as goal
use Rattle.events.proofs.rvlc.read_escape_sign.Goals.{After-read_field}

-- the bits that are read first
said : (k : After-read_field) → SaysNumber k.args.«data».now k.read_field.result (field 1 (bits_from k.args.«data».now k.args.c.bit_pos))
said k = field-says k.args.«data».now k.args.c k.requires.0 _ 1 (omega arith) k.read_field.ensures.value

pub returns-in_err-sign : goal.returns-in_err-sign
unfolding rvlc_sign
returns-in_err-sign c =
    let d = c.args.«data».now in
    handed d c.args.table _ c.from_residual.ensures (refused d c.args.table _ _ _ (said (goal.at.returns-in_err-sign c).After-read_field) c.in_err-sign.was)

pub returns : goal.returns
unfolding rvlc_sign
returns c =
    let a = c.args in
    let d = a.«data».now in
    let s = said (goal.at.returns c).After-read_field in
    let q = c.in_ok-sign.was in
    passed d a.table _ _ _ s q (rvlc-settled-says d a.table a.last a.run a.magnitude _ _ _ c.settle.ensures (number_in d _ _ s q))
