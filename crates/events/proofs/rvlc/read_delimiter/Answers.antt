-- `events::rvlc::read_delimiter` meets its contract: four bits 0, then the sign. Assumes nothing.
use Rattle.std.proofs.Common.{arith, refl}
use borrow.Author.Tests.{eq-eqb, ne_eqb}
use Rattle.bits.specs.Bits.{bits_from}
use Rattle.events.proofs.ChainLaws.{handed, if_not, if_so, passed, refused}
use Rattle.events.specs.EventReader.{rvlc_delimiter}
use Rattle.fields.proofs.ChainLaws.{field-says}
use Rattle.fields.specs.Inside.{SaysNumber}
use Rattle.fields.specs.Reader.{field}
use Rattle.events.proofs.rvlc.read_delimiter.Goals as goal
use Rattle.events.proofs.rvlc.read_delimiter.Goals.{After-read_field}

-- the bits that are read first
said : (k : After-read_field) → SaysNumber k.args.«data».now k.read_field.result (field 4 (bits_from k.args.«data».now k.args.c.bit_pos))
said k = field-says k.args.«data».now k.args.c k.requires.0 _ 4 (omega arith) k.read_field.ensures.value

pub returns-in_err-window : goal.returns-in_err-window
unfolding rvlc_delimiter
returns-in_err-window c =
    let d = c.args.«data».now in
    handed d c.args.table _ c.from_residual.ensures (refused d c.args.table _ _ _ (said (goal.at.returns-in_err-window c).After-read_field) c.in_err-window.was)

pub returns-then-window-eq0 : goal.returns-then-window-eq0
unfolding rvlc_delimiter
returns-then-window-eq0 c =
    let d = c.args.«data».now in
    let t = c.args.table in
    passed d t _ _ _ (said (goal.at.returns-then-window-eq0 c).After-read_field) c.in_ok-window.was (if_so d t _ _ _ (eq-eqb _ 0 c.if-window-eq0.true) c.read_escape_sign.ensures)

pub returns : goal.returns
unfolding rvlc_delimiter
returns c =
    let d = c.args.«data».now in
    let t = c.args.table in
    passed d t _ _ _ (said (goal.at.returns c).After-read_field) c.in_ok-window.was (if_not d t _ _ _ (ne_eqb _ 0 c.if-window-eq0.false) (record { is = refl; inside = tt }))
