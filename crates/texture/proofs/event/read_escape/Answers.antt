-- `texture::event::read_escape` meets its contract: a bit chooses between type 1 and the others. Assumes nothing.
use Rattle.std.proofs.Common.{arith}
use borrow.Author.Tests.{eq-eqb, ne_eqb}
use Rattle.bits.specs.Bits.{bits_from}
use Rattle.events.proofs.ChainLaws.{handed, if_not, if_so, passed, refused}
use Rattle.events.specs.EventReader.{escaped}
use Rattle.fields.proofs.ChainLaws.{field-says}
use Rattle.fields.specs.Inside.{SaysNumber}
use Rattle.fields.specs.Reader.{field}
use Rattle.texture.proofs.event.read_escape.Goals as goal
use Rattle.texture.proofs.event.read_escape.Goals.{After-read_field}

-- the bit that is read first
said : (k : After-read_field) → SaysNumber k.args.«data».now k.read_field.result (field 1 (bits_from k.args.«data».now k.args.c.bit_pos))
said k = field-says k.args.«data».now k.args.c k.requires.0 _ 1 (omega arith) k.read_field.ensures.value

pub returns-in_err-a : goal.returns-in_err-a
unfolding escaped
returns-in_err-a c =
    let d = c.args.«data».now in
    handed d c.args.table _ c.from_residual.ensures (refused d c.args.table _ _ _ (said (goal.at.returns-in_err-a c).After-read_field) c.in_err-a.was)

pub returns-then-a-eq0 : goal.returns-then-a-eq0
unfolding escaped
returns-then-a-eq0 c =
    let d = c.args.«data».now in
    let t = c.args.table in
    passed d t _ _ _ (said (goal.at.returns-then-a-eq0 c).After-read_field) c.in_ok-a.was (if_so d t _ _ _ (eq-eqb _ 0 c.if-a-eq0.true) c.read_signed.ensures)

pub returns : goal.returns
unfolding escaped
returns c =
    let d = c.args.«data».now in
    let t = c.args.table in
    passed d t _ _ _ (said (goal.at.returns c).After-read_field) c.in_ok-a.was (if_not d t _ _ _ (ne_eqb _ 0 c.if-a-eq0.false) c.read_longer.ensures)
