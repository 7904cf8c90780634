-- `texture::event::read_longer` meets its contract: a bit chooses between type 2 and type 3. Assumes nothing.
use Rattle.std.proofs.Common.{Ok, arith, ◌≡◌, ℕ}
use borrow.Author.Tests.{eq-eqb, ne_eqb}
use Rattle.bits.specs.Bits.{bits_from}
use Rattle.bits.specs.declared.cursor.Cursor.{Cursor}
use Rattle.events.proofs.ChainLaws.{fixed-says, handed, if_not, if_so, passed, refused}
use Rattle.events.specs.EventReader.{longer}
use Rattle.fields.proofs.ChainLaws.{field-says, number_in}
use Rattle.fields.specs.Inside.{Readable, SaysNumber}
use Rattle.fields.specs.Reader.{field}
use Rattle.texture.proofs.event.read_longer.Goals as goal
use Rattle.texture.proofs.event.read_longer.Goals.{After-read_field}

-- the bit that is read first
said : (k : After-read_field) → SaysNumber k.args.«data».now k.read_field.result (field 1 (bits_from k.args.«data».now k.args.c.bit_pos))
said k = field-says k.args.«data».now k.args.c k.requires.0 _ 1 (omega arith) k.read_field.ensures.value

-- what is left after it
left : (k : After-read_field) {v : ℕ} {next : Cursor} → k.read_field.result ≡ Ok (v, next) → Readable k.args.«data».now next
left k q = (number_in k.args.«data».now _ _ (said k) q, k.requires.0.1)

pub returns-in_err-a : goal.returns-in_err-a
unfolding longer
returns-in_err-a c =
    let d = c.args.«data».now in
    handed d c.args.table _ c.from_residual.ensures (refused d c.args.table _ _ _ (said (goal.at.returns-in_err-a c).After-read_field) c.in_err-a.was)

pub returns-then-a-eq0 : goal.returns-then-a-eq0
unfolding longer
returns-then-a-eq0 c =
    let d = c.args.«data».now in
    let t = c.args.table in
    passed d t _ _ _ (said (goal.at.returns-then-a-eq0 c).After-read_field) c.in_ok-a.was (if_so d t _ _ _ (eq-eqb _ 0 c.if-a-eq0.true) c.read_signed.ensures)

pub returns : goal.returns
unfolding longer
returns c =
    let d = c.args.«data».now in
    let t = c.args.table in
    passed d t _ _ _ (said (goal.at.returns c).After-read_field) c.in_ok-a.was (if_not d t _ _ _ (ne_eqb _ 0 c.if-a-eq0.false) (fixed-says d _ (left (goal.at.returns c).After-read_field c.in_ok-a.was) _ t c.read_fixed.ensures.value))
