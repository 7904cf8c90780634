-- `headers::parse::parse_macroblock_header` meets its contract: 11, 12, then the header by one window or part by part. Assumes nothing.
use Rattle.std.proofs.Common.{ap, arith, length, sym, true, ◌*◌, ◌<◌, ◌≡◌, ◌≤◌, ◌∙◌}
use Rattle.bits.proofs.CursorLaws.{in_data_yes}
use Rattle.bits.specs.Bits.{bits_from}
use Rattle.bits.specs.Cursor.{in_data}
use Rattle.numbers.proofs.Tests.{flag_passes, flag_refuses}
use Rattle.ranges.proofs.RangeLaws.{quantiser_range}
use Rattle.ranges.specs.Range.{quantiser_fine}
use Rattle.headers.proofs.AnswerLaws.{header-context, given_told, header-out, header_read, header_read_due_lem}
use Rattle.headers.proofs.PartLaws.{Told, told}
use Rattle.headers.specs.Outcomes.{header_read_outcome}
use Rattle.headers.proofs.parse.parse_macroblock_header.Goals as goal
use Rattle.headers.proofs.parse.parse_macroblock_header.Goals.{Else-not-fine, Else-one-eq0}

-- the tests pass
inside : (k : Else-not-fine) → in_data (length k.args.«data».now) k.args.c.bit_pos ≡ true
inside k = flag_passes k.readable.ensures k.if-not-readable.false

small : (k : Else-not-fine) → (length k.args.«data».now ≤ 1048576) × (k.args.c.bit_pos ≤ 8 * length k.args.«data».now)
small k = in_data_yes (length k.args.«data».now) k.args.c.bit_pos (inside k)

fine : (k : Else-not-fine) → quantiser_fine k.args.quantiser_scale ≡ true
fine k = flag_passes k.fine.ensures k.if-not-fine.false

below : (k : Else-not-fine) → k.args.quantiser_scale < 32
below k = let q = quantiser_range k.args.quantiser_scale (fine k) in omega arith

-- the window tells the parts
parts : (k : Else-one-eq0) → Told (bits_from k.args.«data».now k.args.c.bit_pos) k.parts_at-one.result.parts (bits_from k.args.«data».now k.parts_at-one.result.next)
parts k = told (bits_from k.args.«data».now k.args.c.bit_pos) _ _ (sym (k.parts_at-one.ensures k.if-one-eq0.false).is)

pub returns-then-not-readable-clause-value : goal.returns-then-not-readable-clause-value
returns-then-not-readable-clause-value c = header-out c.args.«data».now c.args.c.bit_pos c.args.quantiser_scale (flag_refuses c.readable.ensures c.if-not-readable.true)

pub returns-then-not-readable-clause-outcome : goal.returns-then-not-readable-clause-outcome
returns-then-not-readable-clause-outcome c = ap header_read_outcome (returns-then-not-readable-clause-value c) ∙ header_read_due_lem c.args.«data».now c.args.c.bit_pos c.args.quantiser_scale

pub returns-then-not-fine-clause-value : goal.returns-then-not-fine-clause-value
returns-then-not-fine-clause-value c =
    header-context c.args.«data».now c.args.c.bit_pos c.args.quantiser_scale (flag_passes c.readable.ensures c.if-not-readable.false) (flag_refuses c.fine.ensures c.if-not-fine.true)

pub returns-then-not-fine-clause-outcome : goal.returns-then-not-fine-clause-outcome
returns-then-not-fine-clause-outcome c = ap header_read_outcome (returns-then-not-fine-clause-value c) ∙ header_read_due_lem c.args.«data».now c.args.c.bit_pos c.args.quantiser_scale

pub parts_at-one-requires : goal.parts_at-one-requires
parts_at-one-requires c = let y = small (goal.at.parts_at-one-requires c).Else-not-fine in (y.1, y.0)

pub parse_plainly-requires : goal.parse_plainly-requires
parse_plainly-requires c =
    let e = (goal.at.parse_plainly-requires c).Else-not-fine in
    let y = small e in
    ((y.1, y.0), below e)

pub returns-then-one-eq0-clause-value : goal.returns-then-one-eq0-clause-value
returns-then-one-eq0-clause-value c =
    let e = (goal.at.returns-then-one-eq0-clause-value c).Else-not-fine in
    c.parse_plainly.ensures ∙ sym (header_read c.args.«data».now c.args.c.bit_pos c.args.quantiser_scale (inside e) (fine e))

pub returns-then-one-eq0-clause-outcome : goal.returns-then-one-eq0-clause-outcome
returns-then-one-eq0-clause-outcome c = ap header_read_outcome (returns-then-one-eq0-clause-value c) ∙ header_read_due_lem c.args.«data».now c.args.c.bit_pos c.args.quantiser_scale

pub fields_of-fields-requires : goal.fields_of-fields-requires
fields_of-fields-requires c =
    let k = goal.at.fields_of-fields-requires c in
    ((parts k.Else-one-eq0).fine, below k.Else-not-fine)

pub returns-clause-value : goal.returns-clause-value
returns-clause-value c =
    let k = goal.at.returns-clause-value c in
    let d = c.args.«data».now in
    given_told d c.args.c.bit_pos c.args.quantiser_scale _ _ (c.parts_at-one.ensures c.if-one-eq0.false).inside (parts k.Else-one-eq0) _ c.fields_of-fields.ensures
    ∙ sym (header_read d c.args.c.bit_pos c.args.quantiser_scale (inside k.Else-not-fine) (fine k.Else-not-fine))

pub returns-clause-outcome : goal.returns-clause-outcome
returns-clause-outcome c = ap header_read_outcome (returns-clause-value c) ∙ header_read_due_lem c.args.«data».now c.args.c.bit_pos c.args.quantiser_scale
