-- `block_reader::read::read_list` meets its contract: no list, or one of either coding. Assumes nothing.
use Rattle.std.proofs.Common.{Bool, ap, ap₂, false, sym, true, ◌∙◌}
use Rattle.bits.proofs.CursorLaws.{counted, not-counted}
use Rattle.block_reader.specs.Reading.{list_answer}
use Rattle.block_reader.proofs.ReadingLaws.{is_coded, list_outside, not_coded_lem}
use Rattle.block_reader.proofs.read.read_list.Goals as goal

pub returns-in-Err : goal.returns-in-Err
returns-in-Err c =
    let a = c.args in
    let d = a.«data».now in
    let at = a.c.bit_pos in
    c.refusal.ensures ∙ list_outside d at a.coded a.dc_coded a.reversible (not-counted d at _ _ c.remaining_bits.ensures.value c.in-Err.is)

pub returns-in-Ok : goal.returns-in-Ok
returns-in-Ok c =
    let a = c.args in
    let d = a.«data».now in
    let at = a.c.bit_pos in
    not_coded_lem d a.c c.none.result a.dc_coded a.reversible c.none.ensures (counted d at _ _ c.remaining_bits.ensures.value c.in-Ok.is)
    ∙ sym (ap (λ (x : Bool). list_answer d at x a.dc_coded a.reversible) c.if-not-coded.true)

pub returns-then-reversible : goal.returns-then-reversible
returns-then-reversible c =
    let a = c.args in
    let d = a.«data».now in
    is_coded d a.c.bit_pos a.dc_coded true _ _ c.decode_ac_events_rvlc-answer.ensures.value c.decode_ac_events_rvlc-answer.ensures.places
    ∙ sym (ap₂ (λ (x y : Bool). list_answer d a.c.bit_pos x a.dc_coded y) c.if-not-coded.false c.if-reversible.true)

pub returns-else-reversible : goal.returns-else-reversible
returns-else-reversible c =
    let a = c.args in
    let d = a.«data».now in
    is_coded d a.c.bit_pos a.dc_coded false _ _ c.decode_ac_events-answer.ensures.value c.decode_ac_events-answer.ensures.places
    ∙ sym (ap₂ (λ (x y : Bool). list_answer d a.c.bit_pos x a.dc_coded y) c.if-not-coded.false c.if-reversible.false)
