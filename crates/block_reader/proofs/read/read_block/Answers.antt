-- `block_reader::read::read_block` meets its contract: the list alone, or the DC part and then the list. Assumes nothing.
use Rattle.std.proofs.Common.{Bool, ap, ap₂, sym, ◌∙◌}
use lib.IntN.{ℤ}
use mir.Facts.{to_z-of_z}
use mir.Syntax.{w32}
use Rattle.numbers.proofs.Words.{fits_mag}
use Rattle.block_reader.specs.Reading.{places_answer, with_difference}
use Rattle.block_reader.specs.declared.read.PlacesRead.{PlacesRead}
use Rattle.block_reader.proofs.OutcomeLaws.{places_due_lem, places_outcome}
use Rattle.block_reader.proofs.ReadingLaws.{dc-next, dc-refused, no-dc}
use Rattle.block_reader.proofs.read.read_block.Goals as goal

pub returns-then-not-dc_coded-clause-value : goal.returns-then-not-dc_coded-clause-value
returns-then-not-dc_coded-clause-value c =
    let a = c.args in
    c.read_list.ensures ∙ no-dc a.«data».now a.c.bit_pos a.dc_coded a.reversible a.component a.coded
    ∙ sym (ap (λ (x : Bool). places_answer a.«data».now a.c.bit_pos a.component a.coded x a.reversible) c.if-not-dc_coded.true)

pub returns-then-not-dc_coded-clause-outcome : goal.returns-then-not-dc_coded-clause-outcome
returns-then-not-dc_coded-clause-outcome c =
    let a = c.args in
    ap places_outcome (returns-then-not-dc_coded-clause-value c) ∙ places_due_lem a.«data».now a.c.bit_pos a.component a.coded a.dc_coded a.reversible

pub returns-in-Err-clause-value : goal.returns-in-Err-clause-value
returns-in-Err-clause-value c =
    let a = c.args in
    c.refusal.ensures ∙ dc-refused a.«data».now a.c.bit_pos a.component a.coded a.reversible _ (sym c.in-Err.is ∙ c.decode_intra_dc.ensures.value)
    ∙ sym (ap (λ (x : Bool). places_answer a.«data».now a.c.bit_pos a.component a.coded x a.reversible) c.if-not-dc_coded.false)

pub returns-in-Err-clause-outcome : goal.returns-in-Err-clause-outcome
returns-in-Err-clause-outcome c =
    let a = c.args in
    ap places_outcome (returns-in-Err-clause-value c) ∙ places_due_lem a.«data».now a.c.bit_pos a.component a.coded a.dc_coded a.reversible

pub returns-in-Ok-clause-value : goal.returns-in-Ok-clause-value
returns-in-Ok-clause-value c =
    let a = c.args in
    let v = c.in-Ok.v in
    let n = dc-next a.«data».now a.c.bit_pos a.component a.coded a.reversible v c.in-Ok.next (sym c.in-Ok.is ∙ c.decode_intra_dc.ensures.value) in
    c.with_difference.ensures
    ∙ ap₂ (λ (x : PlacesRead) (z : ℤ). with_difference x.answer x.qfs z) c.read_list-one.ensures (to_z-of_z {w = w32} (fits_mag 4095 tt v.differential n.low))
    ∙ n.is
    ∙ sym (ap (λ (x : Bool). places_answer a.«data».now a.c.bit_pos a.component a.coded x a.reversible) c.if-not-dc_coded.false)

pub returns-in-Ok-clause-outcome : goal.returns-in-Ok-clause-outcome
returns-in-Ok-clause-outcome c =
    let a = c.args in
    ap places_outcome (returns-in-Ok-clause-value c) ∙ places_due_lem a.«data».now a.c.bit_pos a.component a.coded a.dc_coded a.reversible
