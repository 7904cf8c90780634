-- `fields::field::read_marker` meets its contract: a bit, and its test. Assumes nothing.
use Rattle.std.proofs.Common.{◌∙◌, ap, sym}
use Rattle.fields.proofs.FieldLaws.{marker_missing, marker-refused, marker-there}
use Rattle.fields.proofs.OutcomeLaws.{marker_due_lem}
use Rattle.fields.specs.Outcomes.{got_outcome}
use Rattle.numbers.proofs.Parts.{err_by}
use Rattle.fields.proofs.field.read_marker.Goals as goal

pub returns-in_err-m-clause-value : goal.returns-in_err-m-clause-value
returns-in_err-m-clause-value c =
    err_by c.from_residual.ensures ∙ marker-refused c.args.«data».now c.args.c.bit_pos c.args.missing _ (sym c.in_err-m.was ∙ c.read_field.ensures.value)

pub returns-in_err-m-clause-outcome : goal.returns-in_err-m-clause-outcome
returns-in_err-m-clause-outcome c = ap got_outcome (returns-in_err-m-clause-value c) ∙ marker_due_lem c.args.«data».now c.args.c.bit_pos c.args.missing

pub returns-then-m-eq1-clause-value : goal.returns-then-m-eq1-clause-value
returns-then-m-eq1-clause-value c = marker-there c.args.«data».now c.args.c.bit_pos c.args.missing _ _ c.if-m-eq1.true (sym c.in_ok-m.was ∙ c.read_field.ensures.value)

pub returns-then-m-eq1-clause-outcome : goal.returns-then-m-eq1-clause-outcome
returns-then-m-eq1-clause-outcome c = ap got_outcome (returns-then-m-eq1-clause-value c) ∙ marker_due_lem c.args.«data».now c.args.c.bit_pos c.args.missing

pub returns-clause-value : goal.returns-clause-value
returns-clause-value c = marker_missing c.args.«data».now c.args.c.bit_pos c.args.missing _ _ c.if-m-eq1.false (sym c.in_ok-m.was ∙ c.read_field.ensures.value)

pub returns-clause-outcome : goal.returns-clause-outcome
returns-clause-outcome c = ap got_outcome (returns-clause-value c) ∙ marker_due_lem c.args.«data».now c.args.c.bit_pos c.args.missing
