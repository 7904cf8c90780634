-- `fields::field::read_field` meets its contract: the bits, or the bit layer's refusal under its name here. Assumes nothing.
use Rattle.std.proofs.Common.{◌∙◌, ap, sym}
use Rattle.fields.proofs.FieldLaws.{read_answer}
use Rattle.fields.proofs.OutcomeLaws.{field_due_lem}
use Rattle.fields.specs.Outcomes.{got_outcome}
use Rattle.numbers.proofs.Parts.{err_by}
use Rattle.fields.proofs.field.read_field.Goals as goal

pub returns-in_err-read_bits-clause-value : goal.returns-in_err-read_bits-clause-value
returns-in_err-read_bits-clause-value c = err_by c.from_residual.ensures ∙ read_answer c.args.«data».now c.args.c.bit_pos c.args.n _ (sym c.in_err-read_bits.was ∙ c.read_bits.ensures.value)

pub returns-in_err-read_bits-clause-outcome : goal.returns-in_err-read_bits-clause-outcome
returns-in_err-read_bits-clause-outcome c = ap got_outcome (returns-in_err-read_bits-clause-value c) ∙ field_due_lem c.args.«data».now c.args.c.bit_pos c.args.n

pub returns-clause-value : goal.returns-clause-value
returns-clause-value c = read_answer c.args.«data».now c.args.c.bit_pos c.args.n _ (sym c.in_ok-read_bits.was ∙ c.read_bits.ensures.value)

pub returns-clause-outcome : goal.returns-clause-outcome
returns-clause-outcome c = ap got_outcome (returns-clause-value c) ∙ field_due_lem c.args.«data».now c.args.c.bit_pos c.args.n
