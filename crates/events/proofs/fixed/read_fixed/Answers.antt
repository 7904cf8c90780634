-- `events::fixed::read_fixed` meets its contract: a field, another with its marker, then the level. Assumes nothing.
use Rattle.std.proofs.Common.{ap, Ok, arith, ◌≡◌, ◌∙◌, ℕ}
use Rattle.bits.specs.Bits.{bits_from}
use Rattle.bits.specs.declared.cursor.Cursor.{Cursor}
use Rattle.events.proofs.ChainLaws.{answered, fixed-refused, handed, passed, passed_m, refused_m}
use Rattle.events.proofs.OutcomeLaws.{fixed_due_lem}
use Rattle.events.specs.EventReader.{fixed, run_and_level}
use Rattle.events.specs.Outcomes.{event_outcome}
use Rattle.fields.proofs.ChainLaws.{First, field_first}
use Rattle.fields.specs.Reader.{field}
use Rattle.numbers.proofs.Parts.{err_by}
use Rattle.events.proofs.fixed.read_fixed.Goals as goal
use Rattle.events.proofs.fixed.read_fixed.Goals.{After-read_field}

-- the bit that was read first
first : (f : After-read_field) {v : ℕ} {next : Cursor} → f.read_field.result ≡ Ok (v, next)
    → First f.args.«data».now f.args.c.bit_pos (field 1 (bits_from f.args.«data».now f.args.c.bit_pos)) f.read_field.result v next
first f q = field_first f.args.«data».now f.args.c.bit_pos 1 (omega arith) _ f.read_field.ensures.value q

pub returns-in_err-last-clause-value : goal.returns-in_err-last-clause-value
returns-in_err-last-clause-value c = err_by c.from_residual.ensures ∙ fixed-refused c.args.«data».now c.args.c.bit_pos _ c.read_field.ensures.value c.args.table c.in_err-last.was

pub returns-in_err-last-clause-outcome : goal.returns-in_err-last-clause-outcome
returns-in_err-last-clause-outcome c = ap event_outcome (returns-in_err-last-clause-value c) ∙ fixed_due_lem c.args.«data».now c.args.c.bit_pos c.args.table

pub returns-in_err-run-clause-value : goal.returns-in_err-run-clause-value
unfolding fixed run_and_level
returns-in_err-run-clause-value c =
    let a = c.args in
    let d = a.«data».now in
    let q = c.in_ok-last.was in
    let x = first (goal.at.returns-in_err-run-clause-value c).After-read_field q in
    answered d a.c.bit_pos _ x.in_data_lem _ (handed d a.table _ c.from_residual-in_err-run.ensures (passed d a.table _ _ _ x.says q (refused_m d a.table 6 _ _ _ c.read_marked.ensures c.in_err-run.was)))

pub returns-in_err-run-clause-outcome : goal.returns-in_err-run-clause-outcome
returns-in_err-run-clause-outcome c = ap event_outcome (returns-in_err-run-clause-value c) ∙ fixed_due_lem c.args.«data».now c.args.c.bit_pos c.args.table

pub returns-clause-value : goal.returns-clause-value
unfolding fixed run_and_level
returns-clause-value c =
    let a = c.args in
    let d = a.«data».now in
    let q = c.in_ok-last.was in
    let x = first (goal.at.returns-clause-value c).After-read_field q in
    answered d a.c.bit_pos _ x.in_data_lem _ (passed d a.table _ _ _ x.says q (passed_m d a.table 6 _ _ _ c.read_marked.ensures c.in_ok-run.was c.read_level.ensures))

pub returns-clause-outcome : goal.returns-clause-outcome
returns-clause-outcome c = ap event_outcome (returns-clause-value c) ∙ fixed_due_lem c.args.«data».now c.args.c.bit_pos c.args.table
