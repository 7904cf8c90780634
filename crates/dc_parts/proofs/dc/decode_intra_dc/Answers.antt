-- `dc_parts::dc::decode_intra_dc` meets its contract: a code, its bits, and the difference that they say. Assumes nothing.
use Rattle.std.proofs.Common.{ap, Ok, ◌≡◌, ◌∙◌, ℕ}
use native.Mathlib.Nat.{le_of_suc-le-suc}
use Rattle.bits.specs.Bits.{bits_from}
use Rattle.bits.specs.declared.cursor.Cursor.{Cursor}
use Rattle.codes.specs.DcSize.{dc_codes, dc_lens}
use Rattle.dc_parts.proofs.DcLaws.{dc-given, dc-no-code, dc_no_tail, row_small, tail_small}
use Rattle.dc_parts.proofs.OutcomeLaws.{dc_due_lem}
use Rattle.dc_parts.specs.Outcomes.{dc_outcome}
use Rattle.fields.proofs.ChainLaws.{First, code_first, number_in, number_is, refused-is}
use Rattle.fields.proofs.TableLaws.{dc-code}
use Rattle.fields.specs.Answer.{code_answer}
use Rattle.fields.specs.Reader.{code}
use Rattle.fields.specs.declared.error.TextureParseError.TheVariants.{InvalidDcSize}
use Rattle.numbers.proofs.Parts.{err_by}
use Rattle.numbers.proofs.Words.{held}
use Rattle.dc_parts.proofs.dc.decode_intra_dc.Goals as goal
use Rattle.dc_parts.proofs.dc.decode_intra_dc.Goals.{After-read_code}

-- the answer to the code is by the component's table
answer : (r : After-read_code) → let a = r.args in
    r.read_code.result ≡ code_answer a.«data».now a.c.bit_pos (dc_codes a.component) (dc_lens a.component) 13 13 InvalidDcSize
answer r =
    let a = r.args in
    dc-code a.«data».now a.c.bit_pos _ a.component r.dc_size_codes-codes.ensures r.dc_size_lens-lens.ensures r.read_code.ensures.code_read

-- the code that was read
size : (r : After-read_code) {i : ℕ} {next : Cursor} → r.read_code.result ≡ Ok (i, next) → let a = r.args in
    First a.«data».now a.c.bit_pos (code (dc_codes a.component) (dc_lens a.component) 13 13 InvalidDcSize (bits_from a.«data».now a.c.bit_pos)) r.read_code.result i next
size r q =
    let a = r.args in
    code_first a.«data».now a.c.bit_pos (dc_codes a.component) (dc_lens a.component) 13 13 InvalidDcSize _ (answer r) q

pub returns-in_err-size-clause-value : goal.returns-in_err-size-clause-value
returns-in_err-size-clause-value c =
    let a = c.args in
    err_by c.from_residual.ensures ∙ dc-no-code a.«data».now a.c.bit_pos a.component _ (answer (goal.at.returns-in_err-size-clause-value c).After-read_code) c.in_err-size.was

pub returns-in_err-size-clause-outcome : goal.returns-in_err-size-clause-outcome
returns-in_err-size-clause-outcome c = ap dc_outcome (returns-in_err-size-clause-value c) ∙ dc_due_lem c.args.«data».now c.args.c.bit_pos c.args.component

pub read_additional-requires : goal.read_additional-requires
read_additional-requires c =
    let a = c.args in
    let z = size (goal.at.read_additional-requires c).After-read_code c.in_ok-size.was in
    (z.readable, le_of_suc-le-suc (row_small a.«data».now a.c.bit_pos a.component _ _ _ z))

pub returns-in_err-a-clause-value : goal.returns-in_err-a-clause-value
returns-in_err-a-clause-value c =
    let a = c.args in
    let d = a.«data».now in
    let z = size (goal.at.returns-in_err-a-clause-value c).After-read_code c.in_ok-size.was in
    err_by c.from_residual-in_err-a.ensures ∙ dc_no_tail d a.c.bit_pos a.component _ _ _ z (refused-is d _ _ c.read_additional.ensures c.in_err-a.was)

pub returns-in_err-a-clause-outcome : goal.returns-in_err-a-clause-outcome
returns-in_err-a-clause-outcome c = ap dc_outcome (returns-in_err-a-clause-value c) ∙ dc_due_lem c.args.«data».now c.args.c.bit_pos c.args.component

pub decode_differential-differential-requires : goal.decode_differential-differential-requires
decode_differential-differential-requires c =
    let a = c.args in
    let d = a.«data».now in
    let z = size (goal.at.decode_differential-differential-requires c).After-read_code c.in_ok-size.was in
    tail_small d a.c.bit_pos a.component _ _ _ z _ _ (number_is d _ _ c.read_additional.ensures c.in_ok-a.was)

pub returns-clause-value : goal.returns-clause-value
returns-clause-value c =
    let a = c.args in
    let d = a.«data».now in
    let z = size (goal.at.returns-clause-value c).After-read_code c.in_ok-size.was in
    let r = c.read_additional.ensures in
    let q = c.in_ok-a.was in
    dc-given d a.c.bit_pos a.component _ _ _ z _ _ _ (number_in d _ _ r q) (number_is d _ _ r q)
    (held c.decode_differential-differential.result c.decode_differential-differential.type_inv ∙ c.decode_differential-differential.ensures)

pub returns-clause-outcome : goal.returns-clause-outcome
returns-clause-outcome c = ap dc_outcome (returns-clause-value c) ∙ dc_due_lem c.args.«data».now c.args.c.bit_pos c.args.component
