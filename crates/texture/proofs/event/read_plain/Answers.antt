-- `texture::event::read_plain` meets its contract: a code, then its sign or the escape. Assumes nothing.
use Rattle.std.proofs.Common.{Ok, arith, ◌≡◌, ◌∙◌, ◌<◌, ℕ}
use borrow.Author.Tests.{eq-eqb, ne_eqb}
use Rattle.bits.specs.Bits.{bits_from}
use Rattle.bits.specs.declared.cursor.Cursor.{Cursor}
use Rattle.codes.specs.Tcoef.{vlc_codes, vlc_lens}
use Rattle.events.proofs.ChainLaws.{answered, if_not, if_so, passed, sign-says}
use Rattle.events.specs.EventReader.{event, plain_event}
use Rattle.events.specs.declared.event.RowForm.TheVariants.{Plain}
use Rattle.fields.proofs.ChainLaws.{First, code_first}
use Rattle.fields.proofs.ReadLaws.{code-sound}
use Rattle.fields.proofs.TableLaws.{vlc_code}
use Rattle.fields.specs.Answer.{code_answer}
use Rattle.fields.specs.Reader.{code}
use Rattle.fields.specs.declared.error.TextureParseError.TheVariants.{InvalidTcoef}
use Rattle.numbers.proofs.Parts.{err_by}
use Rattle.texture.proofs.CodeLaws.{plain-no-code}
use Rattle.texture.proofs.event.read_plain.Goals as goal
use Rattle.texture.proofs.event.read_plain.Goals.{After-read_code}

-- a row that is not the escape's
below : (i : ℕ) → i < 103 → (i ≡ 102 → ⊥) → i < 102
below i h n = omega arith

-- the answer to the code is by the table
answer : (f : After-read_code) → f.read_code.result ≡ code_answer f.args.«data».now f.args.c.bit_pos vlc_codes vlc_lens 13 103 InvalidTcoef
answer f = vlc_code f.args.«data».now f.args.c.bit_pos _ 103 (omega arith) f.requires.0 f.requires.1 f.read_code.ensures.code_read

-- the code that was read
first : (f : After-read_code) {i : ℕ} {next : Cursor} → f.read_code.result ≡ Ok (i, next) → let d = f.args.«data».now in
    First d f.args.c.bit_pos (code vlc_codes vlc_lens 13 103 InvalidTcoef (bits_from d f.args.c.bit_pos)) f.read_code.result i next
first f q = code_first f.args.«data».now f.args.c.bit_pos vlc_codes vlc_lens 13 103 InvalidTcoef _ (answer f) q

pub returns-in_err-row : goal.returns-in_err-row
returns-in_err-row c =
    let a = c.args in
    err_by c.from_residual.ensures ∙ plain-no-code a.«data».now a.c.bit_pos a.table _ c.in_err-row.was (answer (goal.at.returns-in_err-row c).After-read_code)

pub read_escape-requires : goal.read_escape-requires
read_escape-requires c = ((first (goal.at.read_escape-requires c).After-read_code c.in_ok-row.was).readable, c.requires)

pub returns-then-row-eq102 : goal.returns-then-row-eq102
unfolding event plain_event
returns-then-row-eq102 c =
    let a = c.args in
    let d = a.«data».now in
    let q = c.in_ok-row.was in
    let x = first (goal.at.returns-then-row-eq102 c).After-read_code q in
    answered d a.c.bit_pos _ x.in_data_lem _ (passed d a.table _ _ _ x.says q (if_so d a.table _ _ _ (eq-eqb _ 102 c.if-row-eq102.true) c.read_escape.ensures))

pub returns : goal.returns
unfolding event plain_event
returns c =
    let a = c.args in
    let d = a.«data».now in
    let q = c.in_ok-row.was in
    let x = first (goal.at.returns c).After-read_code q in
    let i = below _ (code-sound vlc_codes vlc_lens 13 103 InvalidTcoef _ x.read).0 c.if-row-eq102.false in
    answered d a.c.bit_pos _ x.in_data_lem _
    (passed d a.table _ _ _ x.says q
    (if_not d a.table _ _ _ (ne_eqb _ 102 c.if-row-eq102.false) (sign-says d _ x.readable _ a.table Plain _ i a.events.now c.requires.2 c.read_sign.ensures.value)))
