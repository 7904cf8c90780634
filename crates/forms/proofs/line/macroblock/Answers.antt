-- `forms::line::macroblock` meets its contract: three words, and then the pattern. Assumes nothing.
use Rattle.std.proofs.Common.{◌≡◌, ◌∙◌, sym, ℕ}
use Rattle.forms.proofs.FormLaws.{after_flag, after_quantiser, field-bad, field_is, goes_on, kind-bad, kind-is, kind-none, refuses}
use Rattle.forms.specs.Forms.{mb_form}
use Rattle.forms.specs.Reading.{data_form, pattern_form, words_from}
use Rattle.forms.specs.Words.{number_in}
use Rattle.forms.proofs.line.macroblock.Goals as goal
use Rattle.forms.proofs.line.macroblock.Goals.{In-Some, In-Some-number}

-- the form once a word was read
quantiser : (k : In-Some) → mb_form (words_from k.args.line.now k.args.from k.args.to) ≡ after_quantiser k.in-Some.quantiser (words_from k.args.line.now k.in-Some.at_flag k.args.to)
unfolding mb_form pattern_form data_form
quantiser k = field_is (number_in 65535) k.args.line.now k.args.from k.args.to k.number.ensures k.in-Some.is after_quantiser

flag : (k : In-Some-number) (q : ℕ) → after_quantiser q (words_from k.args.line.now k.in-Some.at_flag k.args.to) ≡ after_flag q k.in-Some-number.ac_pred (words_from k.args.line.now k.in-Some-number.at_kind k.args.to)
flag k q = field_is (number_in 1) k.args.line.now k.in-Some.at_flag k.args.to k.number-2.ensures k.in-Some-number.is (after_flag q)

pub returns-in_default : goal.returns-in_default
unfolding mb_form pattern_form data_form
returns-in_default c =
    let a = c.args in
    let r = refuses a.«data».now (field-bad (number_in 65535) a.line.now a.from a.to c.number.ensures after_quantiser c.in_default.is) in
    record { value = r.0; bytes = r.1 }

pub returns-in_default-number : goal.returns-in_default-number
returns-in_default-number c =
    let g = goal.at.returns-in_default-number c in
    let a = c.args in
    let bad = field-bad (number_in 1) a.line.now c.in-Some.at_flag a.to c.number-2.ensures (after_flag c.in-Some.quantiser) c.in_default-number.is in
    let r = refuses a.«data».now (quantiser g.In-Some ∙ bad) in
    record { value = r.0; bytes = r.1 }

pub returns-then-to-at_kind : goal.returns-then-to-at_kind
returns-then-to-at_kind c =
    let g = goal.at.returns-then-to-at_kind c in
    let a = c.args in
    let q = c.in-Some.quantiser in
    let f = c.in-Some-number in
    let r = refuses a.«data».now (quantiser g.In-Some ∙ flag g.In-Some-number q ∙ kind-none (pattern_form q f.ac_pred) a.line.now f.at_kind a.to c.if-to-at_kind.true) in
    record { value = r.0; bytes = r.1 }

pub returns-in_default-read_kind : goal.returns-in_default-read_kind
returns-in_default-read_kind c =
    let g = goal.at.returns-in_default-read_kind c in
    let a = c.args in
    let q = c.in-Some.quantiser in
    let f = c.in-Some-number in
    let bad = kind-bad (pattern_form q f.ac_pred) a.line.now f.at_kind a.to c.if-to-at_kind.false c.requires.1.0 _ c.word_end-e.ensures.0 (sym c.in_default-read_kind.is ∙ c.read_kind.ensures) in
    let r = refuses a.«data».now (quantiser g.In-Some ∙ flag g.In-Some-number q ∙ bad) in
    record { value = r.0; bytes = r.1 }

pub returns : goal.returns
returns c =
    let g = goal.at.returns c in
    let a = c.args in
    let q = c.in-Some.quantiser in
    let f = c.in-Some-number in
    let is = kind-is (pattern_form q f.ac_pred) a.line.now f.at_kind a.to c.if-to-at_kind.false c.requires.1.0 _ c.word_end-e.ensures.0 _ (sym c.in-Some-read_kind.is ∙ c.read_kind.ensures) in
    let r = goes_on a.«data».now (quantiser g.In-Some ∙ flag g.In-Some-number q ∙ is) (c.with_pattern.ensures.value, c.with_pattern.ensures.bytes) in
    record { value = r.0; bytes = r.1 }
