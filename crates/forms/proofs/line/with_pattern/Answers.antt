-- `forms::line::with_pattern` meets its contract: two words, and then the data. Assumes nothing.
use Rattle.std.proofs.Common.{◌≡◌, ◌∙◌, ℕ}
use Rattle.forms.proofs.FormLaws.{after_cbpy, field-bad, field_is, goes_on, refuses}
use Rattle.forms.specs.Reading.{data_form, pattern_form, words_from}
use Rattle.forms.specs.Words.{number_in}
use Rattle.forms.proofs.line.with_pattern.Goals as goal
use Rattle.forms.proofs.line.with_pattern.Goals.{In-Some, In-Some-number}

-- the form once a word was read
luminance : (k : In-Some) → let a = k.args in pattern_form a.q a.ac_pred a.kind (words_from a.line.now a.from a.to) ≡ after_cbpy a.q a.ac_pred a.kind k.in-Some.cbpy (words_from a.line.now k.in-Some.at_cbpc a.to)
unfolding pattern_form
luminance k = let a = k.args in field_is (number_in 255) a.line.now a.from a.to k.number.ensures k.in-Some.is (after_cbpy a.q a.ac_pred a.kind)

chrominance : (k : In-Some-number) (y : ℕ) → let a = k.args in after_cbpy a.q a.ac_pred a.kind y (words_from a.line.now k.in-Some.at_cbpc a.to) ≡ data_form a.q a.ac_pred a.kind y k.in-Some-number.cbpc (words_from a.line.now k.in-Some-number.at_data a.to)
chrominance k y = let a = k.args in field_is (number_in 255) a.line.now k.in-Some.at_cbpc a.to k.number-2.ensures k.in-Some-number.is (data_form a.q a.ac_pred a.kind y)

pub returns-in_default : goal.returns-in_default
unfolding pattern_form
returns-in_default c =
    let a = c.args in
    let r = refuses a.«data».now (field-bad (number_in 255) a.line.now a.from a.to c.number.ensures (after_cbpy a.q a.ac_pred a.kind) c.in_default.is) in
    record { value = r.0; bytes = r.1 }

pub returns-in_default-number : goal.returns-in_default-number
returns-in_default-number c =
    let g = goal.at.returns-in_default-number c in
    let a = c.args in
    let bad = field-bad (number_in 255) a.line.now c.in-Some.at_cbpc a.to c.number-2.ensures (data_form a.q a.ac_pred a.kind c.in-Some.cbpy) c.in_default-number.is in
    let r = refuses a.«data».now (luminance g.In-Some ∙ bad) in
    record { value = r.0; bytes = r.1 }

pub returns : goal.returns
returns c =
    let g = goal.at.returns c in
    let r = goes_on c.args.«data».now (luminance g.In-Some ∙ chrominance g.In-Some-number c.in-Some.cbpy) (c.with_data.ensures.value, c.with_data.ensures.bytes) in
    record { value = r.0; bytes = r.1 }
