-- `forms::line::with_data` meets its contract: one word, the last, that is data. Assumes nothing.
use Rattle.std.proofs.Common.{◌≡◌, ap}
use Rattle.numbers.proofs.Tests.{flag_passes, flag_refuses}
use Rattle.forms.proofs.FormLaws.{data_bad, data_is, data_more, data_none, goes_on, refuses}
use Rattle.forms.specs.Forms.{malformed}
use Rattle.forms.specs.Reading.{data_form, words_from}
use Rattle.forms.specs.declared.line.Line.TheVariants.{Macroblock}
use Rattle.forms.proofs.line.with_data.Goals as goal
use Rattle.forms.proofs.line.with_data.Goals.{then-to-from-via-then-to-from, then-to-from-via-else-to-from+then-word_end-to, then-to-from-via-else-to-from+else-word_end-to+then-not-is_data}

bad : (c : goal.Joined-then-to-from) → let a = c.args in data_form a.q a.ac_pred a.kind a.cbpy a.cbpc (words_from a.line.now a.from a.to) ≡ malformed
bad c =
    let a = c.args in
    let in-line = c.requires.1.0 in
    elim c.then-to-from.branch [
      | then-to-from-via-then-to-from w ↦ data_none a.q a.ac_pred a.kind a.cbpy a.cbpc a.line.now a.from a.to w.if-to-from.true
      | then-to-from-via-else-to-from+then-word_end-to w ↦ data_more a.q a.ac_pred a.kind a.cbpy a.cbpc a.line.now a.from a.to w.if-to-from.false in-line _ w.word_end.ensures.0 w.if-word_end-to.true
      | then-to-from-via-else-to-from+else-word_end-to+then-not-is_data w ↦ data_bad a.q a.ac_pred a.kind a.cbpy a.cbpc a.line.now a.from a.to w.if-to-from.false in-line _ w.word_end.ensures.0
          w.if-word_end-to.false (flag_refuses w.is_data.ensures w.if-not-is_data.true)
    ]

pub returns-then-to-from : goal.returns-then-to-from
returns-then-to-from c =
    let r = refuses c.args.«data».now (bad c) in
    record { value = r.0; bytes = r.1 }

pub returns : goal.returns
returns c =
    let a = c.args in
    let is = data_is a.q a.ac_pred a.kind a.cbpy a.cbpc a.line.now a.from a.to c.if-to-from.false c.requires.1.0 _ c.word_end.ensures.0 c.if-word_end-to.false
    (flag_passes c.is_data.ensures c.if-not-is_data.false) in
    let r = goes_on a.«data».now is (ap (Macroblock a.q a.ac_pred a.kind a.cbpy a.cbpc) c.data_of-n.ensures.0, c.data_of-n.ensures.1) in
    record { value = r.0; bytes = r.1 }
