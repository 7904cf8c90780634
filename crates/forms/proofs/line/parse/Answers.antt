-- `forms::line::parse` meets its contract: room, length, brackets, and the first word says which form. Assumes nothing.
use Rattle.std.proofs.Common.{◌≡◌, arith}
use Rattle.forms.proofs.FormLaws.{answered, goes_on, line_close, line-long, line-mb, line_open, line_other, line-picture, line_short, picture_keeps, refuses}
use Rattle.forms.specs.Forms.{form_of, malformed, mb_word, picture_word}
use Rattle.forms.proofs.line.parse.Goals as goal
use Rattle.forms.proofs.line.parse.Goals.{then-n-gt-LONGEST-via-then-n-gt-LONGEST, then-n-gt-LONGEST-via-else-n-gt-LONGEST+then-n-lt2, then-n-gt-LONGEST-via-else-n-gt-LONGEST+else-n-lt2+then-line-ne40, then-n-gt-LONGEST-via-else-n-gt-LONGEST+else-n-lt2+else-line-ne40+then-line-n-ne41}

bad : (c : goal.Joined-then-n-gt-LONGEST) → form_of c.args.line.now ≡ malformed
bad c =
    let l = c.args.line.now in
    elim c.then-n-gt-LONGEST.branch [
      | then-n-gt-LONGEST-via-then-n-gt-LONGEST w ↦ line-long l (omega (arith, w.if-n-gt-LONGEST.true))
      | then-n-gt-LONGEST-via-else-n-gt-LONGEST+then-n-lt2 w ↦ line_short l w.if-n-gt-LONGEST.false w.if-n-lt2.true
      | then-n-gt-LONGEST-via-else-n-gt-LONGEST+else-n-lt2+then-line-ne40 w ↦ line_open l w.if-n-gt-LONGEST.false w.if-n-lt2.false w.if-line-ne40.true
      | then-n-gt-LONGEST-via-else-n-gt-LONGEST+else-n-lt2+else-line-ne40+then-line-n-ne41 w ↦ line_close l w.if-n-gt-LONGEST.false w.if-n-lt2.false w.if-line-ne40.false w.if-line-n-ne41.true
    ]

pub returns-then-n-gt-LONGEST : goal.returns-then-n-gt-LONGEST
returns-then-n-gt-LONGEST c =
    let a = c.args in
    let r = answered a.line.now a.«data».now c.if-data-lt-DATA.false (refuses a.«data».now (bad c)) in
    record { value = r.0; bytes = r.1 }

pub returns-then-is_word : goal.returns-then-is_word
unfolding picture_word
returns-then-is_word c =
    let a = c.args in
    let is = line-picture a.line.now c.if-n-gt-LONGEST.false c.if-n-lt2.false c.if-line-ne40.false c.if-line-n-ne41.false _ c.word_end-e.ensures.0 c.is_word.ensures c.if-is_word.true in
    let r = answered a.line.now a.«data».now c.if-data-lt-DATA.false (goes_on a.«data».now is (c.picture.ensures, picture_keeps _ a.«data».now)) in
    record { value = r.0; bytes = r.1 }

pub returns-then-is_word-2 : goal.returns-then-is_word-2
unfolding picture_word mb_word
returns-then-is_word-2 c =
    let a = c.args in
    let is = line-mb a.line.now c.if-n-gt-LONGEST.false c.if-n-lt2.false c.if-line-ne40.false c.if-line-n-ne41.false _ c.word_end-e.ensures.0 c.is_word.ensures c.if-is_word.false
    c.is_word-else-is_word.ensures c.if-is_word-2.true in
    let r = answered a.line.now a.«data».now c.if-data-lt-DATA.false (goes_on a.«data».now is (c.macroblock.ensures.value, c.macroblock.ensures.bytes)) in
    record { value = r.0; bytes = r.1 }

pub returns-else-is_word-2 : goal.returns-else-is_word-2
unfolding picture_word mb_word
returns-else-is_word-2 c =
    let a = c.args in
    let is = line_other a.line.now c.if-n-gt-LONGEST.false c.if-n-lt2.false c.if-line-ne40.false c.if-line-n-ne41.false _ c.word_end-e.ensures.0 c.is_word.ensures c.if-is_word.false
    c.is_word-else-is_word.ensures c.if-is_word-2.false in
    let r = answered a.line.now a.«data».now c.if-data-lt-DATA.false (refuses a.«data».now is) in
    record { value = r.0; bytes = r.1 }
