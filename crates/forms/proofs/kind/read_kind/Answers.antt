-- `forms::kind::read_kind` meets its contract: a word is compared with each in turn. Assumes nothing.
use Rattle.forms.specs.Forms.{kind_in, kind_word}
use Rattle.forms.proofs.kind.read_kind.Goals as goal

pub returns-then-is_word : goal.returns-then-is_word
unfolding kind_in kind_word
returns-then-is_word c = rw (← c.if-is_word.ensures)

pub returns-then-is_word-2 : goal.returns-then-is_word-2
unfolding kind_in kind_word
returns-then-is_word-2 c = rw (← c.if-is_word.ensures, ← c.if-is_word-2.ensures)

pub returns-then-is_word-3 : goal.returns-then-is_word-3
unfolding kind_in kind_word
returns-then-is_word-3 c = rw (← c.if-is_word.ensures, ← c.if-is_word-2.ensures, ← c.if-is_word-3.ensures)

pub returns-then-is_word-4 : goal.returns-then-is_word-4
unfolding kind_in kind_word
returns-then-is_word-4 c = rw (← c.if-is_word.ensures, ← c.if-is_word-2.ensures, ← c.if-is_word-3.ensures, ← c.if-is_word-4.ensures)

pub returns-then-is_word-5 : goal.returns-then-is_word-5
unfolding kind_in kind_word
returns-then-is_word-5 c = rw (← c.if-is_word.ensures, ← c.if-is_word-2.ensures, ← c.if-is_word-3.ensures, ← c.if-is_word-4.ensures, ← c.if-is_word-5.ensures)

pub returns-then-is_word-6 : goal.returns-then-is_word-6
unfolding kind_in kind_word
returns-then-is_word-6 c = rw (← c.if-is_word.ensures, ← c.if-is_word-2.ensures, ← c.if-is_word-3.ensures, ← c.if-is_word-4.ensures, ← c.if-is_word-5.ensures, ← c.if-is_word-6.ensures)

pub returns-then-is_word-7 : goal.returns-then-is_word-7
unfolding kind_in kind_word
returns-then-is_word-7 c = rw (← c.if-is_word.ensures, ← c.if-is_word-2.ensures, ← c.if-is_word-3.ensures, ← c.if-is_word-4.ensures, ← c.if-is_word-5.ensures, ← c.if-is_word-6.ensures, ← c.if-is_word-7.ensures)

pub returns-else-is_word-7 : goal.returns-else-is_word-7
unfolding kind_in kind_word
returns-else-is_word-7 c = rw (← c.if-is_word.ensures, ← c.if-is_word-2.ensures, ← c.if-is_word-3.ensures, ← c.if-is_word-4.ensures, ← c.if-is_word-5.ensures, ← c.if-is_word-6.ensures, ← c.if-is_word-7.ensures)
