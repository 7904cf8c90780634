-- `vaxembro::answer::told_at` meets its contract. Assumes nothing.
use borrow.Author.Rules.{rules}
use borrow.Author.Tests.{le-leb, lt-leb}
use Rattle.vaxembro.specs.Answer.{answer_length, told_at}
use Rattle.vaxembro.proofs.answer.told_at.Statement.{statement}
use Rattle.vaxembro.proofs.answer.told_at.Tie as tie

returns-then-answer-lt-ANSWER : tie.Need-returns-then-answer-lt-ANSWER
unfolding told_at
returns-then-answer-lt-ANSWER c = rw (lt-leb answer_length _ c.if-answer-lt-ANSWER.true)

offset_bounds-answer-k : tie.Need-offset_bounds-answer-k
offset_bounds-answer-k c = search rules

bounds-answer-k : tie.Need-bounds-answer-k
bounds-answer-k c = search rules

returns : tie.Need-returns
unfolding told_at
returns c = rw (le-leb answer_length _ c.if-answer-lt-ANSWER.false)

pub told_at_spec : {M : Type 1} → statement M
told_at_spec = tie.close (tie.spec returns-then-answer-lt-ANSWER offset_bounds-answer-k bounds-answer-k returns)
