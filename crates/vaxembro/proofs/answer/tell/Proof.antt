-- `vaxembro::answer::tell` meets its contract: nine stores, or none. Assumes nothing.
use mathlib.Core.Path.{refl}
use native.Mathlib.Omega.{arith}
use borrow.Author.Rules.{rules}
use borrow.Author.Tests.{le-leb, lt-leb}
use lib.ListN.{length-set}
use lib.Seq.{sets-eq}
use Rattle.vaxembro.specs.Answer.{answer_after, answer_length, answer_of}
use Rattle.vaxembro.proofs.RoomLaws.{long-is, short_is}
use Rattle.vaxembro.proofs.answer.tell.Statement.{statement}
use Rattle.vaxembro.proofs.answer.tell.Tie as tie

returns-then-answer-lt-ANSWER : tie.Need-returns-then-answer-lt-ANSWER
unfolding answer_after
returns-then-answer-lt-ANSWER c = (refl, short_is _ (lt-leb answer_length _ c.if-answer-lt-ANSWER.true))

overflow_cast-answer : tie.Need-overflow_cast-answer
overflow_cast-answer c = search rules

bounds-answer-0 : tie.Need-bounds-answer-0
bounds-answer-0 c = search rules

overflow_cast-answer-2 : tie.Need-overflow_cast-answer-2
overflow_cast-answer-2 c = search rules

bounds-answer-1 : tie.Need-bounds-answer-1
bounds-answer-1 c = simp length-set (omega arith)

bounds-answer-2 : tie.Need-bounds-answer-2
bounds-answer-2 c = simp length-set (omega arith)

bounds-answer-3 : tie.Need-bounds-answer-3
bounds-answer-3 c = simp length-set (omega arith)

overflow_cast-answer-3 : tie.Need-overflow_cast-answer-3
overflow_cast-answer-3 c = search rules

bounds-answer-4 : tie.Need-bounds-answer-4
bounds-answer-4 c = simp length-set (omega arith)

overflow_cast-answer-4 : tie.Need-overflow_cast-answer-4
overflow_cast-answer-4 c = search rules

bounds-answer-5 : tie.Need-bounds-answer-5
bounds-answer-5 c = simp length-set (omega arith)

overflow_cast-answer-5 : tie.Need-overflow_cast-answer-5
overflow_cast-answer-5 c = search rules

bounds-answer-6 : tie.Need-bounds-answer-6
bounds-answer-6 c = simp length-set (omega arith)

overflow_cast-answer-6 : tie.Need-overflow_cast-answer-6
overflow_cast-answer-6 c = search rules

bounds-answer-7 : tie.Need-bounds-answer-7
bounds-answer-7 c = simp length-set (omega arith)

overflow_cast-answer-7 : tie.Need-overflow_cast-answer-7
overflow_cast-answer-7 c = search rules

bounds-answer-8 : tie.Need-bounds-answer-8
bounds-answer-8 c = simp length-set (omega arith)

shape_of-answer : tie.Need-shape_of-answer
shape_of-answer c = search rules

returns : tie.Need-returns
unfolding answer_after
returns c =
    let e = c.before.before.before.before.before.before.before.before in
    let a = e.args in
    (refl, long-is _ (le-leb answer_length _ e.if-answer-lt-ANSWER.false) (sets-eq (answer_of a.t) a.answer.now 0 (omega arith)))

pub tell_spec : {M : Type 1} → statement M
tell_spec =
    tie.close
    (tie.spec
    returns-then-answer-lt-ANSWER
    overflow_cast-answer
    bounds-answer-0
    overflow_cast-answer-2
    bounds-answer-1
    bounds-answer-2
    bounds-answer-3
    overflow_cast-answer-3
    bounds-answer-4
    overflow_cast-answer-4
    bounds-answer-5
    overflow_cast-answer-5
    bounds-answer-6
    overflow_cast-answer-6
    bounds-answer-7
    overflow_cast-answer-7
    bounds-answer-8
    shape_of-answer
    returns)
