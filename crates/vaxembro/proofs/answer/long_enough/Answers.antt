-- `vaxembro::answer::long_enough` meets its contract. Assumes nothing.
use Rattle.std.proofs.Common.{◌∙◌, arith, sym}
use mathlib.Core.Logic.{⊎_elim}
use borrow.Author.Tests.{lt-leb}
use Rattle.vaxembro.proofs.RoomLaws.{all_long_lem, first_short, matrix_short}
use Rattle.vaxembro.proofs.answer.long_enough.Goals as goal
use Rattle.vaxembro.proofs.answer.long_enough.Goals.{then-least-n, else-least-n}

pub returns-then-w-ge64 : goal.returns-then-w-ge64
returns-then-w-ge64 c = sym (all_long_lem _ _ _ _ c.if-w-ge64.true.0 c.if-w-ge64.true.1)

pub returns-else-w-ge64 : goal.returns-else-w-ge64
returns-else-w-ge64 c =
    let a = c.args in
    elim c.if-least-n.branch [
      | then-least-n w ↦ ⊎_elim (λ p. w.t-6-is ∙ lt-leb 64 a.w p.1 ∙ sym (matrix_short a.least a.n a.w a.a p.0 p.1)) (λ q. absurd (omega (arith, w.if-least-n.true))) c.if-w-ge64.either
      | else-least-n w ↦ w.t-6-is ∙ lt-leb a.least a.n w.if-least-n.false ∙ sym (first_short a.least a.n a.w a.a w.if-least-n.false)
    ]
