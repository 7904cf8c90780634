-- `vaxembro::answer::vaxembro_spelling` meets its contract: one of five numbers, or 0. Assumes nothing.
use mathlib.Core.Path.{ap, ◌∙◌}
use native.Mathlib.Omega.{arith}
use borrow.Author.Rules.{rules}
use borrow.Author.Tests.{le-ltb, lt-ltb}
use Rattle.vaxembro.specs.Answer.{low, spelling_in}
use Rattle.vaxembro.proofs.RoomLaws.{long-is, short_is}
use Rattle.vaxembro.proofs.answer.vaxembro_spelling.Statement.{statement}
use Rattle.vaxembro.proofs.answer.vaxembro_spelling.Tie as tie

returns-then-which-gt4 : tie.Need-returns-then-which-gt4
unfolding spelling_in
returns-then-which-gt4 c = short_is _ (le-ltb c.args.which 5 c.if-which-gt4.true)

overflow_add-which : tie.Need-overflow_add-which
overflow_add-which c = search rules

told_at-requires : tie.Need-told_at-requires
told_at-requires c κs = let h = c.if-which-gt4.false in omega (arith, h)

low_bits-requires : tie.Need-low_bits-requires
low_bits-requires c κs = search rules

returns : tie.Need-returns
unfolding spelling_in
returns c = long-is 0 (lt-ltb c.args.which 5 (let h = c.if-which-gt4.false in omega (arith, h))) (c.low_bits.ensures ∙ ap low c.told_at.ensures)

pub vaxembro_spelling_spec : {M : Type 1} → statement M
vaxembro_spelling_spec = tie.close (tie.spec returns-then-which-gt4 overflow_add-which told_at-requires low_bits-requires returns)
