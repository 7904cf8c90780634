-- `still_lines::say::mb_refused` meets its contract: the place, then a number. Assumes nothing.
use mathlib.Core.List.{List, ◌++◌}
use mathlib.Core.Path.{ap, ◌∙◌}
use Prim.Native.Nat.{ℕ}
use native.Mathlib.Omega.{arith}
use borrow.Author.Rules.{rules}
use Rattle.still_lines.specs.Decimal.{decimal_of}
use Rattle.still_lines.specs.Text.{closing_two, word_refused}
use Rattle.still_lines.proofs.say.mb_refused.Statement.{statement}
use Rattle.still_lines.proofs.say.mb_refused.Tie as tie

place-at-requires : tie.Need-place-at-requires
place-at-requires c κs = search rules

numbered-number-requires : tie.Need-numbered-number-requires
numbered-number-requires c κs = search rules

word-requires : tie.Need-word-requires
word-requires c κs = search rules

returns : tie.Need-returns
unfolding closing_two word_refused
returns c =
    let n = c.numbered-number in
    let e = c.place-at in
    let a = c.args in
    let number = n.ensures.0 ∙ ap (λ (xs : List ℕ). xs ++ word_refused ++ decimal_of a.n) e.ensures.0 in
    (c.word.ensures.0 ∙ ap (λ (xs : List ℕ). xs ++ closing_two) number, omega (arith, c.word.ensures.1, n.ensures.1, e.ensures.1))

pub mb_refused_spec : {M : Type 1} → statement M
mb_refused_spec = tie.close (tie.spec place-at-requires numbered-number-requires word-requires returns)
