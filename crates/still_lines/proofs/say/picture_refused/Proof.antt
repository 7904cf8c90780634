-- `still_lines::say::picture_refused` meets its contract: a word, a number, a word. Assumes nothing.
use mathlib.Core.List.{List, ◌++◌}
use mathlib.Core.Path.{ap, ◌∙◌}
use Prim.Native.Nat.{ℕ}
use native.Mathlib.Omega.{arith}
use borrow.Author.Rules.{rules}
use Rattle.still_lines.specs.Decimal.{decimal_of}
use Rattle.still_lines.specs.Text.{closing, word_picture_refused}
use Rattle.still_lines.proofs.say.picture_refused.Statement.{statement}
use Rattle.still_lines.proofs.say.picture_refused.Tie as tie

empty-t-requires : tie.Need-empty-t-requires
empty-t-requires c κs = search rules

numbered-number-requires : tie.Need-numbered-number-requires
numbered-number-requires c κs = search rules

word-requires : tie.Need-word-requires
word-requires c κs = search rules

returns : tie.Need-returns
unfolding closing word_picture_refused
returns c =
    let n = c.numbered-number in
    let e = c.empty-t in
    let said-number = n.ensures.0 ∙ ap (λ (xs : List ℕ). xs ++ word_picture_refused ++ decimal_of c.args.n) e.ensures.0 in
    (c.word.ensures.0 ∙ ap (λ (xs : List ℕ). xs ++ closing) said-number, omega (arith, c.word.ensures.1, n.ensures.1, e.ensures.1))

pub picture_refused_spec : {M : Type 1} → statement M
picture_refused_spec = tie.close (tie.spec empty-t-requires numbered-number-requires word-requires returns)
