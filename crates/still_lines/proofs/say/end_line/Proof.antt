-- `still_lines::say::end_line` meets its contract: a word, a number, a word. Assumes nothing.
use mathlib.Core.List.{List, ◌++◌}
use mathlib.Core.Path.{ap, ◌∙◌}
use Prim.Native.Nat.{ℕ}
use native.Mathlib.Omega.{arith}
use borrow.Author.Rules.{rules}
use Rattle.still_lines.specs.Decimal.{decimal_of}
use Rattle.still_lines.specs.Text.{closing, word_end}
use Rattle.still_lines.proofs.say.end_line.Statement.{statement}
use Rattle.still_lines.proofs.say.end_line.Tie as tie

empty-t-requires : tie.Need-empty-t-requires
empty-t-requires c κs = search rules

numbered-n-requires : tie.Need-numbered-n-requires
numbered-n-requires c κs = search rules

word-requires : tie.Need-word-requires
word-requires c κs = search rules

returns : tie.Need-returns
unfolding closing word_end
returns c =
    let n = c.numbered-n in
    let e = c.empty-t in
    let said-number = n.ensures.0 ∙ ap (λ (xs : List ℕ). xs ++ word_end ++ decimal_of c.args.accepted) e.ensures.0 in
    (c.word.ensures.0 ∙ ap (λ (xs : List ℕ). xs ++ closing) said-number, omega (arith, c.word.ensures.1, n.ensures.1, e.ensures.1))

pub end_line_spec : {M : Type 1} → statement M
end_line_spec = tie.close (tie.spec empty-t-requires numbered-n-requires word-requires returns)
