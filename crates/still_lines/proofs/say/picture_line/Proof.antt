-- `still_lines::say::picture_line` meets its contract: four numbers. Assumes nothing.
use mathlib.Core.List.{List, ◌++◌}
use mathlib.Core.Path.{ap, ◌∙◌}
use Prim.Native.Nat.{ℕ}
use native.Mathlib.Omega.{arith}
use borrow.Author.Rules.{rules}
use Rattle.still_lines.specs.Decimal.{decimal_of}
use Rattle.still_lines.specs.Text.{closing, space, word_picture}
use Rattle.still_lines.proofs.say.picture_line.Statement.{statement}
use Rattle.still_lines.proofs.say.picture_line.Tie as tie

numbered-width-requires : tie.Need-numbered-width-requires
numbered-width-requires c κs = search rules

numbered-height-requires : tie.Need-numbered-height-requires
numbered-height-requires c κs = search rules

numbered-depth-requires : tie.Need-numbered-depth-requires
numbered-depth-requires c κs = search rules

numbered-method-requires : tie.Need-numbered-method-requires
numbered-method-requires c κs = search rules

word-requires : tie.Need-word-requires
word-requires c κs = search rules

returns : tie.Need-returns
unfolding closing space word_picture
returns c =
    let d = c.numbered-method in
    let e = c.numbered-depth in
    let f = c.numbered-height in
    let g = c.numbered-width in
    let a = c.args in (
      c.word.ensures.0
          ∙ ap (λ (xs : List ℕ). xs ++ closing) (d.ensures.0
          ∙ ap (λ (xs : List ℕ). xs ++ space ++ decimal_of a.m) (e.ensures.0
          ∙ ap (λ (xs : List ℕ). xs ++ space ++ decimal_of a.d) (f.ensures.0
          ∙ ap (λ (xs : List ℕ). xs ++ space ++ decimal_of a.h) g.ensures.0))),
      omega (arith, c.word.ensures.1, d.ensures.1, e.ensures.1, f.ensures.1, g.ensures.1, c.requires),
    )

pub picture_line_spec : {M : Type 1} → statement M
picture_line_spec = tie.close (tie.spec numbered-width-requires numbered-height-requires numbered-depth-requires numbered-method-requires word-requires returns)
