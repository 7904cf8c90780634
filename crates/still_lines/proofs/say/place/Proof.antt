-- `still_lines::say::place` meets its contract: two numbers. Assumes nothing.
use mathlib.Core.List.{List, ◌++◌}
use mathlib.Core.Path.{ap, ◌∙◌}
use Prim.Native.Nat.{ℕ}
use native.Mathlib.Omega.{arith}
use borrow.Author.Rules.{rules}
use Rattle.still_lines.specs.Decimal.{decimal_of}
use Rattle.still_lines.specs.Text.{space, word_mb}
use Rattle.still_lines.proofs.say.place.Statement.{statement}
use Rattle.still_lines.proofs.say.place.Tie as tie

empty-t-requires : tie.Need-empty-t-requires
empty-t-requires c κs = search rules

numbered-c-requires : tie.Need-numbered-c-requires
numbered-c-requires c κs = search rules

numbered-requires : tie.Need-numbered-requires
numbered-requires c κs = search rules

returns : tie.Need-returns
unfolding space word_mb
returns c =
    let m = c.numbered-c in
    let e = c.empty-t in (
      c.numbered.ensures.0 ∙ ap (λ (xs : List ℕ). xs ++ space ++ decimal_of c.args.row)
          (m.ensures.0 ∙ ap (λ (xs : List ℕ). xs ++ word_mb ++ decimal_of c.args.column) e.ensures.0),
      omega (arith, c.numbered.ensures.1, m.ensures.1, e.ensures.1),
    )

pub place_spec : {M : Type 1} → statement M
place_spec = tie.close (tie.spec empty-t-requires numbered-c-requires numbered-requires returns)
