-- `still_lines::text::numbered` meets its contract. Assumes nothing.
use mathlib.Core.List.{List, ◌++◌}
use mathlib.Core.Path.{ap, ◌∙◌}
use Prim.Native.Nat.{ℕ}
use native.Mathlib.Omega.{arith}
use Rattle.still_lines.specs.Decimal.{decimal_of}
use Rattle.still_lines.proofs.text.numbered.Statement.{statement}
use Rattle.still_lines.proofs.text.numbered.Tie as tie

word-worded-requires : tie.Need-word-worded-requires
word-worded-requires c κs = omega arith

number-requires : tie.Need-number-requires
number-requires c κs = omega (arith, c.word-worded.ensures.1)

returns : tie.Need-returns
returns c = (
  c.number.ensures.0 ∙ ap (λ (xs : List ℕ). xs ++ decimal_of c.args.n) c.word-worded.ensures.0,
  omega
      (arith, c.number.ensures.1, c.word-worded.ensures.1),
)

pub numbered_spec : {M : Type 1} → statement M
numbered_spec = tie.close (tie.spec word-worded-requires number-requires returns)
