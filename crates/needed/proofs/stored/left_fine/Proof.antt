-- `needed::stored::left_fine` meets its contract: four blocks and the quantiser. Assumes nothing.
use mathlib.Core.Path.{ap, ◌∙◌}
use lib.IntN.{pos}
use lib.ListN.{get_or}
use borrow.Author.Rules.{rules}
use Rattle.numbers.proofs.Words.{held}
use Rattle.ranges.specs.Range.{within}
use Rattle.needed.specs.Stored.{left_fine}
use Rattle.needed.proofs.StoredLaws.{quantiser-within}
use Rattle.needed.proofs.stored.left_fine.Statement.{statement}
use Rattle.needed.proofs.stored.left_fine.Tie as tie

block_fine-one-requires : tie.Need-block_fine-one-requires
block_fine-one-requires c κs = search rules

block_fine-three-requires : tie.Need-block_fine-three-requires
block_fine-three-requires c κs = search rules

block_fine-four-requires : tie.Need-block_fine-four-requires
block_fine-four-requires c κs = search rules

block_fine-five-requires : tie.Need-block_fine-five-requires
block_fine-five-requires c κs = search rules

bounds-s-90 : tie.Need-bounds-s-90
bounds-s-90 c = search rules

inside-qp-requires : tie.Need-inside-qp-requires
inside-qp-requires c κs = search rules

returns : tie.Need-returns
unfolding left_fine
returns c =
    let t₄ = c.before.before in
    let t₃ = t₄.before in
    let t₂ = t₃.before in
    let t₁ = t₂.before in
    let z = get_or t₁.args.s.now 90 (pos 0) in
    rw (
      t₁.block_fine-one.ensures,
      t₂.block_fine-three.ensures,
      t₃.block_fine-four.ensures,
      t₄.block_fine-five.ensures,
      c.inside-qp.ensures ∙ ap (within (pos 1) (pos 31)) (held z c.inside-arg-1.given) ∙ quantiser-within z,
    )

pub left_fine_spec : {M : Type 1} → statement M
left_fine_spec =
    tie.close
    (tie.spec
    block_fine-one-requires
    block_fine-three-requires
    block_fine-four-requires
    block_fine-five-requires
    bounds-s-90
    inside-qp-requires
    returns)
