-- `neighbours::predictors::taken_by` meets its contract: the three sides of the block. Assumes nothing.
use mathlib.Core.Path.{ap, ◌∙◌}
use borrow.Author.Rules.{rules}
use Rattle.numbers.proofs.Words.{held}
use Rattle.places.specs.Places.{a_block, a_source, b_block, b_source, c_block, c_source}
use Rattle.places.proofs.PlaceLaws.{a_below, b_below, c-below}
use Rattle.record.specs.declared.record.Side.{Side}
use Rattle.neighbours.proofs.SideLaws.{predictors_of, side_here, side_is}
use Rattle.neighbours.proofs.predictors.taken_by.Statement.{statement}
use Rattle.neighbours.proofs.predictors.taken_by.Tie as tie

a_source-requires : tie.Need-a_source-requires
a_source-requires c κs = search rules

a_block-requires : tie.Need-a_block-requires
a_block-requires c κs = search rules

neighbour-a-requires : tie.Need-neighbour-a-requires
neighbour-a-requires c κs = search rules

b_source-requires : tie.Need-b_source-requires
b_source-requires c κs = search rules

b_block-requires : tie.Need-b_block-requires
b_block-requires c κs = search rules

neighbour_dc-b-requires : tie.Need-neighbour_dc-b-requires
neighbour_dc-b-requires c κs = search rules

c_source-requires : tie.Need-c_source-requires
c_source-requires c κs = search rules

c_block-requires : tie.Need-c_block-requires
c_block-requires c κs = search rules

neighbour-c-requires : tie.Need-neighbour-c-requires
neighbour-c-requires c κs = search rules

join-requires : tie.Need-join-requires
join-requires c κs = search rules

returns : tie.Need-returns
returns c =
    let n₃ = c.before in
    let n₂ = n₃.before.before.before in
    let n₁ = n₂.before.before.before in
    let s = n₁.before.before.before in
    let a = s.args in
    let here = side_here a.p.bits_per_pixel a.p.quantiser_scale a.p a.store.now a.own.now in
    c.join.ensures
    ∙ predictors_of _ _ _ _ a.i
    (n₁.neighbour-a.ensures ∙ side_is _ _ _ _ n₁.a_source.ensures n₁.a_block.ensures.0 ∙ here (a_source a.i) (a_block a.i) (a_below a.i))
    (held n₂.neighbour_dc-b.result n₂.neighbour_dc-b.type_inv
    ∙ n₂.neighbour_dc-b.ensures
    ∙ ap (λ (s : Side). s.dc) (side_is _ _ _ _ n₂.b_source.ensures n₂.b_block.ensures.0 ∙ here (b_source a.i) (b_block a.i) (b_below a.i)))
    (n₃.neighbour-c.ensures ∙ side_is _ _ _ _ n₃.c_source.ensures n₃.c_block.ensures.0 ∙ here (c_source a.i) (c_block a.i) (c-below a.i))

pub taken_by_spec : {M : Type 1} → statement M
taken_by_spec =
    tie.close
    (tie.spec
    a_source-requires
    a_block-requires
    neighbour-a-requires
    b_source-requires
    b_block-requires
    neighbour_dc-b-requires
    c_source-requires
    c_block-requires
    neighbour-c-requires
    join-requires
    returns)
