-- `needed::needed::put_needed` meets its contract: three DCs, with AC prediction and without. Assumes nothing.
use mathlib.Core.Bool.{Bool}
use mathlib.Core.List.{List}
use mathlib.Core.Path.{ap, sym, ◌∙◌}
use Prim.Native.Nat.{ℕ}
use lib.IntN.{ℤ}
use mir.Syntax.{w32}
use mir.Val.{of_z, to_z}
use borrow.Author.Rules.{rules}
use Rattle.numbers.proofs.Words.{held}
use Rattle.coefficients.proofs.HandedLaws.{needed_dcs}
use Rattle.coefficients.specs.Needed.{needed_of}
use Rattle.prediction.specs.declared.predictor.BlockPredictors.{BlockPredictors}
use Rattle.places.specs.Places.{a_block, a_source, b_block, b_source, c_block, c_source}
use Rattle.places.proofs.PlaceLaws.{a_below, b_below, c-below}
use Rattle.record.specs.Record.{record_at}
use Rattle.record.specs.declared.record.Side.{Side}
use Rattle.neighbours.specs.Neighbours.{Around, around_by, predictors}
use Rattle.neighbours.proofs.SideLaws.{side_here, side_is}
use Rattle.needed.specs.Sides.{DcsAre}
use Rattle.needed.proofs.NeededLaws.{dcs-are, dcs-taken}
use Rattle.needed.proofs.needed.put_needed.Statement.{statement}
use Rattle.needed.proofs.needed.put_needed.Tie as tie

a_source-from_a-requires : tie.Need-a_source-from_a-requires
a_source-from_a-requires c κs = search rules

a_block-requires : tie.Need-a_block-requires
a_block-requires c κs = search rules

neighbour_dc-a-requires : tie.Need-neighbour_dc-a-requires
neighbour_dc-a-requires c κs = search rules

b_source-from_b-requires : tie.Need-b_source-from_b-requires
b_source-from_b-requires c κs = search rules

b_block-requires : tie.Need-b_block-requires
b_block-requires c κs = search rules

neighbour_dc-b-requires : tie.Need-neighbour_dc-b-requires
neighbour_dc-b-requires c κs = search rules

c_source-from_c-requires : tie.Need-c_source-from_c-requires
c_source-from_c-requires c κs = search rules

c_block-requires : tie.Need-c_block-requires
c_block-requires c κs = search rules

neighbour_dc-c-requires : tie.Need-neighbour_dc-c-requires
neighbour_dc-c-requires c κs = search rules

module _ (m : tie.After-neighbour_dc-c) where
  abbrev start : tie.Start
  start = m.before.before.before.before.before.before.before.before.before

  abbrev depth : ℕ
  depth = start.args.p.bits_per_pixel

  abbrev scale : ℕ
  scale = start.args.p.quantiser_scale

  abbrev around : Around
  around = around_by start.args.p start.args.store.now

  abbrev own : List ℤ
  own = record_at start.args.own.now 0

  abbrev taken : BlockPredictors
  taken = predictors depth scale around own start.args.i

  dcs : DcsAre taken
      (to_z w32 (of_z w32 m.neighbour_dc-a.result))
      (to_z w32 (of_z w32 m.neighbour_dc-b.result))
      (to_z w32 (of_z w32 m.neighbour_dc-c.result))
  dcs =
      let n₂ = m.before.before.before in
      let n₁ = n₂.before.before.before in
      let i = start.args.i in
      let here = side_here depth scale start.args.p start.args.store.now start.args.own.now in
      dcs-taken depth scale around own i
      (held n₁.neighbour_dc-a.result n₁.neighbour_dc-a.type_inv
      ∙ n₁.neighbour_dc-a.ensures
      ∙ ap (λ (s : Side). s.dc) (side_is _ _ _ _ n₁.a_source-from_a.ensures n₁.a_block.ensures.0 ∙ here (a_source i) (a_block i) (a_below i)))
      (held n₂.neighbour_dc-b.result n₂.neighbour_dc-b.type_inv
      ∙ n₂.neighbour_dc-b.ensures
      ∙ ap (λ (s : Side). s.dc) (side_is _ _ _ _ n₂.b_source-from_b.ensures n₂.b_block.ensures.0 ∙ here (b_source i) (b_block i) (b_below i)))
      (held m.neighbour_dc-c.result m.neighbour_dc-c.type_inv
      ∙ m.neighbour_dc-c.ensures
      ∙ ap (λ (s : Side). s.dc) (side_is _ _ _ _ m.c_source-from_c.ensures m.c_block.ensures.0 ∙ here (c_source i) (c_block i) (c-below i)))

put_chosen-requires : tie.Need-put_chosen-requires
put_chosen-requires c κs =
    let m = c.before.before in
    dcs m

put_none-requires : tie.Need-put_none-requires
put_none-requires c κs = search rules

returns-then-ac_pred : tie.Need-returns-then-ac_pred
returns-then-ac_pred c =
    let t = c.before.before in
    let m = t.before in
    c.put_chosen.ensures ∙ ap (λ (ac_pred : Bool). needed_of (scale m) ac_pred (taken m)) (sym t.if-ac_pred.true)

returns-else-ac_pred : tie.Need-returns-else-ac_pred
returns-else-ac_pred c =
    let t = c.before.before in
    let m = t.before in
    c.put_none.ensures
    ∙ dcs-are (depth m) (scale m) (around m) (own m) (start m).args.i (dcs m)
    ∙ sym (needed_dcs (scale m) (taken m) t.if-ac_pred.false)

pub put_needed_spec : {M : Type 1} → statement M
put_needed_spec =
    tie.close
    (tie.spec
    a_source-from_a-requires
    a_block-requires
    neighbour_dc-a-requires
    b_source-from_b-requires
    b_block-requires
    neighbour_dc-b-requires
    c_source-from_c-requires
    c_block-requires
    neighbour_dc-c-requires
    put_chosen-requires
    put_none-requires
    returns-then-ac_pred
    returns-else-ac_pred)
