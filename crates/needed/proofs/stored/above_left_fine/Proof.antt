-- `needed::stored::above_left_fine` meets its contract: three DCs. Assumes nothing.
use mathlib.Core.Path.{ap, ◌∙◌}
use lib.IntN.{pos}
use lib.ListN.{get_or}
use borrow.Author.Rules.{rules}
use Rattle.numbers.proofs.Words.{held}
use Rattle.ranges.specs.Range.{dc_fine}
use Rattle.needed.specs.Stored.{above_left_fine}
use Rattle.needed.proofs.stored.above_left_fine.Statement.{statement}
use Rattle.needed.proofs.stored.above_left_fine.Tie as tie

bounds-s-45 : tie.Need-bounds-s-45
bounds-s-45 c = search rules

fine-three-requires : tie.Need-fine-three-requires
fine-three-requires c κs = search rules

bounds-s-60 : tie.Need-bounds-s-60
bounds-s-60 c = search rules

fine-four-requires : tie.Need-fine-four-requires
fine-four-requires c κs = search rules

bounds-s-75 : tie.Need-bounds-s-75
bounds-s-75 c = search rules

fine-five-requires : tie.Need-fine-five-requires
fine-five-requires c κs = search rules

returns : tie.Need-returns
unfolding above_left_fine
returns c =
    let u = c.before.before in
    let t = u.before.before in
    let s = t.args.s.now in
    rw (
      t.fine-three.ensures ∙ ap dc_fine (held (get_or s 45 (pos 0)) t.fine-arg-1.given),
      u.fine-four.ensures ∙ ap dc_fine (held (get_or s 60 (pos 0)) u.fine-arg-2-1.given),
      c.fine-five.ensures ∙ ap dc_fine (held (get_or s 75 (pos 0)) c.fine-arg-3-1.given),
    )

pub above_left_fine_spec : {M : Type 1} → statement M
above_left_fine_spec =
    tie.close
    (tie.spec
    bounds-s-45
    fine-three-requires
    bounds-s-60
    fine-four-requires
    bounds-s-75
    fine-five-requires
    returns)
