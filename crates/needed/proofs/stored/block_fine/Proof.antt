-- `needed::stored::block_fine` meets its contract: the DC and seven numbers. Assumes nothing.
use mathlib.Core.Path.{ap, ◌∙◌}
use Prim.Native.Nat.{◌*◌}
use lib.IntN.{pos}
use lib.ListN.{get_or}
use borrow.Author.Rules.{rules}
use Rattle.numbers.proofs.Words.{held}
use Rattle.ranges.specs.Range.{dc_fine}
use Rattle.needed.specs.Stored.{block_fine}
use Rattle.needed.proofs.stored.block_fine.Statement.{statement}
use Rattle.needed.proofs.stored.block_fine.Tie as tie

overflow_mul-b : tie.Need-overflow_mul-b
overflow_mul-b c = search rules

offset_bounds-s-b : tie.Need-offset_bounds-s-b
offset_bounds-s-b c = search rules

bounds-s-b : tie.Need-bounds-s-b
bounds-s-b c = search rules

fine-dc-requires : tie.Need-fine-dc-requires
fine-dc-requires c κs = search rules

overflow_mul-b-2 : tie.Need-overflow_mul-b-2
overflow_mul-b-2 c = search rules

overflow_add-b : tie.Need-overflow_add-b
overflow_add-b c = search rules

seven_levels-levels-requires : tie.Need-seven_levels-levels-requires
seven_levels-levels-requires c κs = search rules

returns : tie.Need-returns
unfolding block_fine
returns c =
    let t = c.before in
    let a = t.args in
    let z = get_or a.s.now (15 * a.b) (pos 0) in
    rw (t.fine-dc.ensures ∙ ap dc_fine (held z t.fine-arg-1.given), c.seven_levels-levels.ensures)

pub block_fine_spec : {M : Type 1} → statement M
block_fine_spec =
    tie.close
    (tie.spec
    overflow_mul-b
    offset_bounds-s-b
    bounds-s-b
    fine-dc-requires
    overflow_mul-b-2
    overflow_add-b
    seven_levels-levels-requires
    returns)
