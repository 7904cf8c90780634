-- `record::record::seven` meets its contract: past the store's end zeros; seven numbers that are there, or each that is. Assumes nothing.
use Rattle.std.proofs.Common.{pos, refl, ◌∙◌}
use native.Mathlib.Omega.{arith}
use Rattle.numbers.specs.Grid.{build}
use Rattle.numbers.proofs.Fill.{cells-none, cells-more, cells_all}
use Rattle.numbers.proofs.Words.{held}
use Rattle.record.proofs.KnownLaws.{seven_past}
use Rattle.record.proofs.RecordLaws.{part_built}
use Rattle.record.proofs.record.seven.Invariants.{f, z}
use Rattle.record.proofs.record.seven.Goals as goal

pub returns-then-s-at : goal.returns-then-s-at
unfolding build
returns-then-s-at c = seven_past c.args.s.now c.args.at c.if-s-at.true

pub returns-then-at-s : goal.returns-then-at-s
returns-then-at-s c = c.copy_from_slice.ensures.after ∙ part_built c.args.s.now c.args.at 7 c.if-at-s.true

pub loop-k-init : goal.loop-k-init
unfolding build
loop-k-init c = (omega arith, cells-none 7 (f c.args.s.now c.args.at) z _ refl)

pub loop-k-preserved : goal.loop-k-preserved
loop-k-preserved c =
    (omega arith, cells-more 7 _ _ (pos 0) _ _ _ c.loop-k-test.true c.loop-k.invariant.1 (held c.number.result c.number.type_inv ∙ c.number.ensures))

pub returns : goal.returns
returns c = let l = c.loop-k in cells_all 7 _ _ _ _ c.loop-k-test.false l.invariant.0 l.invariant.1
