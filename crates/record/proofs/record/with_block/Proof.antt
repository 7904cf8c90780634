-- `record::record::with_block` meets its contract: an index above 5 and a record too short are refused; else the block is put in. Assumes nothing.
use mathlib.Core.Path.{ap, refl, ◌∙◌}
use native.Mathlib.Omega.{arith}
use borrow.Author.Tests.{le-leb, le-ltb, lt-leb, lt-ltb}
use lib.IntN.{ℤ}
use lib.ListN.{length}
use mir.Facts.{to_z-of_z}
use Rattle.numbers.proofs.OutcomeLaws.{also}
use Rattle.record.specs.Record.{with_block}
use Rattle.record.specs.Refusals.{recorded_outcome}
use Rattle.record.proofs.OutcomeLaws.{block_due_lem}
use Rattle.record.proofs.record.with_block.Statement.{statement}
use Rattle.record.proofs.record.with_block.Tie as tie

returns-then-i-ge6 : tie.Need-returns-then-i-ge6
returns-then-i-ge6 c =
    let a = c.args in
    also recorded_outcome (rw (le-ltb a.i 6 c.if-i-ge6.true) (refl, refl)) (block_due_lem (length a.own.now) a.i)

returns-then-own-lt91 : tie.Need-returns-then-own-lt91
returns-then-own-lt91 c =
    let a = c.args in
    let n = length a.own.now in
    also recorded_outcome (rw (lt-ltb a.i 6 c.if-i-ge6.false, lt-leb 91 n c.if-own-lt91.true) (refl, refl)) (block_due_lem n a.i)

put_block-requires : tie.Need-put_block-requires
put_block-requires c κs = (c.if-i-ge6.false, c.if-own-lt91.false)

shape_of-own : tie.Need-shape_of-own
shape_of-own c = omega arith

returns : tie.Need-returns
returns c =
    let b = c.before in
    let e = b.before.before in
    let s = e.before.before in
    let a = s.args in
    let n = length a.own.now in
    also recorded_outcome
    (rw (lt-ltb a.i 6 e.if-i-ge6.false, le-leb 91 n e.if-own-lt91.false) (refl, b.put_block.ensures ∙ ap (λ (d : ℤ). with_block a.own.now a.i d a.qf) (to_z-of_z s.ranges.dc)))
    (block_due_lem n a.i)

pub with_block_spec : {M : Type 1} → statement M
with_block_spec = tie.close (tie.spec returns-then-i-ge6 returns-then-own-lt91 put_block-requires shape_of-own returns)
