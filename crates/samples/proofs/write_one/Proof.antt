-- `samples::write_one` meets its contract: a block above 5 and too few samples leave them as they are; else the block's places are written. Assumes nothing.
use mathlib.Core.Path.{sym}
use native.Mathlib.Omega.{arith}
use borrow.Author.Rules.{rules}
use Rattle.numbers.proofs.OutcomeLaws.{also}
use Rattle.samples.specs.Samples.{block_outcome}
use Rattle.samples.proofs.OneOfSix.{block_fits, no_such_block, one_right, part_room, too_few_for_one}
use Rattle.samples.proofs.OutcomeLaws.{block_due_lem, block-is-written, block_out_of_range, block_too_short}
use Rattle.samples.proofs.write_one.Statement.{statement}
use Rattle.samples.proofs.write_one.Tie as tie

returns-then-i-ge6 : tie.Need-returns-then-i-ge6
returns-then-i-ge6 c =
    let i = c.args.i in
    let s = c.args.samples.now in
    let h = c.if-i-ge6.true in
    also block_outcome (sym (block_out_of_range i s h), sym (no_such_block i _ s h)) (block_due_lem i s)

returns-then-samples-lt-SAMPLES : tie.Need-returns-then-samples-lt-SAMPLES
returns-then-samples-lt-SAMPLES c =
    let i = c.args.i in
    let s = c.args.samples.now in
    let h = c.if-i-ge6.false in
    let l = c.if-samples-lt-SAMPLES.true in
    also block_outcome (sym (block_too_short i s h l), sym (too_few_for_one i _ s h l)) (block_due_lem i s)

begin_of-begin-requires : tie.Need-begin_of-begin-requires
begin_of-begin-requires c κs = search rules

offset_bounds-samples-begin : tie.Need-offset_bounds-samples-begin
offset_bounds-samples-begin c = omega (arith, block_fits _ c.if-i-ge6.false, c.begin_of-begin.ensures)

slice_bounds-write_block-count : tie.Need-slice_bounds-write_block-count
slice_bounds-write_block-count c = omega (arith, block_fits _ c.if-i-ge6.false, c.begin_of-begin.ensures)

slice_bounds-write_block-start : tie.Need-slice_bounds-write_block-start
slice_bounds-write_block-start c = omega (arith, block_fits _ c.if-i-ge6.false, c.begin_of-begin.ensures)

slice_bounds-write_block-end : tie.Need-slice_bounds-write_block-end
slice_bounds-write_block-end c = search rules

row_length-requires : tie.Need-row_length-requires
row_length-requires c κs = search rules

write_block-requires : tie.Need-write_block-requires
write_block-requires c κs =
    let c₀ = c.before.before in
    part_room _ _ _ _ c₀.if-i-ge6.false c₀.if-samples-lt-SAMPLES.false c₀.begin_of-begin.ensures c.row_length.ensures

shape_of-samples : tie.Need-shape_of-samples
shape_of-samples c = search rules

returns : tie.Need-returns
returns c =
    let c₀ = c.before.before.before.before in
    let i = c₀.args.i in
    let s = c₀.args.samples.now in
    let h = c₀.if-i-ge6.false in
    let l = c₀.if-samples-lt-SAMPLES.false in
    also block_outcome (sym (block-is-written i s h l), one_right i _ s h l _ _ _ c₀.begin_of-begin.ensures c.row_length.ensures c.write_block.ensures) (block_due_lem i s)

pub write_one_spec : {M : Type 1} → statement M
write_one_spec =
    tie.close
    (tie.spec
    returns-then-i-ge6
    returns-then-samples-lt-SAMPLES
    begin_of-begin-requires
    offset_bounds-samples-begin
    slice_bounds-write_block-count
    slice_bounds-write_block-start
    slice_bounds-write_block-end
    row_length-requires
    write_block-requires
    shape_of-samples
    returns)
