-- `samples::write_macroblock` meets its contract: too few samples stay as they are; of others the first 384 are written. Assumes nothing.
use mathlib.Core.List.{List, ◌++◌}
use mathlib.Core.Path.{ap, sym, ◌∙◌}
use borrow.Author.Rules.{rules}
use lib.IntN.{ℤ}
use lib.ListN.{drop}
use Rattle.numbers.proofs.OutcomeLaws.{also}
use Rattle.samples.specs.Samples.{written_outcome}
use Rattle.samples.proofs.LayoutLaws.{enough, too_few}
use Rattle.samples.proofs.OutcomeLaws.{is-written, not_written, written_due_lem}
use Rattle.samples.proofs.write_macroblock.Statement.{statement}
use Rattle.samples.proofs.write_macroblock.Tie as tie

returns-then-samples-lt-SAMPLES : tie.Need-returns-then-samples-lt-SAMPLES
returns-then-samples-lt-SAMPLES c =
    let s = c.args.samples.now in
    also written_outcome (sym (not_written s c.if-samples-lt-SAMPLES.true), sym (too_few _ s c.if-samples-lt-SAMPLES.true)) (written_due_lem s)

slice_bounds-write_all-count : tie.Need-slice_bounds-write_all-count
slice_bounds-write_all-count c = search rules

slice_bounds-write_all-start : tie.Need-slice_bounds-write_all-start
slice_bounds-write_all-start c = search rules

slice_bounds-write_all-end : tie.Need-slice_bounds-write_all-end
slice_bounds-write_all-end c = search rules

write_all-requires : tie.Need-write_all-requires
write_all-requires c κs = search rules

shape_of-samples : tie.Need-shape_of-samples
shape_of-samples c = search rules

returns : tie.Need-returns
returns c =
    let s = c.args.samples.now in
    let h = c.if-samples-lt-SAMPLES.false in
    also written_outcome (sym (is-written s h), ap (λ (l : List ℤ). l ++ drop 384 s) c.write_all.ensures ∙ sym (enough _ s h)) (written_due_lem s)

pub write_macroblock_spec : {M : Type 1} → statement M
write_macroblock_spec =
    tie.close
    (tie.spec
    returns-then-samples-lt-SAMPLES
    slice_bounds-write_all-count
    slice_bounds-write_all-start
    slice_bounds-write_all-end
    write_all-requires
    shape_of-samples
    returns)
