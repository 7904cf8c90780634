-- `coefficients::short::levels_fine` meets its contract: where all places are levels, those up to the end are; else those are asked. Assumes nothing.
use mathlib.Core.Bool.{Bool, ◌&&◌}
use mathlib.Core.List.{List}
use mathlib.Core.Path.{ap, sym, ◌∙◌}
use lib.Dec.{eqb}
use lib.IntN.{ℤ}
use lib.ListN.{drop, length}
use borrow.Author.Tests.{eq-eqb}
use Rattle.numbers.specs.Every.{every}
use Rattle.numbers.proofs.Tests.{both_true}
use Rattle.ranges.specs.Range.{level_fine}
use Rattle.scan_rows.specs.UpTo.{up_to}
use Rattle.scan_rows.proofs.UpToLaws.{up_to_fine, up_to_length}
use Rattle.coefficients.proofs.short.levels_fine.Goals as goal

pub returns-then-all_fine : goal.returns-then-all_fine
returns-then-all_fine c =
    let a = c.args in
    c.if-all_fine.true ∙ sym (up_to_fine a.end a.qfs.now (both_true (eqb (length a.qfs.now) 64) (every level_fine (drop 1 a.qfs.now)) (sym c.all_fine.ensures ∙ c.if-all_fine.true)).1)

pub returns-else-all_fine : goal.returns-else-all_fine
returns-else-all_fine c =
    let a = c.args in
    let places = up_to a.end a.qfs.now in
    c.all_fine-else-all_fine.ensures
    ∙ ap (λ (l : List ℤ). eqb (length l) 64 && every level_fine (drop 1 l)) c.up_to.ensures
    ∙ ap (λ (b : Bool). b && every level_fine (drop 1 places)) (eq-eqb (length places) 64 (up_to_length a.end a.qfs.now))
