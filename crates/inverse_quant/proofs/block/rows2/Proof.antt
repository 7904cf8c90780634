-- `inverse_quant::block::rows2` meets its contract: every row by method 2, and the first value put over it. Assumes nothing.
use mathlib.Core.Bool.{true}
use mathlib.Core.List.{List}
use mathlib.Core.Path.{◌≡◌, refl, ap, ◌∙◌}
use lib.IntN.{ℤ, pos}
use mir.Syntax.{w32}
use mir.Val.{of_z, to_z}
use borrow.Author.Rules.{rules}
use Rattle.numbers.specs.Grid.{build, cell}
use Rattle.numbers.proofs.Expressions.{back, loc}
use Rattle.numbers.proofs.Tests.{flag_passes, flag_refuses}
use Rattle.numbers.proofs.Words.{held}
use Rattle.ranges.specs.Range.{level_fine}
use Rattle.ranges.proofs.RangeLaws.{level-abs}
use Rattle.coefficients.proofs.BlockTests.{test_at}
use Rattle.coefficients.specs.Level.{block_fine}
use Rattle.prediction.specs.Refusal.{first_bad}
use Rattle.prediction.specs.declared.refusal.CoefficientError.TheVariants.{HandedIn}
use Rattle.inverse_quant.specs.ByRows.{first_value, rows_by2}
use Rattle.inverse_quant.specs.Dequantised.{dequantised2}
use Rattle.inverse_quant.proofs.AnswerLaws.{done_writes, refused_keeps}
use Rattle.inverse_quant.proofs.ByRowsLaws.{first_put2, put}
use Rattle.inverse_quant.proofs.block.rows2.Statement.{statement}
use Rattle.inverse_quant.proofs.block.rows2.Tie as tie

-- what passed the test
in_range : (c : tie.Else-not-block_fine) → block_fine c.args.qf.now ≡ true
in_range c = flag_passes c.block_fine.ensures c.if-not-block_fine.false

-- every row is put
module _ (c : tie.After-fill2) where
  abbrev s : tie.Start
  s = c.before.before.before.before.before

  abbrev qf : List (List ℤ)
  qf = s.args.qf.now

  abbrev rows : List (List ℤ)
  rows = rows_by2 s.args.ctx qf

  fine : block_fine qf ≡ true
  fine = in_range c.before.before.before

  first_fine : level_fine (cell qf 0 0) ≡ true
  first_fine = test_at level_fine (pos 0) qf refl fine 0 0

  level : to_z w32 (of_z w32 (cell qf 0 0)) ≡ cell qf 0 0
  level = back {w = w32} (loc (cell qf 0 0) 2048 (level-abs (cell qf 0 0) first_fine)) tt

block_fine-requires : tie.Need-block_fine-requires
block_fine-requires c κs = c.requires.1

returns-then-not-block_fine : tie.Need-returns-then-not-block_fine
returns-then-not-block_fine c =
    let s = c.before.before in
    let qf = s.args.qf.now in
    refused_keeps (first_bad true (block_fine qf)) HandedIn (dequantised2 s.args.ctx qf) s.args.out.now
    (ap (first_bad true) (flag_refuses c.block_fine.ensures c.if-not-block_fine.true))

fill2-requires : tie.Need-fill2-requires
unfolding build
fill2-requires c κs =
    let p = c.before.before in
    let s = p.before.before in
    (s.requires.0, s.requires.1, in_range p, refl)

bounds-qf-0 : tie.Need-bounds-qf-0
bounds-qf-0 c = search rules

bounds-qf-0-else-not-block_fine : tie.Need-bounds-qf-0-else-not-block_fine
bounds-qf-0-else-not-block_fine c = search rules

bounds-out-0 : tie.Need-bounds-out-0
bounds-out-0 c = search rules

bounds-out-0-else-not-block_fine : tie.Need-bounds-out-0-else-not-block_fine
bounds-out-0-else-not-block_fine c = search rules

first_value-requires : tie.Need-first_value-requires
first_value-requires c κs =
    let e = c.before.before in
    (rw (level e) (first_fine e), (s e).requires.0)

bounds-out-0-else-not-block_fine-2 : tie.Need-bounds-out-0-else-not-block_fine-2
bounds-out-0-else-not-block_fine-2 c = search rules

bounds-out-0-else-not-block_fine-3 : tie.Need-bounds-out-0-else-not-block_fine-3
bounds-out-0-else-not-block_fine-3 c = search rules

returns : tie.Need-returns
unfolding dequantised2
returns c =
    let e = c.before.before.before in
    let x = (s e).args.ctx in
    let f = e.fill2.new.f in
    let filled : f ≡ rows e = e.fill2.ensures in
    let first = cell (qf e) 0 0 in
    let value = held (cell f 0 0) c.first_value-arg-2-1.given ∙ ap (λ (b : List (List ℤ)). cell b 0 0) filled in
    let dc : c.first_value.result ≡ first_value x first (cell (rows e) 0 0) = c.first_value.ensures ∙ (λ i. first_value x (level e i) (value i)) in
    done_writes (first_bad true (block_fine (qf e))) (dequantised2 x (qf e)) (s e).args.out.now _ (ap (first_bad true) (fine e))
    ((λ i. put (filled i) 0 0 ((held c.first_value.result c.first_value.type_inv ∙ dc) i)) ∙ first_put2 x (qf e))

pub rows2_spec : {M : Type 1} → statement M
rows2_spec =
    tie.close
    (tie.spec
    block_fine-requires
    returns-then-not-block_fine
    fill2-requires
    bounds-qf-0
    bounds-qf-0-else-not-block_fine
    bounds-out-0
    bounds-out-0-else-not-block_fine
    first_value-requires
    bounds-out-0-else-not-block_fine-2
    bounds-out-0-else-not-block_fine-3
    returns)
