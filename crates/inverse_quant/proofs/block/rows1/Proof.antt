-- `inverse_quant::block::rows1` meets its contract: every row by method 1, the first value put over it, and the last for the sum that is then. Assumes nothing.
use mathlib.Core.Bool.{false, true}
use mathlib.Core.List.{List}
use mathlib.Core.Path.{◌≡◌, refl, ap, ◌∙◌}
use Prim.Native.Nat.{◌≤◌}
use lib.IntN.{ℤ, nat_abs, pos, ◌+ℤ◌, ◌-ℤ◌}
use mir.Syntax.{w32}
use mir.Val.{of_z, to_z}
use borrow.Author.Rules.{rules}
use Rattle.numbers.specs.Grid.{build, cell}
use Rattle.numbers.proofs.Expressions.{Sx, loc, ◌⊞◌, ◌⊟◌, back, fits, mach}
use Rattle.numbers.proofs.Tests.{flag_passes, flag_refuses}
use Rattle.numbers.proofs.Words.{held}
use Rattle.ranges.specs.Range.{level_fine}
use Rattle.ranges.proofs.RangeLaws.{level-abs}
use Rattle.scan.proofs.BlockLaws.{Square}
use Rattle.coefficients.proofs.BlockTests.{test_at}
use Rattle.coefficients.specs.Level.{block_fine}
use Rattle.prediction.specs.Refusal.{first_bad}
use Rattle.prediction.specs.declared.refusal.CoefficientError.TheVariants.{HandedIn}
use Rattle.mismatch.specs.Mismatch.{last_value, sum_of}
use Rattle.inverse_quant.specs.ByRows.{first_value, rows_by1}
use Rattle.inverse_quant.specs.Dequantised.{dequantised1, f_prime1}
use Rattle.inverse_quant.proofs.AnswerLaws.{done_writes, refused_keeps}
use Rattle.inverse_quant.proofs.BlockSums.{sum_small}
use Rattle.inverse_quant.proofs.ByRowsLaws.{first_put1, first_small, last_put, put, rows_small1, square1, sum_put}
use Rattle.inverse_quant.proofs.LimitLaws.{dequantised1-square, f_prime1_small}
use Rattle.inverse_quant.proofs.block.rows1.Statement.{statement}
use Rattle.inverse_quant.proofs.block.rows1.Tie as tie

-- what passed the test
in_range : (c : tie.Else-not-block_fine) → block_fine c.args.qf.now ≡ true
in_range c = flag_passes c.block_fine.ensures c.if-not-block_fine.false

-- every row is put and summed
module _ (c : tie.After-fill1-filled) where
  abbrev s : tie.Start
  s = c.before.before.before.before.before

  abbrev qf : List (List ℤ)
  qf = s.args.qf.now

  abbrev rows : List (List ℤ)
  rows = rows_by1 s.args.ctx s.args.w.now qf

  abbrev f : List (List ℤ)
  f = c.fill1-filled.new.f

  fine : block_fine qf ≡ true
  fine = in_range c.before.before.before

  filled : f ≡ rows
  filled = c.fill1-filled.ensures.0

  summed : c.fill1-filled.result ≡ sum_of rows
  summed = c.fill1-filled.ensures.1

  small : nat_abs (cell f 0 0) ≤ 32768
  small = rw filled (rows_small1 s.args.ctx s.args.w.now qf s.requires.0.depth 0 0)

  first_fine : level_fine (cell qf 0 0) ≡ true
  first_fine = test_at level_fine (pos 0) qf refl fine 0 0

  level : to_z w32 (of_z w32 (cell qf 0 0)) ≡ cell qf 0 0
  level = back {w = w32} (loc (cell qf 0 0) 2048 (level-abs (cell qf 0 0) first_fine)) tt

-- the first value, which makes F', and the sum that is then
module _ (c : tie.After-first_value-dc) where
  abbrev e : tie.After-fill1-filled
  e = c.before.before.before

  abbrev prime : List (List ℤ)
  prime = f_prime1 (s e).args.ctx (s e).args.w.now (qf e)

  first : c.first_value-dc.result ≡ first_value (s e).args.ctx (cell (qf e) 0 0) (cell (rows e) 0 0)
  first =
      let value = back {w = w32} (loc (cell (f e) 0 0) 32768 (small e)) tt ∙ ap (λ (b : List (List ℤ)). cell b 0 0) (filled e) in
      c.first_value-dc.ensures ∙ (λ i. first_value (s e).args.ctx (level e i) (value i))

  made : put (f e) 0 0 (to_z w32 (of_z w32 c.first_value-dc.result)) ≡ prime
  made =
      (λ i. put (filled e i) 0 0 ((held c.first_value-dc.result c.first_value-dc.type_inv ∙ first) i))
      ∙ first_put1 (s e).args.ctx (s e).args.w.now (qf e)

  bound : nat_abs c.first_value-dc.result ≤ 32768
  bound =
      let x = (s e).args in
      rw first
      (first_small x.ctx (cell (qf e) 0 0) (cell (rows e) 0 0) (s e).requires.0.depth (rows_small1 x.ctx x.w.now (qf e) (s e).requires.0.depth 0 0))

  abbrev less : Sx w32
  less =
      let x = (s e).args in
      loc e.fill1-filled.result 2097152
      (rw (summed e) (sum_small 32768 (rows e) (square1 x.ctx x.w.now (qf e)) (rows_small1 x.ctx x.w.now (qf e) (s e).requires.0.depth)))
      ⊟ loc (cell (f e) 0 0) 32768 (small e)

  abbrev total : Sx w32
  total = less ⊞ loc c.first_value-dc.result 32768 bound

  sum_is : mach total ≡ sum_of prime
  sum_is =
      let x = (s e).args in
      back total tt
      ∙ (λ i. (summed e i -ℤ cell (filled e i) 0 0) +ℤ first i)
      ∙ sum_put (rows e) (square1 x.ctx x.w.now (qf e)) (first_value x.ctx (cell (qf e) 0 0) (cell (rows e) 0 0))
      ∙ ap sum_of (first_put1 x.ctx x.w.now (qf e))

  last_small : nat_abs (cell prime 7 7) ≤ 32768
  last_small = let x = (s e).args in f_prime1_small x.ctx x.w.now (qf e) (s e).requires.0.depth 7 7

  last_is : to_z w32 (of_z w32 (cell (put (f e) 0 0 (to_z w32 (of_z w32 c.first_value-dc.result))) 7 7)) ≡ cell prime 7 7
  last_is = ap (λ (b : List (List ℤ)). to_z w32 (of_z w32 (cell b 7 7))) made ∙ back {w = w32} (loc (cell prime 7 7) 32768 last_small) tt

  square : Square prime
  unfolding dequantised1
  square = dequantised1-square false (s e).args.ctx (s e).args.w.now (qf e)

block_fine-requires : tie.Need-block_fine-requires
block_fine-requires c κs = c.requires.1

returns-then-not-block_fine : tie.Need-returns-then-not-block_fine
returns-then-not-block_fine c =
    let s = c.before.before in
    let qf = s.args.qf.now in
    refused_keeps (first_bad true (block_fine qf)) HandedIn (dequantised1 s.args.control s.args.ctx s.args.w.now qf) s.args.out.now
    (ap (first_bad true) (flag_refuses c.block_fine.ensures c.if-not-block_fine.true))

fill1-filled-requires : tie.Need-fill1-filled-requires
unfolding build
fill1-filled-requires c κs =
    let p = c.before.before in
    let s = p.before.before in
    (s.requires.0, s.requires.1, in_range p, refl)

bounds-qf-0 : tie.Need-bounds-qf-0
bounds-qf-0 c = search rules

bounds-qf-0-else-not-block_fine : tie.Need-bounds-qf-0-else-not-block_fine
bounds-qf-0-else-not-block_fine c = search rules

bounds-out-0 : tie.Need-bounds-out-0
bounds-out-0 c = search rules

bounds-out-0-else-not-block_fine : tie.Need-bounds-out-0-else-not-block_fine
bounds-out-0-else-not-block_fine c = search rules

first_value-dc-requires : tie.Need-first_value-dc-requires
first_value-dc-requires c κs = let e = c.before.before in (rw (level e) (first_fine e), (s e).requires.0)

bounds-out-0-else-not-block_fine-2 : tie.Need-bounds-out-0-else-not-block_fine-2
bounds-out-0-else-not-block_fine-2 c = search rules

bounds-out-0-else-not-block_fine-3 : tie.Need-bounds-out-0-else-not-block_fine-3
bounds-out-0-else-not-block_fine-3 c = search rules

overflow_sub-sum : tie.Need-overflow_sub-sum
overflow_sub-sum c = fits (less c.before) tt

overflow_add-sum : tie.Need-overflow_add-sum
overflow_add-sum c = fits (total c.before) tt

bounds-out-0-else-not-block_fine-4 : tie.Need-bounds-out-0-else-not-block_fine-4
bounds-out-0-else-not-block_fine-4 c = search rules

bounds-out-0-else-not-block_fine-5 : tie.Need-bounds-out-0-else-not-block_fine-5
bounds-out-0-else-not-block_fine-5 c = search rules

bounds-out-7 : tie.Need-bounds-out-7
bounds-out-7 c = search rules

bounds-out-7-else-not-block_fine : tie.Need-bounds-out-7-else-not-block_fine
bounds-out-7-else-not-block_fine c = search rules

last_value-requires : tie.Need-last_value-requires
last_value-requires c κs = search rules

bounds-out-7-else-not-block_fine-2 : tie.Need-bounds-out-7-else-not-block_fine-2
bounds-out-7-else-not-block_fine-2 c = search rules

bounds-out-7-else-not-block_fine-3 : tie.Need-bounds-out-7-else-not-block_fine-3
bounds-out-7-else-not-block_fine-3 c = search rules

returns : tie.Need-returns
unfolding dequantised1
returns c =
    let v = c.before.before.before in
    let b = s (e v) in
    let x = b.args in
    let last = held c.last_value.result c.last_value.type_inv ∙ c.last_value.ensures ∙ (λ i. last_value x.control (sum_is v i) (last_is v i)) in
    done_writes (first_bad true (block_fine (qf (e v)))) (dequantised1 x.control x.ctx x.w.now (qf (e v))) x.out.now _ (ap (first_bad true) (fine (e v)))
    ((λ i. put (made v i) 7 7 (last i)) ∙ last_put (prime v) (square v) x.control)

pub rows1_spec : {M : Type 1} → statement M
rows1_spec =
    tie.close
    (tie.spec
    block_fine-requires
    returns-then-not-block_fine
    fill1-filled-requires
    bounds-qf-0
    bounds-qf-0-else-not-block_fine
    bounds-out-0
    bounds-out-0-else-not-block_fine
    first_value-dc-requires
    bounds-out-0-else-not-block_fine-2
    bounds-out-0-else-not-block_fine-3
    overflow_sub-sum
    overflow_add-sum
    bounds-out-0-else-not-block_fine-4
    bounds-out-0-else-not-block_fine-5
    bounds-out-7
    bounds-out-7-else-not-block_fine
    last_value-requires
    bounds-out-7-else-not-block_fine-2
    bounds-out-7-else-not-block_fine-3
    returns)
