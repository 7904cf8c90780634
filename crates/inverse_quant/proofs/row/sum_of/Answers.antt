-- `inverse_quant::row::sum_of` meets its contract, one value a turn; no part of the sum leaves 8 * 2 ^ 18. Assumes nothing.
use Rattle.std.proofs.Common.{ap, of_z, pos, refl, slice_index_or, sym, take, to_z, w32, ℤ, ◌+ℤ◌, ◌∙◌, ◌≡◌}
use native.Mathlib.Omega.{arith}
use lib.Seq.{take_all}
use Rattle.numbers.specs.Sum.{sum_z}
use Rattle.numbers.proofs.Expressions.{Sx, loc, ◌⊞◌, back, fits}
use Rattle.numbers.proofs.Lists.{sum_bound, sum-next}
use Rattle.inverse_quant.proofs.row.sum_of.Goals as goal

-- the sum so far, and with the next
module _ (c : goal.After-sum-1) where
  abbrev so_far : Sx w32
  so_far = loc (sum_z (take c.loop-x.x-index c.args.sums)) 2097152 (omega (arith, sum_bound 262144 c.args.sums c.requires c.loop-x.x-index))

  abbrev next : Sx w32
  next = so_far ⊞ loc (slice_index_or c.args.sums c.loop-x.x-index (pos 0)) 262144 (c.requires c.loop-x.x-index)

  reads : to_z w32 c.loop-x.sum-bits ≡ to_z w32 (of_z w32 (sum_z (take c.loop-x.x-index c.args.sums)))
  reads = c.loop-x.invariant ∙ sym (back so_far tt)

pub loop-x-init : goal.loop-x-init
unfolding sum_z
loop-x-init c = refl

pub overflow_add-sum : goal.overflow_add-sum
overflow_add-sum c = rw (reads c) (fits (next c) tt)

pub loop-x-preserved : goal.loop-x-preserved
loop-x-preserved c =
    let x = slice_index_or c.args.sums c.loop-x.x-index (pos 0) in
    ap (λ (z : ℤ). to_z w32 (of_z w32 (z +ℤ to_z w32 (of_z w32 x)))) (reads c) ∙ back (next c) tt ∙ sym (sum-next c.args.sums c.loop-x.x-index)

pub returns : goal.returns
returns c = c.loop-x.invariant ∙ ap sum_z (take_all c.loop-x.x-index c.args.sums (omega arith))
