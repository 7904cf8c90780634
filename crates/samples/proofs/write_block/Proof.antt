-- `samples::write_block` meets its contract: the rows before y, and in row y the cells before x, are written. Assumes nothing.
use mathlib.Core.List.{List}
use mathlib.Core.Path.{◌≡◌}
use Prim.Native.Nat.{◌≤◌, ◌<◌, ◌-◌, ◌+◌, ◌*◌}
use native.Mathlib.Omega.{arith}
use borrow.Author.Rules.{rules}
use lib.IntN.{ℤ}
use lib.ListN.{length, length-set}
use Rattle.samples.proofs.OneBlock.{place_inside, place_small, upto, upto_all, upto_column, upto_length, upto_more, upto_none, upto_row}
use Rattle.samples.proofs.write_block.Statement.{statement}
use Rattle.samples.proofs.write_block.Tie as tie

abbrev invariant-loop-x : tie.invariant-loop-x
invariant-loop-x part₀ row-length block y x₀ part x = (y < 8) × (x ≤ 8) × (row-length * 7 + 8 ≤ length part) × ((s : List ℤ) → part₀ ≡ upto s row-length block (y * row-length) → part ≡ upto s row-length block (y * row-length + x))

abbrev decreases-loop-x : tie.decreases-loop-x
decreases-loop-x part₀ row-length block y x₀ part x = 8 - x

abbrev invariant-loop-y : tie.invariant-loop-y
invariant-loop-y part₀ row-length block y₀ part y = (y ≤ 8) × (part ≡ upto part₀ row-length block (y * row-length))

abbrev decreases-loop-y : tie.decreases-loop-y
decreases-loop-y part₀ row-length block y₀ part y = 8 - y

loop-y-init : tie.Need-loop-y-init invariant-loop-x decreases-loop-x invariant-loop-y decreases-loop-y
loop-y-init c = (omega arith, upto_none _ _ _)

loop-x-init : tie.Need-loop-x-init invariant-loop-x decreases-loop-x invariant-loop-y decreases-loop-y
loop-x-init c = (c.loop-y-test.true, omega arith, omega (arith, upto_length _ _ _ _ _ c.loop-y.invariant.1), λ s e. upto_column s _ _ _ _ e)

offset_bounds-block-y : tie.Need-offset_bounds-block-y invariant-loop-x decreases-loop-x invariant-loop-y decreases-loop-y
offset_bounds-block-y c = omega arith

offset_bounds-block-x : tie.Need-offset_bounds-block-x invariant-loop-x decreases-loop-x invariant-loop-y decreases-loop-y
offset_bounds-block-x c = omega arith

bounds-block-y : tie.Need-bounds-block-y invariant-loop-x decreases-loop-x invariant-loop-y decreases-loop-y
bounds-block-y c = omega arith

bounds-block-x : tie.Need-bounds-block-x invariant-loop-x decreases-loop-x invariant-loop-y decreases-loop-y
bounds-block-x c = omega arith

overflow_mul-y : tie.Need-overflow_mul-y invariant-loop-x decreases-loop-x invariant-loop-y decreases-loop-y
overflow_mul-y c = omega (arith, place_small _ _ c.requires.1 c.loop-x.invariant.0)

overflow_add-y : tie.Need-overflow_add-y invariant-loop-x decreases-loop-x invariant-loop-y decreases-loop-y
overflow_add-y c = omega (arith, place_small _ _ c.requires.1 c.loop-x.invariant.0)

offset_bounds-part-y : tie.Need-offset_bounds-part-y invariant-loop-x decreases-loop-x invariant-loop-y decreases-loop-y
offset_bounds-part-y c = omega (arith, place_small _ _ c.requires.1 c.loop-x.invariant.0)

bounds-part-y : tie.Need-bounds-part-y invariant-loop-x decreases-loop-x invariant-loop-y decreases-loop-y
bounds-part-y c = let l = c.loop-x in place_inside _ _ _ _ l.invariant.2 l.invariant.0 (omega arith)

overflow_step-x : tie.Need-overflow_step-x invariant-loop-x decreases-loop-x invariant-loop-y decreases-loop-y
overflow_step-x c = omega arith

loop-x-smaller : tie.Need-loop-x-smaller invariant-loop-x decreases-loop-x invariant-loop-y decreases-loop-y
loop-x-smaller c = omega arith

loop-x-preserved : tie.Need-loop-x-preserved invariant-loop-x decreases-loop-x invariant-loop-y decreases-loop-y
loop-x-preserved c =
    let s = c.before.before.before.before.before in
    let l = c.loop-x in (
      l.invariant.0,
      omega arith,
      simp length-set l.invariant.2,
      λ s' e. upto_more s' _ _ s.requires.0 _ _ _ _ l.invariant.0 (omega arith) (place_inside _ _ _ _ l.invariant.2 l.invariant.0 (omega arith)) (l.invariant.3 s' e) (search rules),
    )

overflow_step-y : tie.Need-overflow_step-y invariant-loop-x decreases-loop-x invariant-loop-y decreases-loop-y
overflow_step-y c = omega arith

loop-y-smaller : tie.Need-loop-y-smaller invariant-loop-x decreases-loop-x invariant-loop-y decreases-loop-y
loop-y-smaller c = omega arith

loop-y-preserved : tie.Need-loop-y-preserved invariant-loop-x decreases-loop-x invariant-loop-y decreases-loop-y
loop-y-preserved c =
    let l = c.loop-x in
    (omega arith, upto_row _ _ _ c.requires.0 _ _ _ c.loop-x-test.false l.invariant.1 (l.invariant.3 _ c.loop-y.invariant.1))

shape_of-part : tie.Need-shape_of-part invariant-loop-x decreases-loop-x invariant-loop-y decreases-loop-y
shape_of-part c = upto_length _ _ _ _ _ c.loop-y.invariant.1

returns : tie.Need-returns invariant-loop-x decreases-loop-x invariant-loop-y decreases-loop-y
returns c = upto_all _ _ _ c.requires.0 _ _ c.loop-y-test.false c.loop-y.invariant.0 c.loop-y.invariant.1

pub write_block_spec : {M : Type 1} → statement M
write_block_spec =
    tie.close
    (tie.spec
    invariant-loop-x
    decreases-loop-x
    invariant-loop-y
    decreases-loop-y
    loop-y-init
    loop-x-init
    offset_bounds-block-y
    offset_bounds-block-x
    bounds-block-y
    bounds-block-x
    overflow_mul-y
    overflow_add-y
    offset_bounds-part-y
    bounds-part-y
    overflow_step-x
    loop-x-smaller
    loop-x-preserved
    overflow_step-y
    loop-y-smaller
    loop-y-preserved
    shape_of-part
    returns)
