-- `window_reader::six::ends_of` meets its contract: the ends of the rows so far. Assumes nothing.
use mathlib.Core.Path.{◌≡◌, refl, ◌∙◌}
use Prim.Native.Nat.{◌-◌, ◌≤◌}
use native.Mathlib.Omega.{arith}
use borrow.Author.Rules.{rules}
use lib.ListN.{length, length-set, take}
use Rattle.window_reader.proofs.EndLaws.{ends_all, ends_more}
use Rattle.window_reader.specs.Ends.{ends_of}
use Rattle.window_reader.proofs.six.ends_of.Statement.{statement}
use Rattle.window_reader.proofs.six.ends_of.Tie as tie

abbrev invariant-loop-i : tie.invariant-loop-i
invariant-loop-i ends₀ rows i₀ ends i = (i ≤ 6) × (length ends ≡ 6) × (take i ends ≡ ends_of (take i rows))

abbrev decreases-loop-i : tie.decreases-loop-i
decreases-loop-i ends₀ rows i₀ ends i = 6 - i

six_rows : (s : tie.Start invariant-loop-i decreases-loop-i) → length s.args.rows ≡ 6
six_rows s = s.well_formed.0.1.0.1

loop-i-init : tie.Need-loop-i-init invariant-loop-i decreases-loop-i
loop-i-init c = (omega arith, c.requires, refl)

offset_bounds-rows-i : tie.Need-offset_bounds-rows-i invariant-loop-i decreases-loop-i
offset_bounds-rows-i c = omega arith

bounds-rows-i : tie.Need-bounds-rows-i invariant-loop-i decreases-loop-i
bounds-rows-i c = omega arith

end_of-requires : tie.Need-end_of-requires invariant-loop-i decreases-loop-i
end_of-requires c κs = search rules

offset_bounds-ends-i : tie.Need-offset_bounds-ends-i invariant-loop-i decreases-loop-i
offset_bounds-ends-i c = omega arith

bounds-ends-i : tie.Need-bounds-ends-i invariant-loop-i decreases-loop-i
bounds-ends-i c = omega arith

overflow_step-i : tie.Need-overflow_step-i invariant-loop-i decreases-loop-i
overflow_step-i c = omega arith

loop-i-smaller : tie.Need-loop-i-smaller invariant-loop-i decreases-loop-i
loop-i-smaller c = omega arith

loop-i-preserved : tie.Need-loop-i-preserved invariant-loop-i decreases-loop-i
loop-i-preserved c =
    let l = c.loop-i in
    let s = c.before.before.before.before.before in
    let t = c.loop-i-test.true in (
      omega arith,
      length-set l.ends l.i c.end_of.result ∙ l.invariant.1,
      ends_more s.args.rows l.ends l.i c.end_of.result (omega (arith, six_rows s)) (omega (arith, l.invariant.1)) l.invariant.2 c.end_of.ensures,
    )

returns : tie.Need-returns invariant-loop-i decreases-loop-i
returns c = let l = c.loop-i in let s = c.before.before in ends_all s.args.rows l.ends l.i (omega (arith, six_rows s)) (omega (arith, l.invariant.1)) l.invariant.2

pub ends_of_spec : {M : Type 1} → statement M
ends_of_spec =
    tie.close
    (tie.spec
    invariant-loop-i
    decreases-loop-i
    loop-i-init
    offset_bounds-rows-i
    bounds-rows-i
    end_of-requires
    offset_bounds-ends-i
    bounds-ends-i
    overflow_step-i
    loop-i-smaller
    loop-i-preserved
    returns)
