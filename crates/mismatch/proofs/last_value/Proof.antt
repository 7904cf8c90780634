-- `mismatch::last_value` meets its contract: its tests are the definition's, and no neighbour that it takes leaves an i32. Assumes nothing.
use mathlib.Core.Bool.{Bool, false, true}
use mathlib.Core.Path.{◌≡◌, ap, sym, ◌∙◌}
use lib.IntN.{ℤ, pos, ◌+ℤ◌, ◌-ℤ◌}
use mir.Facts.{to_z-of_z}
use mir.Syntax.{w32}
use mir.Val.{SFits, of_z, to_z}
use borrow.Author.Rules.{rules}
use borrow.Author.Tests.{not-false, not-true}
use Rattle.mismatch.specs.Mismatch.{even, odd}
use Rattle.mismatch.proofs.ParityLaws.{above_fits, below_fits}
use Rattle.mismatch.proofs.last_value.Statement.{statement}
use Rattle.mismatch.proofs.last_value.Tie as tie

-- the value, as the code has it
last_back : (s : tie.Start) → to_z w32 (of_z w32 s.args.last) ≡ s.args.last
last_back s = to_z-of_z s.ranges.last

-- what `is_odd` tells of the sum and of the value
sum_told : {t : Bool} (o : tie.After-is_odd) → o.is_odd.result ≡ t → odd o.args.sum ≡ t
sum_told o h = ap odd (sym (to_z-of_z o.ranges.sum)) ∙ sym o.is_odd.ensures ∙ h

last-told : {t : Bool} (o : tie.After-is_odd-2) → o.is_odd-2.result ≡ t → odd o.args.last ≡ t
last-told o h = ap odd (sym (last_back o.before.before.before.before)) ∙ sym o.is_odd-2.ensures ∙ h

-- so one less fits where it is odd, and one more where it is even
less_fits : (o : tie.After-is_odd-2) → o.is_odd-2.result ≡ true → SFits w32 (o.args.last -ℤ pos 1)
less_fits o h = let s = o.before.before.before.before in below_fits s.args.last s.ranges.last (not-true (even s.args.last) (last-told o h))

more_fits : (o : tie.After-is_odd-2) → o.is_odd-2.result ≡ false → SFits w32 (o.args.last +ℤ pos 1)
more_fits o h = let s = o.before.before.before.before in above_fits s.args.last s.ranges.last (not-false (even s.args.last) (last-told o h))

returns-then-not-control : tie.Need-returns-then-not-control
returns-then-not-control c = rw c.if-not-control.true (last_back c.before)

is_odd-requires : tie.Need-is_odd-requires
is_odd-requires c κs = search rules

returns-then-is_odd : tie.Need-returns-then-is_odd
returns-then-is_odd c =
    let o = c.before in
    rw (o.if-not-control.false, sum_told o c.if-is_odd.true) (last_back o.before.before)

is_odd-requires-2 : tie.Need-is_odd-requires-2
is_odd-requires-2 c κs = search rules

overflow_sub-result : tie.Need-overflow_sub-result
overflow_sub-result c = rw (last_back c.before.before.before.before.before) (less_fits c.before c.if-is_odd-2.true)

returns-then-is_odd-2 : tie.Need-returns-then-is_odd-2
returns-then-is_odd-2 c =
    let e = c.before.before in
    let o = e.before in
    let s = o.before.before in
    rw (o.if-not-control.false, sum_told o e.if-is_odd.false, last-told c.before c.if-is_odd-2.true)
    (ap (λ (z : ℤ). to_z w32 (of_z w32 (z -ℤ pos 1))) (last_back s) ∙ to_z-of_z (less_fits c.before c.if-is_odd-2.true))

overflow_add-result : tie.Need-overflow_add-result
overflow_add-result c = rw (last_back c.before.before.before.before.before) (more_fits c.before c.if-is_odd-2.false)

returns : tie.Need-returns
returns c =
    let e = c.before.before in
    let o = e.before in
    let s = o.before.before in
    rw (o.if-not-control.false, sum_told o e.if-is_odd.false, last-told c.before c.if-is_odd-2.false)
    (ap (λ (z : ℤ). to_z w32 (of_z w32 (z +ℤ pos 1))) (last_back s) ∙ to_z-of_z (more_fits c.before c.if-is_odd-2.false))

pub last_value_spec : {M : Type 1} → statement M
last_value_spec = tie.close (tie.spec returns-then-not-control is_odd-requires returns-then-is_odd is_odd-requires-2 overflow_sub-result returns-then-is_odd-2 overflow_add-result returns)
