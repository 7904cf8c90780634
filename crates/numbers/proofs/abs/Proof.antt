-- `numbers::abs` meets its contract: below 0 it is -(x + 1) + 1, whose parts fit also at the least i32. Assumes nothing.
use mathlib.Core.Path.{◌≡◌}
use Prim.Native.Nat.{◌+◌}
use native.Mathlib.Omega.{arith}
use lib.IntN.{◌+ℤ◌, ◌-ℤ◌, nat_abs, pos, ℤ}
use lib.Signed.{◌<ℤ◌, ◌≤ℤ◌, nat_abs-le}
use mir.Facts.{to_z-of_z}
use mir.Syntax.{w32}
use mir.Val.{SFits, of_z, to_z}
use Rattle.numbers.proofs.Integers.{add_is, diff_is, halves, lt-false, lt-true, zarith}
use Rattle.numbers.proofs.Words.{cast_su, fits_abs, fits_dn, fits_half}
use Rattle.numbers.proofs.abs.Statement.{statement}
use Rattle.numbers.proofs.abs.Tie as tie

-- of a negative x: x + 1 and 0 - (x + 1) fit, and the second is x's magnitude less one
module _ (x : ℤ) (f : SFits w32 x) (n : x <ℤ pos 0) where
  size : nat_abs (pos 0 -ℤ (x +ℤ pos 1)) + 1 ≡ nat_abs x
  size = let y = x +ℤ pos 1 in omega (zarith, halves x, halves y, halves (pos 0 -ℤ y), add_is x (pos 1), diff_is (pos 0) y)

  more : SFits w32 (x +ℤ pos 1)
  more = let y = x +ℤ pos 1 in fits_half w32 y (omega (zarith, add_is x (pos 1), halves y)) (omega (zarith, add_is x (pos 1), halves y, fits_dn f))

  less : SFits w32 (pos 0 -ℤ (x +ℤ pos 1))
  less = fits_abs w32 (pos 0 -ℤ (x +ℤ pos 1)) (omega (arith, size, nat_abs-le x f.sfits))

  minus : to_z w32 (of_z w32 (pos 0 -ℤ to_z w32 (of_z w32 (to_z w32 (of_z w32 x) +ℤ pos 1)))) ≡ pos 0 -ℤ (x +ℤ pos 1)
  minus = let m = more in let l = less in simp (to_z-of_z, f, m, l)

  positive : pos 0 ≤ℤ (pos 0 -ℤ (x +ℤ pos 1))
  positive = let y = x +ℤ pos 1 in omega (zarith, add_is x (pos 1), halves y, diff_is (pos 0) y)

abbrev x : tie.Start → ℤ
x s = s.args.x

below : (c : tie.Then-x-lt0) → x c.before <ℤ pos 0
below c = lt-true _ _ (simp (to_z-of_z, c.ranges.x) at c.if-x-lt0.true)

overflow_add-result : tie.Need-overflow_add-result
overflow_add-result c = simp (to_z-of_z, c.ranges.x) (more (x c.before) c.ranges.x (below c))

overflow_sub-result : tie.Need-overflow_sub-result
overflow_sub-result c =
    let s = c.before in
    simp (to_z-of_z, s.ranges.x, more (x s) s.ranges.x (below c)) (less (x s) s.ranges.x (below c))

overflow_cast-result : tie.Need-overflow_cast-result
overflow_cast-result c =
    let s = c.before in
    let z = pos 0 -ℤ (x s +ℤ pos 1) in
    let p = positive (x s) s.ranges.x (below c) in
    rw (minus (x s) s.ranges.x (below c)) (cast_su z p (omega (arith, size (x s) s.ranges.x (below c), nat_abs-le (x s) s.ranges.x.sfits)))

overflow_add-result-then-x-lt0 : tie.Need-overflow_add-result-then-x-lt0
overflow_add-result-then-x-lt0 c =
    let s = c.before in
    rw (minus (x s) s.ranges.x (below c)) (record { fits = omega (arith, size (x s) s.ranges.x (below c), nat_abs-le (x s) s.ranges.x.sfits) })

overflow_cast-result-else-x-lt0 : tie.Need-overflow_cast-result-else-x-lt0
overflow_cast-result-else-x-lt0 c =
    let s = c.before in
    let h = lt-false _ _ (simp (to_z-of_z, s.ranges.x) at c.if-x-lt0.false) in
    simp (to_z-of_z, s.ranges.x) (cast_su (x s) h (omega (arith, nat_abs-le (x s) s.ranges.x.sfits)))

returns-then-x-lt0 : tie.Need-returns-then-x-lt0
returns-then-x-lt0 c = let s = c.before in rw (minus (x s) s.ranges.x (below c)) (size (x s) s.ranges.x (below c))

returns-else-x-lt0 : tie.Need-returns-else-x-lt0
returns-else-x-lt0 c = simp (to_z-of_z, c.ranges.x)

pub abs_spec : {M : Type 1} → statement M
abs_spec = tie.close (tie.spec overflow_add-result overflow_sub-result overflow_cast-result overflow_add-result-then-x-lt0 overflow_cast-result-else-x-lt0 returns-then-x-lt0 returns-else-x-lt0)
