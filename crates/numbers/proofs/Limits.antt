-- A limited number lies in its range, and two that are limited are no farther apart than they were. Assumes nothing.
use mathlib.Core.Bool.{false, cond, true, Bool}
use mathlib.Core.Path.{◌≡◌, refl}
use Prim.Native.Nat.{◌≤◌}
use native.Mathlib.Nat.{le_refl}
use native.Mathlib.Omega.{arith}
use lib.IntN.{ℤ, nat_abs, ◌-ℤ◌}
use lib.Signed.{lt_z, ◌≤ℤ◌}
use Rattle.numbers.proofs.Integers.{diff_is, halves, le_in, le_lt_z, lt-false, zarith}
use Rattle.numbers.specs.Limit.{clamp_z}

pub clamp_low : (x lo hi : ℤ) → lo ≤ℤ hi → lo ≤ℤ clamp_z x lo hi
clamp_low x lo hi h = go (lt_z x lo) (lt_z hi x) refl
  where
    go : (s t : Bool) → lt_z x lo ≡ s → lo ≤ℤ cond s lo (cond t hi x)
    go true t e = le_in (omega arith)
    go false true e = h
    go false false e = lt-false x lo e

pub clamp_high : (x lo hi : ℤ) → lo ≤ℤ hi → clamp_z x lo hi ≤ℤ hi
clamp_high x lo hi h = go (lt_z x lo) (lt_z hi x) refl
  where
    go : (s t : Bool) → lt_z hi x ≡ t → cond s lo (cond t hi x) ≤ℤ hi
    go true t e = h
    go false true e = le_in (omega arith)
    go false false e = lt-false hi x e

-- a number of the range stays
pub clamp_inside : (x lo hi : ℤ) → lo ≤ℤ x → x ≤ℤ hi → clamp_z x lo hi ≡ x
clamp_inside x lo hi l h = simp (le_lt_z x lo l, le_lt_z hi x h)

-- limiting brings two numbers no farther apart
pub clamp_near : (p q lo hi : ℤ) → lo ≤ℤ hi → nat_abs (clamp_z p lo hi -ℤ clamp_z q lo hi) ≤ nat_abs (p -ℤ q)
clamp_near p q lo hi r = go (lt_z p lo) (lt_z hi p) (lt_z q lo) (lt_z hi q) refl refl refl refl
  where
    go : (s t u v : Bool) → lt_z p lo ≡ s → lt_z hi p ≡ t → lt_z q lo ≡ u → lt_z hi q ≡ v → nat_abs (cond s lo (cond t hi p) -ℤ cond u lo (cond v hi q)) ≤ nat_abs (p -ℤ q)
    go true t true v e f g h = omega (zarith, halves (lo -ℤ lo), diff_is lo lo)
    go true t false true e f g h = omega (zarith, halves (lo -ℤ hi), halves (p -ℤ q), diff_is lo hi, diff_is p q)
    go true t false false e f g h = omega (zarith, halves (lo -ℤ q), halves (p -ℤ q), diff_is lo q, diff_is p q)
    go false true true v e f g h = omega (zarith, halves (hi -ℤ lo), halves (p -ℤ q), diff_is hi lo, diff_is p q)
    go false true false true e f g h = omega (zarith, halves (hi -ℤ hi), diff_is hi hi)
    go false true false false e f g h = omega (zarith, halves (hi -ℤ q), halves (p -ℤ q), diff_is hi q, diff_is p q)
    go false false true v e f g h = omega (zarith, halves (p -ℤ lo), halves (p -ℤ q), diff_is p lo, diff_is p q)
    go false false false true e f g h = omega (zarith, halves (p -ℤ hi), halves (p -ℤ q), diff_is p hi, diff_is p q)
    go false false false false e f g h = le_refl (nat_abs (p -ℤ q))
