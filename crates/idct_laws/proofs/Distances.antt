-- Distances of whole numbers. Assumes nothing.
use mathlib.Core.Path.{◌≡◌, ap}
use Prim.Native.Nat.{◌+◌, ◌≤◌}
use native.Mathlib.Nat.{le_trans, le_of_eq}
use native.Mathlib.Omega.{arith}
use lib.IntN.{ℤ, nat_abs, ◌-ℤ◌, ◌*ℤ◌}
use Rattle.numbers.proofs.Integers.{var, ◌⊕◌, ◌⊝◌, ◌⊗◌, ring, halves, diff_is}
use Rattle.numbers.proofs.Magnitudes.{abs-add}

pub sub_right : (a b c : ℤ) → a *ℤ c -ℤ b *ℤ c ≡ (a -ℤ b) *ℤ c
sub_right a b c = ring (var a ⊗ var c ⊝ var b ⊗ var c) ((var a ⊝ var b) ⊗ var c) (omega arith)

pub triangle : (a b c : ℤ) → nat_abs (a -ℤ c) ≤ nat_abs (a -ℤ b) + nat_abs (b -ℤ c)
triangle a b c = le_trans (le_of_eq (ap nat_abs (ring (var a ⊝ var c) ((var a ⊝ var b) ⊕ (var b ⊝ var c)) (omega arith)))) (abs-add (a -ℤ b) (b -ℤ c))

pub abs_swap : (a b : ℤ) → nat_abs (a -ℤ b) ≡ nat_abs (b -ℤ a)
abs_swap a b = omega (arith, halves (a -ℤ b), halves (b -ℤ a), diff_is a b, diff_is b a)
