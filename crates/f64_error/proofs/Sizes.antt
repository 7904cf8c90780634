-- The size of an integer that is near a difference. Assumes nothing.
use Prim.Native.Nat.{ℕ, ◌+◌, ◌≤◌}
use native.Mathlib.Omega.{arith}
use lib.IntN.{ℤ, pos, negsuc}
use Rattle.numbers.proofs.Integers.{up, dn}

-- v is within h of X - Y
pub size-one : (v : ℤ) (X Y h : ℕ) → up v + Y ≤ dn v + X + h → dn v + X ≤ up v + Y + h → up v + dn v ≤ X + Y + h
size-one (pos n) X Y h a b = omega arith
size-one (negsuc n) X Y h a b = omega arith
