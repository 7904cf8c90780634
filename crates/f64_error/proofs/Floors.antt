-- What a whole number less than 1 away tells of the floor. Assumes nothing.
use mathlib.Core.Path.{◌≡◌, ap}
use Prim.Native.Nat.{ℕ, suc, ◌+◌, ◌*◌, ◌≤◌, ◌<◌}
use native.Mathlib.Nat.{lt_of_mul-lt-mul_right}
use native.Mathlib.Omega.{arith}
use lib.Ieee.{Float}
use lib.IntN.{ℤ, pos, neg_ℤ, negsuc, ◌-ℤ◌, nat_abs}
use Rattle.numbers.proofs.Integers.{add_is, dn, up}
use Rattle.f64_error.proofs.Binary64.{Part}
use Rattle.f64_error.specs.Units.{Is, one}
use Rattle.f64_error.proofs.Distances.{FloorOf}

pub part-size : (v t : ℤ) (B : ℕ) → Part v t → up v + dn v ≤ B * one → nat_abs t ≤ B
part-size v (pos n) B p h = cancel (omega (arith, p.under))
  where
    cancel : n * one < suc B * one → n ≤ B
    cancel g = let l : n < suc B = lt_of_mul-lt-mul_right one g in omega arith
part-size v (negsuc n) B p h = cancel (omega (arith, p.over))
  where
    cancel : suc n * one < suc B * one → suc n ≤ B
    cancel g = let l : suc n < suc B = lt_of_mul-lt-mul_right one g in omega arith

-- t is less than 1 from x: where x is below t, t - 1 is the floor, and otherwise t
pub floor_under : (x : Float) (v t : ℤ) → Is x v → Part v t → up v + dn t * one < up t * one + dn v → FloorOf x (t -ℤ pos 1)
floor_under x v t i p h =
    let e : (up (t -ℤ pos 1) + (dn t + 1)) * one ≡ (dn (t -ℤ pos 1) + (up t + 0)) * one = ap (λ (z : ℕ). z * one) (add_is t (neg_ℤ (pos 1))) in
    record { v = v; is = i; low = omega (arith, p.under); high = omega (arith, h) }

pub floor_at : (x : Float) (v t : ℤ) → Is x v → Part v t → up t * one + dn v ≤ up v + dn t * one → FloorOf x t
floor_at x v t i p h = record { v = v; is = i; low = h; high = omega (arith, p.over) }
