-- How far a whole number is from an f64, as the laws say it. Assumes nothing.
use mathlib.Core.Bool.{Bool}
use mathlib.Core.Path.{◌≡◌}
use Prim.Native.Nat.{ℕ, ◌+◌, ◌*◌, ◌^◌, ◌≤◌, ◌<◌}
use lib.Ieee.{Float}
use lib.IntN.{ℤ}
use Rattle.numbers.specs.Halves.{dn, up}
use Rattle.f64_error.specs.Units.{Is, one, sgn}
use Rattle.f64_error.proofs.Grains.{grain}

-- r ≤ x < r + 1
pub record FloorOf (x : Float) (r : ℤ) : Type 0 where
  pub v : ℤ
  pub is : Is x v
  pub low : up r * one + dn v ≤ up v + dn r * one
  pub high : up v + dn r * one < dn v + up r * one + one

-- x is ± n units and r is ± q, of one sign, with q - 1/2 ≤ |x| < q + 1/2
pub record NearestOf (x : Float) (r : ℤ) : Type 0 where
  pub negative : Bool
  pub n : ℕ
  pub q : ℕ
  pub is : Is x (sgn negative n)
  pub result : r ≡ sgn negative q
  pub low : 2 * (q * one) ≤ 2 * n + one
  pub high : 2 * n < 2 * (q * one) + one

-- r is within a half of x
pub record WithinHalf (x : Float) (r : ℤ) : Type 0 where
  pub v : ℤ
  pub is : Is x v
  pub over : 2 * (up r * one + dn v) ≤ 2 * (dn r * one + up v) + one
  pub under : 2 * (dn r * one + up v) ≤ 2 * (up r * one + dn v) + one

-- r is within 1/2 + 1e-8 + 2 ^ -31 of x
pub record RoundOf (x : Float) (r : ℤ) : Type 0 where
  pub v : ℤ
  pub is : Is x v
  pub over : up r * one + dn v ≤ dn r * one + up v + (2 ^ 59 + 12066085959) * grain
  pub under : dn r * one + up v ≤ up r * one + dn v + (2 ^ 59 + 12066085959) * grain
