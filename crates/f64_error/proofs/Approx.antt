-- An f64 that stands for an exact number, and how far off it is, as the laws say it. Assumes nothing.
use mathlib.Core.Path.{◌≡◌}
use Prim.Native.Nat.{ℕ, ◌+◌, ◌*◌, ◌≤◌, ◌<◌}
use lib.Ieee.{Float}
use lib.IntN.{ℤ}
use Rattle.numbers.specs.Halves.{dn, up}
use Rattle.f64_error.specs.Units.{Is, one}

-- x is finite, within e units of a * S units, and at most b units in size
pub record Approx (x : Float) (S : ℕ) (a : ℤ) (e b : ℕ) : Type 0 where
  pub v : ℤ
  pub is : Is x v
  pub over : up v + dn a * S ≤ dn v + up a * S + e
  pub under : dn v + up a * S ≤ up v + dn a * S + e
  pub size : up v + dn v ≤ b

-- y is c / P, and at most 1 in size
pub record Const (y : Float) (P : ℕ) (c : ℤ) : Type 0 where
  pub w : ℤ
  pub is : Is y w
  pub plus : up w * P ≡ up c * one
  pub minus : dn w * P ≡ dn c * one
  pub small : up c + dn c ≤ P
  pub some : 0 < P
