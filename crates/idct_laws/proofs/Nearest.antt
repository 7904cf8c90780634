-- Outside the tolerance the whole number is what `round` gives. Assumes nothing.
use mathlib.Core.Bool.{Bool, false, cond}
use mathlib.Core.Path.{◌≡◌, sym, ap, subst}
use lib.Ieee.{Float}
use lib.IntN.{ℤ}
use Rattle.f64_error.proofs.Nearest.{nearest_of, nearest_within}
use Rattle.f64_error.specs.Units.{Is}
use Rattle.f64_error.proofs.Distances.{NearestOf, WithinHalf}
use Rattle.f64_error.specs.Wholes.{floor_z, nearest_z, at_half}
use Rattle.rounding.specs.Rounding.{tied, whole_of}
use Rattle.rounding.specs.declared.HalfIntegerRounding.{HalfIntegerRounding}

-- outside the tolerance the whole number is the nearest
pub is_nearest : (m : HalfIntegerRounding) (x : Float) → at_half x (floor_z x) ≡ false → whole_of m x ≡ nearest_z x
unfolding whole_of
is_nearest m x t = ap (λ (b : Bool). cond b (tied m (floor_z x)) (nearest_z x)) t

-- which is what Rust's `round` gives: half-way away from zero
pub round_agrees : (m : HalfIntegerRounding) (x : Float) (v : ℤ) → Is x v → at_half x (floor_z x) ≡ false → NearestOf x (whole_of m x)
round_agrees m x v i t = subst (λ (z : ℤ). NearestOf x z) (sym (is_nearest m x t)) (nearest_of x v i)

-- so it is within a half of it
pub round_within : (m : HalfIntegerRounding) (x : Float) (v : ℤ) → Is x v → at_half x (floor_z x) ≡ false → WithinHalf x (whole_of m x)
round_within m x v i t = nearest_within x (whole_of m x) (round_agrees m x v i t)
