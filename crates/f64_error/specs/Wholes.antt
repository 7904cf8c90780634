-- The whole numbers at, below and nearest to an f64, and when it counts as half-way between two. Definitions only.
use Rattle.std.specs.Prelude.{Bool, false, cond, ◌+◌, ◌-◌, ◌*◌, ◌/◌, Float, ℤ, pos, neg_ℤ}
use Rattle.std.specs.Float.Ieee.{of_bits, up as numer, down as denom, neg, lt, sub, of_int}
use Rattle.std.specs.Float.{nan, inf, fin, binary64}
use Rattle.f64_error.specs.Series.{half}
use Rattle.f64_error.specs.Units.{sgn}

-- the greatest whole number that is not above x (Rust's `floor`); 0 where x is not finite
unfoldable pub floor_z : Float → ℤ
floor_z nan = pos 0
floor_z (inf s) = pos 0
floor_z (fin s m e) = cond s (neg_ℤ (pos ((m * numer e + (denom e - 1)) / denom e))) (pos (m * numer e / denom e))

-- the whole number nearest to x, half-way away from zero (Rust's `round`); 0 where x is not finite
unfoldable pub nearest_z : Float → ℤ
nearest_z nan = pos 0
nearest_z (inf s) = pos 0
nearest_z (fin s m e) = sgn s ((2 * (m * numer e) + denom e) / (2 * denom e))

-- |x|, as `if x < 0.0 { -x } else { x }` has it
abbrev pub mag_f : Float → Float
mag_f x = cond (lt x (fin false 0 (pos 0))) (neg x) x

-- x - r - 0.5, as the program computes it
abbrev pub gap_of : Float → ℤ → Float
gap_of x r = sub binary64 (sub binary64 x (of_int binary64 r)) half

-- 1e-8, the f64 nearest to it
abbrev pub tolerance : Float
tolerance = of_bits binary64 0x3e45798ee2308c3a

-- x counts as half-way above r: the f64 |x - r - 0.5| is below the tolerance
abbrev pub at_half : Float → ℤ → Bool
at_half x r = lt (mag_f (gap_of x r)) tolerance
