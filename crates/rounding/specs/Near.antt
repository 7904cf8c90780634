-- Which f64s are rounded, and a whole number near to one, by a shift. Definitions only.
use Rattle.std.specs.Prelude.{Bool, true, ◌≡◌, ◌*◌, Float, ℤ}
use Rattle.std.specs.Float.{binary64}
use Rattle.std.specs.Float.Ieee.{add, le, lt, mul, of_bits, sub, to_signed}
use Rattle.f64_error.specs.Units.{one, Bounded}
use Rattle.f64_error.specs.Wholes.{mag_f}

-- x is finite, and at most 2 ^ 20 in size; and the test of it
abbrev pub Roundable : Float → Type 0
Roundable x = Bounded x (1048576 * one)

unfoldable pub roundable : Float → Bool
roundable x = le (mag_f x) (of_bits binary64 0x4130000000000000)

-- x with 3 * 2 ^ 51 added and taken off again, which leaves a whole number at most a half away; and that number
abbrev pub near_f : Float → Float
near_f x = sub binary64 (add binary64 x (of_bits binary64 4843621399236968448)) (of_bits binary64 4843621399236968448)

abbrev pub near_z : Float → ℤ
near_z x = to_signed 31 (near_f x)

-- 1/4 - 2 ^ -24
abbrev pub well_within_square : Float
well_within_square = of_bits binary64 4598175217397792768

abbrev pub square_f : Float → Float
square_f x = mul binary64 x x

-- the near number is well within a half, so that no rule gives another one
abbrev pub Sure : Float → Type 0
Sure x = lt (square_f (sub binary64 x (near_f x))) well_within_square ≡ true
