-- How an f64 becomes a whole number: nearest, and by the chosen rule where it counts as half-way. Definitions only.
use Rattle.std.specs.Prelude.{cond, ◌%◌, eqb, Float, ℤ, pos, nat_abs, ◌+ℤ◌, None, Option, Some}
use Rattle.std.specs.Int.Signed.{lt_z}
use Rattle.numbers.specs.Outcome.{Outcome, accepted, refused}
use Rattle.f64_error.specs.Wholes.{floor_z, nearest_z, at_half}
use Rattle.rounding.specs.declared.HalfIntegerRounding.{HalfIntegerRounding}
use Rattle.rounding.specs.declared.HalfIntegerRounding.TheVariants.{AwayFromZero, ToEven}

-- of b and b + 1, the one farther from zero, or the even one
abbrev pub tied : HalfIntegerRounding → ℤ → ℤ
tied AwayFromZero b = cond (lt_z b (pos 0)) b (b +ℤ pos 1)
tied ToEven b = cond (eqb (nat_abs b % 2) 0) b (b +ℤ pos 1)

-- by the rule where x is half-way above its floor, within the tolerance; elsewhere the nearest
unfoldable pub whole_of : HalfIntegerRounding → Float → ℤ
whole_of m x = cond (at_half x (floor_z x)) (tied m (floor_z x)) (nearest_z x)

-- the whole number that an answer tells, or 13
abbrev pub rounded_outcome : Option ℤ → Outcome ℤ
rounded_outcome (Some z) = accepted z
rounded_outcome None = refused 13 0
