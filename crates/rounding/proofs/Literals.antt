-- 0.0 and 0.5, as a program writes them. Assumes nothing.
use mathlib.Core.Bool.{false}
use mathlib.Core.Path.{◌≡◌, refl}
use lib.Ieee.{fin, binary64, of_bits}
use lib.IntN.{pos}
use Rattle.f64_error.specs.Series.{half}

pub zero_bits : of_bits binary64 0 ≡ fin false 0 (pos 0)
unfolding of_bits
zero_bits = refl

pub half-bits : of_bits binary64 4602678819172646912 ≡ half
unfolding of_bits
half-bits = refl
