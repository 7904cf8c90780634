-- What the transform takes (7.4.4.4), gives (7.4.5) and refuses: a depth out of range (12), then a value outside the depth's limits (13). Definitions only.
use Rattle.std.specs.Prelude.{Bool, List, ℕ, ◌+◌, ℤ, Err, None, Ok, Option, Result, Some, ⊤}
use Rattle.numbers.specs.Every.{every}
use Rattle.numbers.specs.Limit.{clamp_z}
use Rattle.numbers.specs.Outcome.{Outcome, accepted, refused}
use Rattle.ranges.specs.Range.{highest, lowest, within}
use Rattle.idct.specs.declared.limits.IdctError.{IdctError}
use Rattle.idct.specs.declared.limits.IdctError.TheVariants.{DepthOutOfRange}
use Rattle.idct.specs.declared.limits.IdctError.TheVariants.{ValueOutOfLimits}

-- z brought into -2 ^ b .. 2 ^ b - 1
unfoldable pub saturated : ℕ → ℤ → ℤ
saturated b z = clamp_z z (lowest b) (highest b)

-- z is within them
abbrev pub in_bounds : ℕ → ℤ → Bool
in_bounds b z = within (lowest b) (highest b) z

-- each value is within a depth's limits, which are those of three bits more
abbrev pub values_fine : ℕ → List (List ℤ) → Bool
values_fine depth l = every (every (in_bounds (depth + 3))) l

-- ---- answers

-- what an answer tells: a block, which stands beside it, or a refusal
abbrev pub idct_outcome : Result ⊤ IdctError → Outcome (Unit {0})
idct_outcome (Ok tt) = accepted tt
idct_outcome (Err DepthOutOfRange) = refused 12 0
idct_outcome (Err ValueOutOfLimits) = refused 13 0

-- document 01's number of an answer; 0 where nothing was refused
abbrev pub number_of : Result ⊤ IdctError → ℕ
number_of (Ok tt) = 0
number_of (Err DepthOutOfRange) = 12
number_of (Err ValueOutOfLimits) = 13

-- what the lent block holds afterwards: a refusal leaves it as it was
abbrev pub block_after : Result ⊤ IdctError → List (List ℤ) → List (List ℤ) → List (List ℤ)
block_after (Ok tt) new old = new
block_after (Err DepthOutOfRange) new old = old
block_after (Err ValueOutOfLimits) new old = old

-- the whole number that an answer tells, or 12
abbrev pub sample_outcome : Option ℤ → Outcome ℤ
sample_outcome (Some z) = accepted z
sample_outcome None = refused 12 0
