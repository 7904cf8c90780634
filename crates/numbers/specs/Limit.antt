-- A number limited to a range. Definitions only.
use Rattle.std.specs.Prelude.{cond, ℤ}
use Rattle.std.specs.Int.Signed.{lt_z}

-- v, moved to the nearer end of lo .. hi where it lies outside
abbrev pub clamp_z : ℤ → ℤ → ℤ → ℤ
clamp_z v lo hi = cond (lt_z v lo) lo (cond (lt_z hi v) hi v)
