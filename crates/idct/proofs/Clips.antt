-- A number that is saturated to a depth and then limited to the samples of that depth is the number limited. Assumes nothing.
use mathlib.Core.Bool.{Bool, true, false, cond}
use mathlib.Core.Path.{◌≡◌, refl}
use Prim.Native.Nat.{ℕ}
use native.Mathlib.Omega.{arith}
use lib.IntN.{ℤ, pos}
use lib.Signed.{lt_z, ◌≤ℤ◌}
use Rattle.numbers.proofs.Integers.{le_in, le_lt_z, lt_in, lt_lt_z, lt-true, zarith}
use Rattle.numbers.specs.Limit.{clamp_z}
use Rattle.ranges.proofs.RangeLaws.{highest-not-negative, lowest-negative}
use Rattle.ranges.specs.Range.{highest, lowest}
use Rattle.idct.specs.Limits.{saturated}

module _ (d : ℕ) (z : ℤ) where
  limited : clamp_z (clamp_z z (lowest d) (highest d)) (pos 0) (highest d) ≡ clamp_z z (pos 0) (highest d)
  limited = go (lt_z z (lowest d)) (lt_z (highest d) z) refl refl
    where
      go : (s t : Bool) → lt_z z (lowest d) ≡ s → lt_z (highest d) z ≡ t → clamp_z (cond s (lowest d) (cond t (highest d) z)) (pos 0) (highest d) ≡ clamp_z z (pos 0) (highest d)
      go true t e g = simp (lt_lt_z (lowest d) (pos 0) (lowest-negative d), lt_lt_z z (pos 0) (lt_in (omega (zarith, lowest-negative d, lt-true z (lowest d) e))))
      go false true e g =
          let h : pos 0 ≤ℤ z = le_in (omega (zarith, highest-not-negative d, lt-true (highest d) z g)) in
          simp (le_lt_z (highest d) (pos 0) (highest-not-negative d), le_lt_z (highest d) (highest d) (le_in (omega arith)), le_lt_z z (pos 0) h, g)
      go false false e g = refl

  pub clipped : clamp_z (saturated d z) (pos 0) (highest d) ≡ clamp_z z (pos 0) (highest d)
  unfolding saturated
  clipped = limited
