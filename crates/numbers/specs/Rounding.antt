-- The operator `//` of ISO/IEC 14496-2, clause 4.1: division with rounding to the nearest integer, halves away from zero. Definitions only.
use Rattle.std.specs.Prelude.{◌≡◌, ℕ, suc, ◌+◌, ◌*◌, ◌/◌, ◌≤◌, ℤ, pos, negsuc, neg_ℤ, nat_abs, ◌-ℤ◌, ◌*ℤ◌}

-- of the magnitude, then n's sign; by 0 it is 0
abbrev pub div_away : ℤ → ℕ → ℤ
div_away (pos a) d = pos ((2 * a + d) / (2 * d))
div_away (negsuc a) d = neg_ℤ (pos ((2 * suc a + d) / (2 * d)))

-- r is the nearest to n / d, halves away from zero: n is at most half of d from r * d, and at just half r * d is the farther from zero
pub record Nearest (n : ℤ) (d : ℕ) (r : ℤ) : Type 0 where
  pub near : 2 * nat_abs (n -ℤ r *ℤ pos d) ≤ d
  pub away : 2 * nat_abs (n -ℤ r *ℤ pos d) ≡ d → nat_abs n ≤ nat_abs (r *ℤ pos d)
