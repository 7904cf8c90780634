-- One byte of a line, and the end of the input, test by test. Assumes nothing.
use mathlib.Core.Bool.{Bool, cond}
use mathlib.Core.Path.{◌≡◌, ap₂}
use Prim.Native.Nat.{ℕ, ◌+◌}
use lib.Dec.{eqb, leb}
use Rattle.forms.specs.Forms.{longest}
use Rattle.lines.specs.Fed.{fed_of, rest_of}
use Rattle.lines.specs.declared.fed.Fed.TheVariants.{Ended, Kept, Skipped}

pub fed_by : (n b : ℕ) (s t : Bool) → eqb b 10 ≡ s → leb n longest ≡ t → fed_of n b ≡ cond s (cond t (Ended n) Skipped) (Kept (cond t (n + 1) n))
unfolding fed_of
fed_by n b s t e f = ap₂ (λ (y z : Bool). cond y (cond z (Ended n) Skipped) (Kept (cond z (n + 1) n))) e f

pub rest_by : (n : ℕ) (s t : Bool) → eqb n 0 ≡ s → leb n longest ≡ t → rest_of n ≡ cond s (Kept 0) (cond t (Ended n) Skipped)
unfolding rest_of
rest_by n s t e f = ap₂ (λ (y z : Bool). cond y (Kept 0) (cond z (Ended n) Skipped)) e f
