-- The lent line, test by test, and that a line that ended is inside it. Assumes nothing.
use mathlib.Core.Bool.{Bool, cond, false, true}
use mathlib.Core.List.{List}
use mathlib.Core.Path.{◌≡◌, ap₂, refl}
use Prim.Native.Nat.{ℕ, ◌≤◌}
use native.Mathlib.Omega.{arith}
use lib.Dec.{eqb, leb, ltb}
use lib.ListN.{length, length-set, set}
use borrow.Author.Tests.{leb-true}
use Rattle.forms.specs.Forms.{longest}
use Rattle.still_lines.specs.Steps.{Inside, line_after}
use Rattle.lines.specs.Fed.{fed_of, longer, rest_of}
use Rattle.lines.specs.declared.fed.Fed.TheVariants.{Ended, Kept, Skipped}

module _ (l : List ℕ) (n b : ℕ) where
  pub line_by : (s t : Bool) → eqb b 10 ≡ s → ltb n longest ≡ t → line_after l n b ≡ cond s l (cond t (set l n b) l)
  unfolding line_after
  line_by s t e f = ap₂ (λ (y z : Bool). cond y l (cond z (set l n b) l)) e f

  -- the lent line keeps its length
  pub line-long : length (line_after l n b) ≡ length l
  unfolding line_after
  line-long = go (eqb b 10) (ltb n longest)
    where
      go : (s t : Bool) → length (cond s l (cond t (set l n b) l)) ≡ length l
      go true t = refl
      go false true = length-set l n b
      go false false = refl

-- ---- a line that ended has at most 32,768 bytes

module _ (room : ℕ) (h : longest ≤ room) where
  ends-inside : (n : ℕ) (t : Bool) → leb n longest ≡ t → Inside room (cond t (Ended n) Skipped)
  ends-inside n true e = let k = leb-true n longest e in omega arith
  ends-inside n false e = tt

  pub fed_inside : (n b : ℕ) → Inside room (fed_of n b)
  unfolding fed_of
  fed_inside n b = go (eqb b 10)
    where
      go : (s : Bool) → Inside room (cond s (cond (leb n longest) (Ended n) Skipped) (Kept (longer n)))
      go true = ends-inside n (leb n longest) refl
      go false = tt

  pub rest-inside : (n : ℕ) → Inside room (rest_of n)
  unfolding rest_of
  rest-inside n = go (eqb n 0)
    where
      go : (s : Bool) → Inside room (cond s (Kept 0) (cond (leb n longest) (Ended n) Skipped))
      go true = tt
      go false = ends-inside n (leb n longest) refl
