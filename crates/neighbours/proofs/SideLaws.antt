-- The six blocks, and the three sides of each. Assumes nothing.
use mathlib.Core.Bool.{Bool, true, false}
use mathlib.Core.List.{List}
use mathlib.Core.Path.{◌≡◌, refl, ap, ◌∙◌}
use Prim.Native.Nat.{ℕ, ◌<◌}
use lib.IntN.{ℤ}
use lib.ListN.{drop, get_or}
use Rattle.numbers.specs.Every.{every}
use Rattle.numbers.specs.Grid.{build}
use Rattle.numbers.proofs.Every.{every-build, every_in, every_fails}
use Rattle.numbers.proofs.Fill.{get_or-build}
use Rattle.numbers.proofs.Tests.{T_true, true-T}
use Rattle.places.specs.Places.{a_source, a_block, b_source, b_block, c_source, c_block}
use Rattle.places.specs.declared.place.Place.{Place}
use Rattle.places.specs.declared.place.Source.{Source}
use Rattle.places.specs.declared.place.Source.TheVariants.{Own, Left, AboveLeft, Above}
use Rattle.record.specs.Record.{record_at}
use Rattle.record.specs.declared.record.Side.{Side}
use Rattle.record.proofs.KnownLaws.{known_here}
use Rattle.neighbours.specs.Neighbours.{Around, around_by, around_from, found, joined_by, predictors, side_of, sided, six_blocks}

-- ---- the six blocks

six_at : (i : ℕ) → i < 6 → get_or six_blocks i 0 ≡ i
unfolding build
six_at i h = get_or-build 6 (λ (k : ℕ). k) i 0 h

-- a test that passes the six blocks passes each
pub each_of_six : (f : ℕ → Bool) → every f six_blocks ≡ true → (i : ℕ) → i < 6 → f i ≡ true
unfolding build
each_of_six f e i h = T_true (f i) (every-build f 6 (λ (k : ℕ). k) (true-T (every f six_blocks) e) i h)

pub all_of_six : (f : ℕ → Bool) → ((i : ℕ) → i < 6 → f i ≡ true) → every f six_blocks ≡ true
all_of_six f g = every_in f 0 six_blocks (λ (i : ℕ) (h : i < 6). ap f (six_at i h) ∙ g i h)

pub one_of_six_not : (f : ℕ → Bool) (i : ℕ) → i < 6 → f i ≡ false → every f six_blocks ≡ false
one_of_six_not f i h e = every_fails f 0 six_blocks i h (ap f (six_at i h) ∙ e)

-- ---- one side, out of the store

module _ (depth q : ℕ) where
  found_here : (has : Bool) (s : List ℤ) (at b : ℕ) → b < 6 → sided depth q (found has (drop at s)) b ≡ sided depth q (found has (record_at s at)) b
  found_here true s at b h = known_here s at b h
  found_here false s at b h = refl

  -- of the six blocks, what is read from a place on is read of the record there
  pub side_here : (p : Place) (s own : List ℤ) (source : Source) (b : ℕ) → b < 6
      → side_of depth q (around_from p s) own source b ≡ side_of depth q (around_by p s) (record_at own 0) source b
  side_here p s own Own b h = known_here own 0 b h
  side_here p s own Left b h = found_here p.has_left s p.left b h
  side_here p s own AboveLeft b h = found_here p.has_above_left s p.above_left b h
  side_here p s own Above b h = found_here p.has_above s p.above b h

-- ---- the three sides

module _ (depth q : ℕ) (ar : Around) (own : List ℤ) where
  pub side_is : {s s' : Source} {b b' : ℕ} → s ≡ s' → b ≡ b' → side_of depth q ar own s b ≡ side_of depth q ar own s' b'
  side_is e f = λ i. side_of depth q ar own (e i) (f i)

  pub predictors_of : (i : ℕ) {a c : Side} {b : ℤ}
      → a ≡ side_of depth q ar own (a_source i) (a_block i)
      → b ≡ (side_of depth q ar own (b_source i) (b_block i)).dc
      → c ≡ side_of depth q ar own (c_source i) (c_block i)
      → joined_by a b c ≡ predictors depth q ar own i
  unfolding predictors
  predictors_of i e f g = λ j. joined_by (e j) (f j) (g j)
