-- Where a block that takes of its neighbours is not refused, and that what is refused is, by number, what is due. Assumes nothing.
use mathlib.Core.Bool.{Bool, cond, false, true}
use mathlib.Core.Path.{◌≡◌, refl}
use Prim.Native.Nat.{ℕ, ◌+◌, ◌<◌, ◌≤◌}
use borrow.Author.Tests.{le-leb, lt-ltb}
use Rattle.numbers.proofs.Tests.{true_both}
use Rattle.ranges.specs.Range.{depth_fine, quantiser_fine}
use Rattle.places.specs.declared.place.Place.{Place}
use Rattle.record.specs.Refusals.{first_bad, lies, recorded_outcome}
use Rattle.record.specs.declared.refusal.RecordError.{RecordError}
use Rattle.record.specs.declared.refusal.RecordError.TheVariants.{Context, OutOfRange, TooShort}
use Rattle.record.proofs.OutcomeLaws.{tests_due}
use Rattle.neighbours.specs.Taken.{place_lies, taken_due, taken_tests}
use Rattle.std.specs.Prelude.{Err, Ok, Result, ⊤}

-- a record that is there lies in the store
lies_passes : (there : Bool) (stored at : ℕ) → (there ≡ true → at + 91 ≤ stored) → cond there (lies stored at) true ≡ true
lies_passes true stored at f = le-leb (at + 91) stored (f refl)
lies_passes false stored at f = refl

pub place_passes : (stored : ℕ) (p : Place)
    → (p.has_left ≡ true → p.left + 91 ≤ stored)
    → (p.has_above_left ≡ true → p.above_left + 91 ≤ stored)
    → (p.has_above ≡ true → p.above + 91 ≤ stored)
    → place_lies stored p ≡ true
place_passes stored p f g h =
    true_both (lies_passes p.has_left stored p.left f)
    (true_both (lies_passes p.has_above_left stored p.above_left g) (lies_passes p.has_above stored p.above h))

three_pass : {s t u : Bool} (d e f : RecordError) → s ≡ true → t ≡ true → u ≡ true → ◌≡◌ {A = Result ⊤ RecordError} (cond s (cond t (cond u (Ok tt) (Err f)) (Err e)) (Err d)) (Ok tt)
three_pass d e f x y z = rw (x, y, z)

pub taken_passes : (stored owned : ℕ) (p : Place) (i : ℕ)
    → i < 6
    → quantiser_fine p.quantiser_scale ≡ true
    → depth_fine p.bits_per_pixel ≡ true
    → place_lies stored p ≡ true
    → 91 ≤ owned
    → first_bad (taken_tests stored owned p i) ≡ Ok tt
taken_passes stored owned p i h q d l o = three_pass OutOfRange Context TooShort (lt-ltb i 6 h) (true_both q d) (true_both l (le-leb 91 owned o))

pub taken_due_lem : (stored owned : ℕ) (p : Place) (i : ℕ) → recorded_outcome (first_bad (taken_tests stored owned p i)) ≡ taken_due stored owned p i
taken_due_lem stored owned p i = tests_due (taken_tests stored owned p i) (refl, (refl, (refl, tt)))
