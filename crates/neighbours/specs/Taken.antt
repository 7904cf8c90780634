-- What is refused where a block takes of its neighbours, by document 01's numbers. Definitions only.
use Rattle.std.specs.Prelude.{Bool, cond, true, ◌&&◌, List, [], ◌∷◌, ℕ, ltb}
use Rattle.numbers.specs.Outcome.{Outcome, checked, done}
use Rattle.ranges.specs.Range.{depth_fine, quantiser_fine}
use Rattle.places.specs.declared.place.Place.{Place}
use Rattle.record.specs.Refusals.{lies}
use Rattle.record.specs.declared.refusal.RecordError.{RecordError}
use Rattle.record.specs.declared.refusal.RecordError.TheVariants.{Context, OutOfRange, TooShort}

-- the records around the macroblock that is due lie in the store, where they are not missing (14)
abbrev pub place_lies : ℕ → Place → Bool
place_lies stored p =
    cond p.has_left (lies stored p.left) true
    && (cond p.has_above_left (lies stored p.above_left) true && cond p.has_above (lies stored p.above) true)

-- what a block takes, with `stored` numbers in the store and `owned` in the record so far: 11, 12, 14
abbrev pub taken_tests : ℕ → ℕ → Place → ℕ → List (Bool × RecordError)
taken_tests stored owned p i =
    (ltb i 6, OutOfRange)
    ∷ (quantiser_fine p.quantiser_scale && depth_fine p.bits_per_pixel, Context)
    ∷ (place_lies stored p && lies owned 0, TooShort)
    ∷ []

-- what is due, by number
abbrev pub taken_due : ℕ → ℕ → Place → ℕ → Outcome (Unit {0})
taken_due stored owned p i =
    checked
    ((ltb i 6, 11)
    ∷ (quantiser_fine p.quantiser_scale && depth_fine p.bits_per_pixel, 12)
    ∷ (place_lies stored p && lies owned 0, 14)
    ∷ [])
    done
