-- What the operations on eight f64s do at a place. Definitions only.
use Rattle.std.specs.Prelude.{cond, List, ℕ, ◌-◌, ltb, Float, ℤ, pos, get_or}
use Rattle.std.specs.Float.Ieee.{add, lt, of_int, sub}
use Rattle.std.specs.Float.{binary64}
use Rattle.numbers.specs.Grid.{build}

-- a row of whole numbers
abbrev pub row_in : List ℤ → List Float
row_in row = build 8 (λ (u : ℕ). of_int binary64 (get_or row u (pos 0)))

-- the sum of both at i below 4, and their difference at 7 - i
abbrev pub both_at : (ℕ → Float) → (ℕ → Float) → ℕ → Float
both_at e o i = cond (ltb i 4) (add binary64 (e i) (o i)) (sub binary64 (e (7 - i)) (o (7 - i)))

-- the greater, as `if a < b { b } else { a }` has it
abbrev pub greater_f : Float → Float → Float
greater_f a b = cond (lt a b) b a
