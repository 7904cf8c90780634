-- Inside the crate: what the functions that go row by row take for granted. Definitions only.
use Rattle.std.specs.Prelude.{Bool, List, ℕ, ltb, ℤ, pos}
use Rattle.numbers.specs.Every.{every}
use Rattle.numbers.specs.Grid.{block}

-- each place that a row names is one of the 64
abbrev pub inside : List ℕ → Bool
inside at = every (λ (n : ℕ). ltb n 64) at

-- a block of zeros
abbrev pub zeros : List (List ℤ)
zeros = block (λ (v u : ℕ). pos 0)
