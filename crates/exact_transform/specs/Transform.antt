-- The transform of Annex A.1 in f64, each operation rounded once: rows, then columns; and its whole numbers. Definitions only.
use Rattle.std.specs.Prelude.{List, ℕ, Float, ℤ}
use Rattle.std.specs.Float.{binary64}
use Rattle.std.specs.Float.Ieee.{of_int}
use Rattle.numbers.specs.Grid.{cell}
use Rattle.f64_error.specs.Series.{block_f}
use Rattle.cosines.specs.Cosines.{c_f, cos_f}
use Rattle.rounding.specs.Rounding.{whole_of}
use Rattle.rounding.specs.declared.HalfIntegerRounding.{HalfIntegerRounding}

-- the f64 at row y and column x
abbrev pub computed : List (List ℤ) → ℕ → ℕ → Float
computed l y x = block_f c_f cos_f (λ (v u : ℕ). of_int binary64 (cell l v u)) y x

-- the whole number at row y and column x, before it is limited
unfoldable pub whole : HalfIntegerRounding → List (List ℤ) → ℕ → ℕ → ℤ
whole m l y x = whole_of m (computed l y x)
