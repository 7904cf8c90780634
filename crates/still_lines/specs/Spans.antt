-- The least and the greatest of some samples. Definitions only.
use Rattle.std.specs.Prelude.{cond, List, [], ◌∷◌, ℕ, ◌-◌, ℤ, pos, drop, take}
use Rattle.std.specs.Int.Signed.{lt_z}
use Rattle.still_lines.specs.declared.span.Span.{Span}

abbrev pub widened_by : Span → ℤ → Span
widened_by s z = record { least = cond (lt_z z s.least) z s.least; greatest = cond (lt_z s.greatest z) z s.greatest }

unfoldable pub span_from : Span → List ℤ → Span
span_from s [] = s
span_from s (z ∷ zs) = span_from (widened_by s z) zs

abbrev pub span_of : List ℤ → Span
span_of [] = record { least = pos 0; greatest = pos 0 }
span_of (z ∷ zs) = span_from (record { least = z; greatest = z }) zs

-- the samples from a place up to another
abbrev pub part : List ℤ → ℕ → ℕ → List ℤ
part s from to = take (to - from) (drop from s)
