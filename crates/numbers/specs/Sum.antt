-- The sum of a list of integers. Definitions only.
use Rattle.std.specs.Prelude.{List, [], ◌∷◌, ℤ, pos, ◌+ℤ◌}

unfoldable pub sum_z : List ℤ → ℤ
sum_z [] = pos 0
sum_z (z ∷ zs) = z +ℤ sum_z zs
