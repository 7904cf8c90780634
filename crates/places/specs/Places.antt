-- Which block of which macroblock is A, B and C of a block (Figure 7-5). Definitions only.
use Rattle.std.specs.Prelude.{[], ◌∷◌, ℕ, get_or}
use Rattle.places.specs.declared.place.Source.{Source}
use Rattle.places.specs.declared.place.Source.TheVariants.{Own, Left, AboveLeft, Above}

-- A is left, B above left, C above. For blocks 0 to 5: the macroblock that it lies in, and which block it is there.
abbrev pub a_source : ℕ → Source
a_source i = get_or (Left ∷ Own ∷ Left ∷ Own ∷ Left ∷ Left ∷ []) i Own

abbrev pub a_block : ℕ → ℕ
a_block i = get_or (1 ∷ 0 ∷ 3 ∷ 2 ∷ 4 ∷ 5 ∷ []) i 0

abbrev pub b_source : ℕ → Source
b_source i = get_or (AboveLeft ∷ Above ∷ Left ∷ Own ∷ AboveLeft ∷ AboveLeft ∷ []) i Own

abbrev pub b_block : ℕ → ℕ
b_block i = get_or (3 ∷ 2 ∷ 1 ∷ 0 ∷ 4 ∷ 5 ∷ []) i 0

abbrev pub c_source : ℕ → Source
c_source i = get_or (Above ∷ Above ∷ Own ∷ Own ∷ Above ∷ Above ∷ []) i Own

abbrev pub c_block : ℕ → ℕ
c_block i = get_or (2 ∷ 3 ∷ 0 ∷ 1 ∷ 4 ∷ 5 ∷ []) i 0
