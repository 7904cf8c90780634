-- An input as lines: each ends at a newline, and what stands after the last newline is a line too, if there is any. Definitions only.
use Rattle.std.specs.Prelude.{cond, List, [], ◌++◌, ◌∷◌, ℕ, eqb}

-- what stands after the last newline
abbrev pub unended : List ℕ → List (List ℕ)
unended [] = []
unended (b ∷ bs) = (b ∷ bs) ∷ []

-- the lines of bytes, of whose first line some stand before them
unfoldable pub lines_after : List ℕ → List ℕ → List (List ℕ)
lines_after before [] = unended before
lines_after before (b ∷ bs) = cond (eqb b 10) (before ∷ lines_after [] bs) (lines_after (before ++ (b ∷ [])) bs)

abbrev pub lines_of : List ℕ → List (List ℕ)
lines_of input = lines_after [] input
