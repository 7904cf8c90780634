-- The default matrix of intra blocks (6.3.3). Definitions only.
use Rattle.std.specs.Prelude.{List, [], ◌∷◌, ℕ}

unfoldable pub default_intra : List (List ℕ)
default_intra =
    (8 ∷ 17 ∷ 18 ∷ 19 ∷ 21 ∷ 23 ∷ 25 ∷ 27 ∷ [])
    ∷ (17 ∷ 18 ∷ 19 ∷ 21 ∷ 23 ∷ 25 ∷ 27 ∷ 28 ∷ [])
    ∷ (20 ∷ 21 ∷ 22 ∷ 23 ∷ 24 ∷ 26 ∷ 28 ∷ 30 ∷ [])
    ∷ (21 ∷ 22 ∷ 23 ∷ 24 ∷ 26 ∷ 28 ∷ 30 ∷ 32 ∷ [])
    ∷ (22 ∷ 23 ∷ 24 ∷ 26 ∷ 28 ∷ 30 ∷ 32 ∷ 35 ∷ [])
    ∷ (23 ∷ 24 ∷ 26 ∷ 28 ∷ 30 ∷ 32 ∷ 35 ∷ 38 ∷ [])
    ∷ (25 ∷ 26 ∷ 28 ∷ 30 ∷ 32 ∷ 35 ∷ 38 ∷ 41 ∷ [])
    ∷ (27 ∷ 28 ∷ 30 ∷ 32 ∷ 35 ∷ 38 ∷ 41 ∷ 45 ∷ [])
    ∷ []
