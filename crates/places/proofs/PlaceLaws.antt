-- No table names a block above 5. Assumes nothing.
use mathlib.Core.List.{List, [], ◌∷◌}
use mathlib.Core.Bool.{true}
use mathlib.Core.Path.{◌≡◌, refl}
use Prim.Native.Nat.{ℕ, ◌<◌}
use lib.Dec.{ltb}
use lib.ListN.{get_or}
use borrow.Author.Tests.{ltb-true}
use Rattle.numbers.specs.Every.{every}
use Rattle.numbers.proofs.Every.{every_get}
use Rattle.places.specs.Places.{a_block, b_block, c_block}

below : (t : List ℕ) → every (λ (b : ℕ). ltb b 6) t ≡ true → (i : ℕ) → get_or t i 0 < 6
below t e i = ltb-true (get_or t i 0) 6 (every_get (λ (b : ℕ). ltb b 6) 0 refl t e i)

pub a_below : (i : ℕ) → a_block i < 6
a_below = below (1 ∷ 0 ∷ 3 ∷ 2 ∷ 4 ∷ 5 ∷ []) refl

pub b_below : (i : ℕ) → b_block i < 6
b_below = below (3 ∷ 2 ∷ 1 ∷ 0 ∷ 4 ∷ 5 ∷ []) refl

pub c-below : (i : ℕ) → c_block i < 6
c-below = below (2 ∷ 3 ∷ 0 ∷ 1 ∷ 4 ∷ 5 ∷ []) refl
