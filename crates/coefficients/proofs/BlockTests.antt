-- A test of every cell of an 8x8 block, by the test at each cell. Assumes nothing.
use mathlib.Core.Bool.{Bool, true}
use mathlib.Core.List.{List, []}
use mathlib.Core.Path.{◌≡◌, refl}
use Prim.Native.Nat.{ℕ, ◌<◌}
use native.Mathlib.Omega.{arith}
use lib.IntN.{ℤ, pos}
use lib.ListN.{length, get_or}
use Rattle.numbers.specs.Grid.{block}
use Rattle.numbers.proofs.Fill.{cell-block}
use Rattle.numbers.specs.Every.{every}
use Rattle.numbers.proofs.Every.{every_in, every_get}
use Rattle.scan.proofs.BlockLaws.{Square, square-block, wide_most}

module _ {A : Type 0} (p : A → Bool) (d : A) (b : List (List A)) where
  pub test_all : Square b → ((v u : ℕ) → v < 8 → u < 8 → p (get_or (get_or b v []) u d) ≡ true) → every (every p) b ≡ true
  test_all s h =
      every_in (every p) [] b (λ (v : ℕ) (l : v < length b).
      every_in p d (get_or b v []) (λ (u : ℕ) (m : u < length (get_or b v [])). h v u (omega (arith, s.long)) (omega (arith, wide_most b s v))))

  pub test_at : p d ≡ true → every (every p) b ≡ true → (v u : ℕ) → p (get_or (get_or b v []) u d) ≡ true
  test_at z t v u = every_get p d z (get_or b v []) (every_get (every p) [] refl b t v) u

-- of a block by its function
pub test_block : (p : ℤ → Bool) (f : ℕ → ℕ → ℤ) → ((v u : ℕ) → v < 8 → u < 8 → p (f v u) ≡ true) → every (every p) (block f) ≡ true
test_block p f h = test_all p (pos 0) (block f) (square-block f) (λ (v u : ℕ) (m : v < 8) (n : u < 8). rw (cell-block f v u m n) (h v u m n))
