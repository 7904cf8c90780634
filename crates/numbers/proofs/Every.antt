-- A test of every element of a list or grid, by the test at each index. Where the default passes too, no bound on the index is needed. Assumes nothing.
use mathlib.Core.Bool.{Bool, true, false}
use mathlib.Core.List.{List, [], ◌∷◌}
use mathlib.Core.Path.{◌≡◌, refl}
use Prim.Native.Nat.{ℕ, zero, suc, ◌<◌}
use native.Mathlib.Nat.{not-suc-le-zero, le_of_suc-le-suc}
use native.Mathlib.Omega.{arith}
use lib.Dec.{T}
use lib.ListN.{length, get_or}
use Rattle.numbers.proofs.Tests.{T_true, true-T, and-false, and_left, and_right, true_both}
use Rattle.numbers.specs.Every.{every}
use Rattle.numbers.specs.Grid.{build, cell_n}

-- a test that is computed over the whole list, carried to each element
pub every_at : {A : Type 0} (p : A → Bool) (d : A) (xs : List A) → T (p d) → T (every p xs) → (i : ℕ) → T (p (get_or xs i d))
every_at p d [] z t i = z
every_at p d (x ∷ xs) z t zero = and_left (p x) (every p xs) t
every_at p d (x ∷ xs) z t (suc i) = every_at p d xs z (and_right (p x) (every p xs) t) i

-- and over f(0) .. f(n - 1), carried to each of them
pub every-build : {A : Type 0} (p : A → Bool) (n : ℕ) (f : ℕ → A) → T (every p (build n f)) → (i : ℕ) → i < n → T (p (f i))
unfolding build
every-build p zero f t i l = absurd (not-suc-le-zero l)
every-build p (suc n) f t zero l = and_left (p (f 0)) (every p (build n (λ (k : ℕ). f (suc k)))) t
every-build p (suc n) f t (suc i) l = let rest = and_right (p (f 0)) (every p (build n (λ (k : ℕ). f (suc k)))) t in every-build p n (λ (k : ℕ). f (suc k)) rest i (le_of_suc-le-suc l)

module _ {A : Type 0} (p : A → Bool) (d : A) where
  pub every_get : p d ≡ true → (xs : List A) → every p xs ≡ true → (i : ℕ) → p (get_or xs i d) ≡ true
  every_get z xs t i = T_true (p (get_or xs i d)) (every_at p d xs (true-T (p d) z) (true-T (every p xs) t) i)

  pub every_in : (xs : List A) → ((i : ℕ) → i < length xs → p (get_or xs i d) ≡ true) → every p xs ≡ true
  every_in [] h = refl
  every_in (x ∷ xs) h = true_both (h 0 (omega arith)) (every_in xs (λ (i : ℕ) (l : i < length xs). h (suc i) (omega arith)))

  -- one that fails
  pub every_fails : (xs : List A) (i : ℕ) → i < length xs → p (get_or xs i d) ≡ false → every p xs ≡ false
  every_fails [] i l e = absurd (not-suc-le-zero l)
  every_fails (x ∷ xs) zero l e = simp e
  every_fails (x ∷ xs) (suc i) l e = rw (every_fails xs i (le_of_suc-le-suc l) e) (and-false (p x))

abbrev pub every_cell : (ℕ → Bool) → List (List ℕ) → Bool
every_cell p b = every (every p) b

pub cell_at : (p : ℕ → Bool) (b : List (List ℕ)) → T (p 0) → T (every_cell p b) → (v u : ℕ) → T (p (cell_n b v u))
cell_at p b z t v u = every_at p 0 (get_or b v []) z (every_at (every p) [] b tt t v) u
