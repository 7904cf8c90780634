-- Lists of integers, element by element in a loop. Assumes nothing.
use mathlib.Core.List.{List, [], ◌∷◌, map}
use mathlib.Core.Path.{◌≡◌, refl, sym, ap, ◌∙◌}
use Prim.Native.Nat.{ℕ, zero, suc, ◌+◌, ◌*◌, ◌≤◌}
use native.Mathlib.Nat.{le_of_suc-le-suc}
use native.Mathlib.Numerals.{add-one}
use native.Mathlib.Omega.{arith}
use lib.IntN.{ℤ, pos, nat_abs, ◌+ℤ◌, +ℤ_idl, +ℤ_idr, +ℤ_assoc}
use lib.ListN.{length, get_or, take, set}
use Rattle.numbers.proofs.Magnitudes.{abs-add}
use Rattle.numbers.specs.Sum.{sum_z}

-- ---- a sum, as a loop makes it

sum-suc : (b : List ℤ) (i : ℕ) → sum_z (take (suc i) b) ≡ sum_z (take i b) +ℤ get_or b i (pos 0)
unfolding sum_z
sum-suc [] zero = refl
sum-suc [] (suc i) = refl
sum-suc (z ∷ b) zero = +ℤ_idr z ∙ sym (+ℤ_idl z)
sum-suc (z ∷ b) (suc i) = ap (λ (s : ℤ). z +ℤ s) (sum-suc b i) ∙ sym (+ℤ_assoc z (sum_z (take i b)) (get_or b i (pos 0)))

pub sum-next : (b : List ℤ) (i : ℕ) → sum_z (take (i + 1) b) ≡ sum_z (take i b) +ℤ get_or b i (pos 0)
sum-next b i = rw add-one (sum-suc b i)

pub sum_bound : (B : ℕ) (b : List ℤ) → ((k : ℕ) → nat_abs (get_or b k (pos 0)) ≤ B) → (i : ℕ) → nat_abs (sum_z (take i b)) ≤ i * B
unfolding sum_z
sum_bound B [] h zero = omega arith
sum_bound B [] h (suc i) = omega arith
sum_bound B (z ∷ b) h zero = omega arith
sum_bound B (z ∷ b) h (suc i) = omega (arith, h 0, sum_bound B b (λ n. h (suc n)) i, abs-add z (sum_z (take i b)))

-- ---- a list whose first i elements are mapped

module _ (f : ℤ → ℤ) where
  abbrev pub done : ℕ → List ℤ → List ℤ
  done zero b = b
  done (suc i) [] = []
  done (suc i) (z ∷ b) = f z ∷ done i b

  -- the next is as it was
  pub done_get : (i : ℕ) (b : List ℤ) → get_or (done i b) i (pos 0) ≡ get_or b i (pos 0)
  done_get zero b = refl
  done_get (suc i) [] = refl
  done_get (suc i) (z ∷ b) = done_get i b

  done-suc : (i : ℕ) (b : List ℤ) → set (done i b) i (f (get_or b i (pos 0))) ≡ done (suc i) b
  done-suc zero [] = refl
  done-suc zero (z ∷ b) = refl
  done-suc (suc i) [] = refl
  done-suc (suc i) (z ∷ b) = ap (λ (l : List ℤ). f z ∷ l) (done-suc i b)

  pub done-set : (i : ℕ) (b : List ℤ) → set (done i b) i (f (get_or b i (pos 0))) ≡ done (i + 1) b
  done-set i b = rw add-one (done-suc i b)

  pub done_all : (i : ℕ) (b : List ℤ) → length b ≤ i → done i b ≡ map f b
  done_all zero [] h = refl
  done_all zero (z ∷ b) h = absurd (omega arith)
  done_all (suc i) [] h = refl
  done_all (suc i) (z ∷ b) h = ap (λ (l : List ℤ). f z ∷ l) (done_all i b (le_of_suc-le-suc h))
