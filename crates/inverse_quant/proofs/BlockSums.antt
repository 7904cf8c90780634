-- The sum of a block's cells: as a loop over the rows makes it, its magnitude, and what a store changes of it. Assumes nothing.
use mathlib.Core.List.{List, [], ◌∷◌}
use mathlib.Core.Path.{◌≡◌, refl, ap, sym, ◌∙◌}
use Prim.Native.Nat.{ℕ, zero, suc, ◌+◌, ◌*◌, ◌<◌, ◌≤◌}
use native.Mathlib.Nat.{le_of_suc-le-suc, not-suc-le-zero}
use native.Mathlib.Numerals.{add-one}
use native.Mathlib.Omega.{arith}
use lib.IntN.{ℤ, pos, nat_abs, ◌+ℤ◌, +ℤ_idl, +ℤ_idr, +ℤ_assoc}
use lib.ListN.{length, get_or, take, set}
use lib.Seq.{take_all}
use Rattle.numbers.specs.Grid.{cell}
use Rattle.numbers.specs.Sum.{sum_z}
use Rattle.numbers.proofs.Integers.{add_is, ring, var, zarith, ◌⊕◌}
use Rattle.numbers.proofs.Lists.{sum_bound}
use Rattle.numbers.proofs.Magnitudes.{abs-add}
use Rattle.mismatch.specs.Mismatch.{sum_of}
use Rattle.scan.proofs.BlockLaws.{Square, wide_most}

rows-suc : (b : List (List ℤ)) (i : ℕ) → sum_of (take (suc i) b) ≡ sum_of (take i b) +ℤ sum_z (get_or b i [])
unfolding sum_of sum_z
rows-suc [] zero = refl
rows-suc [] (suc i) = refl
rows-suc (r ∷ b) zero = +ℤ_idr (sum_z r) ∙ sym (+ℤ_idl (sum_z r))
rows-suc (r ∷ b) (suc i) = ap (λ (s : ℤ). sum_z r +ℤ s) (rows-suc b i) ∙ sym (+ℤ_assoc (sum_z r) (sum_of (take i b)) (sum_z (get_or b i [])))

-- as a loop over the rows makes it
pub rows_next : (b : List (List ℤ)) (i : ℕ) → sum_of (take (i + 1) b) ≡ sum_of (take i b) +ℤ sum_z (get_or b i [])
rows_next b i = rw add-one (rows-suc b i)

row_bound : (B : ℕ) (r : List ℤ) → length r ≤ 8 → ((k : ℕ) → nat_abs (get_or r k (pos 0)) ≤ B) → nat_abs (sum_z r) ≤ 8 * B
row_bound B r l h = rw (take_all 8 r l) at (sum_bound B r h 8)

pub rows_bound : (B : ℕ) (b : List (List ℤ)) → ((v : ℕ) → length (get_or b v []) ≤ 8) → ((v u : ℕ) → nat_abs (cell b v u) ≤ B) → (i : ℕ) → nat_abs (sum_of (take i b)) ≤ i * (8 * B)
unfolding sum_of
rows_bound B [] l h zero = omega arith
rows_bound B [] l h (suc i) = omega arith
rows_bound B (r ∷ b) l h zero = omega arith
rows_bound B (r ∷ b) l h (suc i) =
    omega (arith, row_bound B r (l 0) (h 0), rows_bound B b (λ v. l (suc v)) (λ v. h (suc v)) i, abs-add (sum_z r) (sum_of (take i b)))

pub sum_small : (B : ℕ) (b : List (List ℤ)) → Square b → ((v u : ℕ) → nat_abs (cell b v u) ≤ B) → nat_abs (sum_of b) ≤ 8 * (8 * B)
sum_small B b s h = rw (take_all 8 b (omega (arith, s.long))) at (rows_bound B b (wide_most b s) h 8)

-- a store changes it by what the cell changes
sum-set : (l : List ℤ) (i : ℕ) (x : ℤ) → i < length l → sum_z (set l i x) +ℤ get_or l i (pos 0) ≡ sum_z l +ℤ x
unfolding sum_z
sum-set [] i x h = absurd (not-suc-le-zero h)
sum-set (z ∷ l) zero x h = ring (var x ⊕ var (sum_z l) ⊕ var z) (var z ⊕ var (sum_z l) ⊕ var x) (omega arith)
sum-set (z ∷ l) (suc i) x h =
    +ℤ_assoc z (sum_z (set l i x)) (get_or l i (pos 0)) ∙ ap (λ (t : ℤ). z +ℤ t) (sum-set l i x (le_of_suc-le-suc h)) ∙ sym (+ℤ_assoc z (sum_z l) x)

rows-set : (b : List (List ℤ)) (i : ℕ) (r : List ℤ) → i < length b → sum_of (set b i r) +ℤ sum_z (get_or b i []) ≡ sum_of b +ℤ sum_z r
unfolding sum_of
rows-set [] i r h = absurd (not-suc-le-zero h)
rows-set (q ∷ b) zero r h = ring (var (sum_z r) ⊕ var (sum_of b) ⊕ var (sum_z q)) (var (sum_z q) ⊕ var (sum_of b) ⊕ var (sum_z r)) (omega arith)
rows-set (q ∷ b) (suc i) r h =
    +ℤ_assoc (sum_z q) (sum_of (set b i r)) (sum_z (get_or b i [])) ∙ ap (λ (t : ℤ). sum_z q +ℤ t) (rows-set b i r (le_of_suc-le-suc h)) ∙ sym (+ℤ_assoc (sum_z q) (sum_of b) (sum_z r))

pub sum-changed : (b : List (List ℤ)) → Square b → (r k : ℕ) → r < 8 → k < 8 → (x : ℤ) → sum_of (set b r (set (get_or b r []) k x)) +ℤ cell b r k ≡ sum_of b +ℤ x
sum-changed b s r k p q x =
    let n : List ℤ = set (get_or b r []) k x in
    let e : sum_z n +ℤ cell b r k ≡ sum_z (get_or b r []) +ℤ x = sum-set (get_or b r []) k x (omega (arith, s.wide r p)) in
    let f : sum_of (set b r n) +ℤ sum_z (get_or b r []) ≡ sum_of b +ℤ sum_z n = rows-set b r n (omega (arith, s.long)) in
    omega (zarith, add_is (sum_z n) (cell b r k), add_is (sum_z (get_or b r [])) x, add_is (sum_of (set b r n)) (sum_z (get_or b r [])), add_is (sum_of b) (sum_z n), add_is (sum_of (set b r n)) (cell b r k), add_is (sum_of b) x)
