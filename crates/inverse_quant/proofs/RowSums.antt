-- Sums of rows, value by value: the sum of all is the sum of the rows. Assumes nothing.
use mathlib.Core.List.{List, [], ◌∷◌}
use mathlib.Core.Logic.{⊎_elim}
use mathlib.Core.Path.{◌≡◌, refl, ap, sym, ◌∙◌}
use Prim.Native.Nat.{ℕ, zero, suc, ◌+◌, ◌≤◌, ◌<◌}
use native.Mathlib.Omega.{arith}
use lib.IntN.{ℤ, pos, nat_abs, ◌+ℤ◌, +ℤ_assoc, +ℤ_comm, +ℤ_idr}
use lib.ListN.{get_or, length, get_or-eq_default}
use Rattle.numbers.specs.Grid.{build}
use Rattle.numbers.specs.Sum.{sum_z}
use Rattle.numbers.proofs.Fill.{get_or-build, is-build, length-build, lt-or-le}
use Rattle.numbers.proofs.Magnitudes.{abs-add}
use Rattle.inverse_quant.specs.ByRows.{with_row, zeros}

-- ---- zeros

pub zeros-none : (u : ℕ) → nat_abs (get_or zeros u (pos 0)) ≤ 0
zeros-none u =
    ⊎_elim (λ (p : u < 8). rw (get_or-build 8 (λ (k : ℕ). pos 0) u (pos 0) p) (omega arith))
    (λ (p : 8 ≤ u). rw (get_or-eq_default zeros (pos 0) {n = u} (omega (arith, length-build 8 (λ (k : ℕ). pos 0)))) (omega arith))
    (lt-or-le u 8)

pub nothing_added : (sums : List ℤ) → length sums ≡ 8 → sums ≡ with_row sums zeros
nothing_added sums e =
    is-build (pos 0) sums 8 (λ (u : ℕ). get_or sums u (pos 0) +ℤ get_or zeros u (pos 0)) e
    (λ (u : ℕ) (p : u < 8). sym (ap (λ (z : ℤ). get_or sums u (pos 0) +ℤ z) (get_or-build 8 (λ (k : ℕ). pos 0) u (pos 0) p) ∙ +ℤ_idr (get_or sums u (pos 0))))

-- ---- a row added

pub added_small : (a b : List ℤ) (A B : ℕ) → ((u : ℕ) → nat_abs (get_or a u (pos 0)) ≤ A) → ((u : ℕ) → nat_abs (get_or b u (pos 0)) ≤ B) → (u : ℕ) → nat_abs (get_or (with_row a b) u (pos 0)) ≤ A + B
added_small a b A B h k u =
    let f : ℕ → ℤ = λ (i : ℕ). get_or a i (pos 0) +ℤ get_or b i (pos 0) in
    ⊎_elim (λ (p : u < 8). rw (get_or-build 8 f u (pos 0) p) (omega (arith, h u, k u, abs-add (get_or a u (pos 0)) (get_or b u (pos 0)))))
    (λ (p : 8 ≤ u). rw (get_or-eq_default (with_row a b) (pos 0) {n = u} (omega (arith, length-build 8 f))) (omega arith))
    (lt-or-le u 8)

-- two pairs, added across
across : (x y p q : ℤ) → (x +ℤ y) +ℤ (p +ℤ q) ≡ (x +ℤ p) +ℤ (y +ℤ q)
across x y p q =
    +ℤ_assoc x y (p +ℤ q)
    ∙ ap (λ (z : ℤ). x +ℤ z) (sym (+ℤ_assoc y p q) ∙ ap (λ (z : ℤ). z +ℤ q) (+ℤ_comm y p) ∙ +ℤ_assoc p y q)
    ∙ sym (+ℤ_assoc x p (y +ℤ q))

sum_each : (n : ℕ) (a b : List ℤ) → length a ≡ n → length b ≡ n → sum_z (build n (λ (u : ℕ). get_or a u (pos 0) +ℤ get_or b u (pos 0))) ≡ sum_z a +ℤ sum_z b
unfolding sum_z build
sum_each zero [] [] e f = refl
sum_each zero [] (y ∷ b) e f = absurd (omega arith)
sum_each zero (x ∷ a) b e f = absurd (omega arith)
sum_each (suc n) [] b e f = absurd (omega arith)
sum_each (suc n) (x ∷ a) [] e f = absurd (omega arith)
sum_each (suc n) (x ∷ a) (y ∷ b) e f = ap (λ (z : ℤ). (x +ℤ y) +ℤ z) (sum_each n a b (omega arith) (omega arith)) ∙ across x y (sum_z a) (sum_z b)

pub sum_added : (a b : List ℤ) → length a ≡ 8 → length b ≡ 8 → sum_z (with_row a b) ≡ sum_z a +ℤ sum_z b
sum_added a b e f = sum_each 8 a b e f
