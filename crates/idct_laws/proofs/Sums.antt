-- Sums over an index: how far two of integers are apart, and one of naturals in which a single term may differ from 0. Assumes nothing.
use mathlib.Core.Logic.{◌≢◌, ⊎_elim}
use mathlib.Core.Path.{◌≡◌, refl, sym, ap, ap₂, ◌∙◌, subst}
use Prim.Native.Nat.{ℕ, zero, suc, ◌+◌, ◌*◌, ◌≤◌, ◌<◌}
use native.Mathlib.Nat.{add-le-add, add-mul, add-zero, eq-or-lt_of_le, le_of_eq, le_of_suc-le-suc, le_refl, le-suc, le_trans, ne_of_lt, zero-add}
use native.Mathlib.Omega.{arith}
use lib.IntN.{ℤ, pos, nat_abs, ◌+ℤ◌, ◌-ℤ◌, ◌*ℤ◌}
use Rattle.numbers.proofs.Integers.{var, nat, ◌⊕◌, ◌⊝◌, ◌⊗◌, ring}
use Rattle.numbers.proofs.Magnitudes.{abs-add}
use Rattle.f64_error.specs.Series.{series_z}
use Rattle.idct_laws.specs.Changes.{series_n}

-- term by term f(i) * B apart, each times a factor of its own, the sums are that of f, times B, apart
pub sums_scaled_apart : (t s : ℕ → ℤ) (p q : ℤ) (f : ℕ → ℕ) (B n : ℕ) → ((i : ℕ) → i < n → nat_abs (t i *ℤ p -ℤ s i *ℤ q) ≤ f i * B)
    → nat_abs (series_z t n *ℤ p -ℤ series_z s n *ℤ q) ≤ series_n f n * B
unfolding series_z series_n
sums_scaled_apart t s p q f B zero h = le_trans (le_of_eq (ap nat_abs (ring (nat 0 ⊗ var p ⊝ nat 0 ⊗ var q) (nat 0) (omega arith)))) (omega arith)
sums_scaled_apart t s p q f B (suc n) h =
    let T = series_z t n in
    let S = series_z s n in
    le_trans (le_of_eq (ap nat_abs (split T S (t n) (s n))))
    (le_trans (abs-add (T *ℤ p -ℤ S *ℤ q) (t n *ℤ p -ℤ s n *ℤ q))
    (le_trans (add-le-add (sums_scaled_apart t s p q f B n (λ (i : ℕ) (l : i < n). h i (le_trans l (le-suc n)))) (h n (le_refl (suc n))))
    (le_of_eq (sym (add-mul (series_n f n) (f n) B)))))
  where
    split : (T S a b : ℤ) → (T +ℤ a) *ℤ p -ℤ (S +ℤ b) *ℤ q ≡ (T *ℤ p -ℤ S *ℤ q) +ℤ (a *ℤ p -ℤ b *ℤ q)
    split T S a b = ring ((var T ⊕ var a) ⊗ var p ⊝ (var S ⊕ var b) ⊗ var q) ((var T ⊗ var p ⊝ var S ⊗ var q) ⊕ (var a ⊗ var p ⊝ var b ⊗ var q)) (omega arith)

-- without the factors
pub sums_apart : (t s : ℕ → ℤ) (f : ℕ → ℕ) (B n : ℕ) → ((i : ℕ) → i < n → nat_abs (t i -ℤ s i) ≤ f i * B)
    → nat_abs (series_z t n -ℤ series_z s n) ≤ series_n f n * B
sums_apart t s f B n h =
    subst (λ (z : ℤ). nat_abs z ≤ series_n f n * B) (once (series_z t n) (series_z s n))
    (sums_scaled_apart t s (pos 1) (pos 1) f B n (λ i l. subst (λ (z : ℤ). nat_abs z ≤ f i * B) (sym (once (t i) (s i))) (h i l)))
  where
    once : (a b : ℤ) → a *ℤ pos 1 -ℤ b *ℤ pos 1 ≡ a -ℤ b
    once a b = ring (var a ⊗ nat 1 ⊝ var b ⊗ nat 1) (var a ⊝ var b) (omega arith)

-- where no term differs from 0
pub none : (f : ℕ → ℕ) (n : ℕ) → ((i : ℕ) → i < n → f i ≡ 0) → series_n f n ≡ 0
unfolding series_n
none f zero h = refl
none f (suc n) h = ap₂ (λ (a b : ℕ). a + b) (none f n (λ (i : ℕ) (l : i < n). h i (le_trans l (le-suc n)))) (h n (le_refl (suc n)))

-- where the k-th alone may
pub one_only : (f : ℕ → ℕ) (n k : ℕ) → k < n → ((i : ℕ) → i < n → i ≢ k → f i ≡ 0) → series_n f n ≡ f k
unfolding series_n
one_only f zero k l h = absurd (omega arith)
one_only f (suc n) k l h =
    ⊎_elim
    (λ (e : k ≡ n).
    let z = none f n (λ (i : ℕ) (g : i < n). h i (le_trans g (le-suc n)) (λ (q : i ≡ k). ne_of_lt g (q ∙ e))) in
    ap (λ (a : ℕ). a + f n) z ∙ zero-add (f n) ∙ ap f (sym e))
    (λ (g : k < n).
    let r = one_only f n k g (λ (i : ℕ) (q : i < n). h i (le_trans q (le-suc n))) in
    let z = h n (le_refl (suc n)) (λ (q : n ≡ k). ne_of_lt g (sym q)) in
    ap₂ (λ (a b : ℕ). a + b) r z ∙ add-zero (f k))
    (eq-or-lt_of_le (le_of_suc-le-suc l))
