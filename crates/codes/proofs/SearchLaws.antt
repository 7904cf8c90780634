-- `seek` finds the first number that passes. Assumes nothing.
use mathlib.Core.Bool.{Bool, cond, false, true}
use mathlib.Core.Logic.{⊎_elim}
use mathlib.Core.Path.{◌≡◌, ◌∙◌, refl, subst, sym, ap}
use Prim.Native.Nat.{◌+◌, ◌-◌, ◌<◌, ◌≤◌, suc, zero, ℕ}
use native.Mathlib.Nat.{eq-or-lt_of_le, le_refl}
use native.Mathlib.Numerals.{add-one}
use native.Mathlib.Omega.{arith}
use lib.Dec.{T}
use Rattle.codes.specs.Table.{seek}
use Rattle.numbers.proofs.Tests.{F-false, T_true}

pub seek_hit : (f : ℕ → Bool) (n i : ℕ) → seek f n i < i + n → T (f (seek f n i))
unfolding seek
seek_hit f zero i h = absurd (omega arith)
seek_hit f (suc n) i h = go (f i) refl (λ h'. seek_hit f n (suc i) h') h
  where
    go : (t : Bool) → f i ≡ t → (seek f n (suc i) < suc i + n → T (f (seek f n (suc i))))
        → cond t i (seek f n (suc i)) < i + suc n → T (f (cond t i (seek f n (suc i))))
    go true e more h = subst T (sym e) tt
    go false e more h = more (omega arith)

-- the first index that passes is found
pub seek_at : (f : ℕ → Bool) (n i k : ℕ) → i ≤ k → k < i + n → T (f k) → ((j : ℕ) → j < k → T (f j) → ⊥) → seek f n i ≡ k
unfolding seek
seek_at f zero i k a b t u = absurd (omega arith)
seek_at f (suc n) i k a b t u = ⊎_elim here (λ l. later l (seek_at f n (suc i) k l (omega arith) t u)) (eq-or-lt_of_le a)
  where
    here : i ≡ k → cond (f i) i (seek f n (suc i)) ≡ k
    here e = ap (λ (x : Bool). cond x i (seek f n (suc i))) (T_true (f i) (subst (λ (x : ℕ). T (f x)) (sym e) t)) ∙ e

    later : i < k → seek f n (suc i) ≡ k → cond (f i) i (seek f n (suc i)) ≡ k
    later l e = ap (λ (x : Bool). cond x i (seek f n (suc i))) (F-false (f i) (u i l)) ∙ e

pub seek-le : (f : ℕ → Bool) (n i : ℕ) → seek f n i ≤ i + n
unfolding seek
seek-le f zero i = omega arith
seek-le f (suc n) i = go (f i) (seek-le f n (suc i))
  where
    go : (t : Bool) → seek f n (suc i) ≤ suc i + n → cond t i (seek f n (suc i)) ≤ i + suc n
    go true h = omega arith
    go false h = omega arith

-- nothing passes: the end
pub seek-none : (f : ℕ → Bool) (n i : ℕ) → ((j : ℕ) → i ≤ j → j < i + n → T (f j) → ⊥) → seek f n i ≡ i + n
unfolding seek
seek-none f zero i u = omega arith
seek-none f (suc n) i u =
    ap (λ (x : Bool). cond x i (seek f n (suc i))) (F-false (f i) (u i (le_refl i) (omega arith)))
    ∙ seek-none f n (suc i) (λ j a b. u j (omega arith) (omega arith)) ∙ omega arith

-- one passes: short of the end
pub seek-some : (f : ℕ → Bool) (n i k : ℕ) → i ≤ k → k < i + n → T (f k) → seek f n i < i + n
unfolding seek
seek-some f zero i k a b t = absurd (omega arith)
seek-some f (suc n) i k a b t = go (f i) refl (λ l. seek-some f n (suc i) k l (omega arith) t)
  where
    go : (u : Bool) → f i ≡ u → (i < k → seek f n (suc i) < suc i + n) → cond u i (seek f n (suc i)) < i + suc n
    go true e more = omega arith
    go false e more = ⊎_elim (λ (q : i ≡ k). absurd (subst T (sym (ap f q) ∙ e) t)) (λ (l : i < k). let m = more l in omega arith) (eq-or-lt_of_le a)

-- ---- as a loop goes through it

pub seek_yes : (f : ℕ → Bool) (rows i : ℕ) → i < rows → f i ≡ true → seek f (rows - i) i ≡ i
unfolding seek
seek_yes f rows i l e =
    let n : rows - i ≡ suc (rows - (i + 1)) = omega arith in
    ap (λ (k : ℕ). seek f k i) n ∙ ap (λ (t : Bool). cond t i (seek f (rows - (i + 1)) (suc i))) e

pub seek-no : (f : ℕ → Bool) (rows i : ℕ) → i < rows → f i ≡ false → seek f (rows - i) i ≡ seek f (rows - (i + 1)) (i + 1)
unfolding seek
seek-no f rows i l e =
    let n : rows - i ≡ suc (rows - (i + 1)) = omega arith in
    ap (λ (k : ℕ). seek f k i) n ∙ ap (λ (t : Bool). cond t i (seek f (rows - (i + 1)) (suc i))) e
    ∙ ap (λ (k : ℕ). seek f (rows - (i + 1)) k) (sym (add-one i))

pub seek_end : (f : ℕ → Bool) (rows i : ℕ) → rows ≤ i → seek f (rows - i) i ≡ i
unfolding seek
seek_end f rows i l = let n : rows - i ≡ 0 = omega arith in ap (λ (k : ℕ). seek f k i) n

-- what a search from a row on gives, short of its end, passes
pub seek-from : (f : ℕ → Bool) (rows from r : ℕ) → from ≤ rows → r ≡ seek f (rows - from) from → r < rows → T (f r)
seek-from f rows from r l e h = subst (λ (k : ℕ). T (f k)) (sym e) (seek_hit f (rows - from) from (omega arith))
