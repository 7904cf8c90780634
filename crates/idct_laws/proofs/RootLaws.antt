-- Comparison with a nested root is one of numbers, and each of the nine cosines' roots is another's by halving the angle. Assumes nothing.
use mathlib.Core.Bool.{Bool, true, false, cond, ◌&&◌, ◌||◌}
use mathlib.Core.Logic.{◌⊎◌, inl, inr, ⊎_elim}
use mathlib.Core.Path.{◌≡◌, refl}
use Prim.Native.Nat.{ℕ, zero, suc, ◌-◌, ◌*◌, ◌≤◌, ◌<◌}
use native.Mathlib.Nat.{mul-le-mul, not-suc-le-zero}
use native.Mathlib.Omega.{arith}
use lib.Dec.{T, leb, le→leb, ltb→lt}
use lib.IntN.{ℤ, pos, negsuc, ◌-ℤ◌, ◌*ℤ◌}
use lib.Signed.{le_z, lt_z, ◌≤ℤ◌}
use mir.Facts.{or_yes, yes_and}
use Rattle.numbers.proofs.Fill.{lt-or-le}
use Rattle.numbers.proofs.Integers.{nat, ◌⊝◌, ◌⊗◌, told, le-false, le_in, neg-up, neg-dn, *ℤ-mono, ≤ℤ-trans, <ℤ-≤ℤ}
use Rattle.numbers.proofs.Tests.{and_right, or_right, true-T}
use Rattle.idct_laws.specs.Roots.{Root, whole, plus, minus, at_most, at_least, double_cosine}

-- ---- where n is a natural number, what stands under the root decides

module _ (a : ℕ) (b : Bool) where
  pub most_under : T (lt_z (pos a) (pos 0) || b) → T b
  most_under t = ⊎_elim (λ (s : T (lt_z (pos a) (pos 0))). absurd (not-suc-le-zero (ltb→lt a 0 s))) (λ (s : T b). s) (or_yes (lt_z (pos a) (pos 0)) b t)

  pub most_root : T b → T (lt_z (pos a) (pos 0) || b)
  most_root t = or_right (lt_z (pos a) (pos 0)) b t

  pub least_under : T (le_z (pos 0) (pos a) && b) → T b
  least_under t = and_right (le_z (pos 0) (pos a)) b t

  pub least_root : T b → T (le_z (pos 0) (pos a) && b)
  least_root t = yes_and (le_z (pos 0) (pos a)) b (le→leb 0 a (omega arith)) t

-- ---- a fraction that is at most a root is at most one that is at least it

square_le : (x y : ℕ) → x * x ≤ y * y → x ≤ y
square_le x y h = ⊎_elim (λ (l : y < x). absurd (clash (mul-le-mul l l))) (λ (l : x ≤ y). l) (lt-or-le y x)
  where
    clash : suc y * suc y ≤ x * x → ⊥
    clash g = omega arith

by_squares : (a b s t : ℕ) → a * a * (t * t) ≤ b * b * (s * s) → (pos a *ℤ pos t) ≤ℤ (pos b *ℤ pos s)
by_squares a b s t h = let l : a * t ≤ b * s = square_le (a * t) (b * s) (omega arith) in le_in (omega arith)

below-zero : (a b s t : ℕ) → (negsuc a *ℤ pos t) ≤ℤ (pos b *ℤ pos s)
below-zero a b s t = le_in (omega (arith, neg-up (pos (suc a * t)), neg-dn (pos (suc a * t))))

pub cut : (r : Root) (n m : ℤ) (s t : ℕ) → T (at_most n s r) → T (at_least m t r) → (n *ℤ pos t) ≤ℤ (m *ℤ pos s)
unfolding at_most at_least
cut (whole k) n m s t p q =
    ≤ℤ-trans (*ℤ-mono {a = n} {b = pos (k * s)} {c = pos t} (record { le = p }) (le_in (omega arith)))
    (≤ℤ-trans {a = pos (k * s) *ℤ pos t} {b = pos (k * t) *ℤ pos s} (le_in (omega arith))
    (*ℤ-mono {a = pos (k * t)} {b = m} {c = pos s} (record { le = q }) (le_in (omega arith))))
cut (plus r) n (negsuc b) s t p q = absurd q
cut (plus r) (negsuc a) (pos b) s t p q = below-zero a b s t
cut (plus r) (pos a) (pos b) s t p q =
    let n = pos (a * a) -ℤ pos (2 * (s * s)) in
    let m = pos (b * b) -ℤ pos (2 * (t * t)) in
    let i = cut r n m (s * s) (t * t) (most_under a (at_most n (s * s) r) p) (least_under b (at_least m (t * t) r) q) in
    let g = told ((nat (a * a) ⊝ nat (2 * (s * s))) ⊗ nat (t * t)) ((nat (b * b) ⊝ nat (2 * (t * t))) ⊗ nat (s * s)) i in
    by_squares a b s t (omega arith)
cut (minus r) n (negsuc b) s t p q = absurd q
cut (minus r) (negsuc a) (pos b) s t p q = below-zero a b s t
cut (minus r) (pos a) (pos b) s t p q =
    let n = pos (2 * (s * s)) -ℤ pos (a * a) in
    let m = pos (2 * (t * t)) -ℤ pos (b * b) in
    let i = cut r m n (t * t) (s * s) (least_under b (at_most m (t * t) r) q) (most_under a (at_least n (s * s) r) p) in
    let g = told ((nat (2 * (t * t)) ⊝ nat (b * b)) ⊗ nat (s * s)) ((nat (2 * (s * s)) ⊝ nat (a * a)) ⊗ nat (t * t)) i in
    by_squares a b s t (omega arith)

-- ---- and each fraction is at most it or at least it

total : (n m : ℤ) → T (le_z n m) ⊎ T (le_z m n)
total n m = go (le_z n m) refl
  where
    go : (b : Bool) → le_z n m ≡ b → T (le_z n m) ⊎ T (le_z m n)
    go true e = inl (true-T (le_z n m) e)
    go false e = inr (<ℤ-≤ℤ (le-false n m e)).le

pub either : (r : Root) (n : ℤ) (s : ℕ) → T (at_most n s r) ⊎ T (at_least n s r)
unfolding at_most at_least
either (whole k) n s = total n (pos (k * s))
either (plus r) (negsuc a) s = inl tt
either (plus r) (pos a) s =
    let n = pos (a * a) -ℤ pos (2 * (s * s)) in
    let p = at_most n (s * s) r in
    let q = at_least n (s * s) r in
    ⊎_elim (λ (t : T p). inl (most_root a p t)) (λ (t : T q). inr (least_root a q t)) (either r n (s * s))
either (minus r) (negsuc a) s = inl tt
either (minus r) (pos a) s =
    let n = pos (2 * (s * s)) -ℤ pos (a * a) in
    let p = at_most n (s * s) r in
    let q = at_least n (s * s) r in
    ⊎_elim (λ (t : T p). inr (least_root a p t)) (λ (t : T q). inl (most_root a q t)) (either r n (s * s))

-- ---- half the angle: 2 cos(t) is √(2 + 2 cos(2t)), and cos(2t) is - cos(pi - 2t)

pub doubling : (k : ℕ) → 1 ≤ k → k ≤ 7 → double_cosine k ≡ cond (leb k 4) (plus (double_cosine (2 * k))) (minus (double_cosine (16 - 2 * k)))
unfolding double_cosine
doubling zero l h = absurd (omega arith)
doubling (suc zero) l h = refl
doubling (suc (suc zero)) l h = refl
doubling (suc (suc (suc zero))) l h = refl
doubling (suc (suc (suc (suc zero)))) l h = refl
doubling (suc (suc (suc (suc (suc zero))))) l h = refl
doubling (suc (suc (suc (suc (suc (suc zero)))))) l h = refl
doubling (suc (suc (suc (suc (suc (suc (suc zero))))))) l h = refl
doubling (suc (suc (suc (suc (suc (suc (suc (suc k)))))))) l h = absurd (omega arith)
