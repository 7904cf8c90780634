-- `lt` compares the integers that two floats are; the format is a variable. Assumes nothing.
use mathlib.Core.Bool.{Bool, true, false, not}
use mathlib.Core.Path.{◌≡◌, sym, subst}
use Prim.Native.Nat.{ℕ, ◌+◌, ◌*◌, ◌^◌, ◌≤◌, ◌<◌}
use native.Mathlib.Nat.{le_trans, le_of_eq, lt_of_le_of_lt, lt_of_lt_of_le, mul-le-mul_right, mul-lt-mul_of_pos_right, lt_of_mul-lt-mul_right, le_of_mul-le-mul_right, mul-pos}
use native.Mathlib.Omega.{arith}
use lib.Dec.{T, ltb, ltb→lt, nltb→le}
use lib.Ieee.{Float, nan, inf, fin, Format, low, up as numer, down as denom, lt, below}
use lib.Ieee.Fits.{down_pos}
use lib.IntN.{ℤ, pos, neg_ℤ}
use lib.Pow.{pow_pos}
use Rattle.numbers.proofs.Integers.{dn, neg-dn, neg-up, up}
use Rattle.f64_error.proofs.Operations.{at_l, at_r}
use Rattle.f64_error.specs.Units.{Val, sgn}

-- a < b, as `omega` reads it
abbrev pub Lt : ℤ → ℤ → Type 0
Lt a b = up a + dn b < up b + dn a

abbrev pub Le : ℤ → ℤ → Type 0
Le a b = up a + dn b ≤ up b + dn a

-- what a comparison says of two numbers
abbrev Says : Bool → ℤ → ℤ → Type 0
Says true a b = Lt a b
Says false a b = Le b a

-- A / C is p / L and B / C is q / L
module _ (A B C p q L : ℕ) (D : 0 < C) (l : 0 < L) (a : A * L ≡ p * C) (b : B * L ≡ q * C) where
  pub lt_units : A < B → p < q
  lt_units h = lt_of_mul-lt-mul_right C (lt_of_le_of_lt (le_of_eq (sym a)) (lt_of_lt_of_le (mul-lt-mul_of_pos_right h l) (le_of_eq b)))

  pub le_units : A ≤ B → p ≤ q
  le_units h = le_of_mul-le-mul_right (le_trans (le_of_eq (sym a)) (le_trans (mul-le-mul_right L h) (le_of_eq b))) D

module _ (A B C p q L : ℕ) (D : 0 < C) (l : 0 < L) (a : A * L ≡ p * C) (b : B * L ≡ q * C) where
  like : (t : Bool) → (T t → A < B) → (T (not t) → B ≤ A) → Says t (pos p) (pos q)
  like true h k = let r = lt_units A B C p q L D l a b (h tt) in omega arith
  like false h k = let r = le_units B A C q p L D l b a (k tt) in omega arith

  both_down : (t : Bool) → (T t → B < A) → (T (not t) → A ≤ B) → Says t (neg_ℤ (pos p)) (neg_ℤ (pos q))
  both_down true h k = let r = lt_units B A C q p L D l b a (h tt) in omega (arith, neg-up (pos p), neg-dn (pos p), neg-up (pos q), neg-dn (pos q))
  both_down false h k = let r = le_units A B C p q L D l a b (k tt) in omega (arith, neg-up (pos p), neg-dn (pos p), neg-up (pos q), neg-dn (pos q))

  across : (t : Bool) → (T t → 0 < A + B) → (T (not t) → A + B ≤ 0) → Says t (neg_ℤ (pos p)) (pos q)
  across true h k = let r = sum-pos (h tt) in omega (arith, neg-up (pos p), neg-dn (pos p))
    where
      sum-pos : 0 < A + B → 0 < p + q
      sum-pos g = lt_of_mul-lt-mul_right C (line (mul-lt-mul_of_pos_right g l))
        where
          line : 0 * L < (A + B) * L → 0 * C < (p + q) * C
          line r = omega arith
  across false h k =
      let r = k tt in
      let r1 = le_units A 0 C p 0 L D l a (line L C) (less A B r) in
      let r2 = le_units B 0 C q 0 L D l b (line L C) (more A B r) in
      omega (arith, neg-up (pos p), neg-dn (pos p))
    where
      line : (x y : ℕ) → 0 * x ≡ 0 * y
      line x y = omega arith

      less : (x y : ℕ) → x + y ≤ 0 → x ≤ 0
      less x y h = omega arith

      more : (x y : ℕ) → x + y ≤ 0 → y ≤ 0
      more x y h = omega arith

  below-says : (s t : Bool) → Says (below s A t B) (sgn s p) (sgn t q)
  below-says false false = like (ltb A B) (ltb→lt A B) (nltb→le A B)
  below-says false true = omega (arith, neg-up (pos q), neg-dn (pos q))
  below-says true false = across (ltb 0 (A + B)) (ltb→lt 0 (A + B)) (nltb→le 0 (A + B))
  below-says true true = both_down (ltb B A) (ltb→lt B A) (nltb→le B A)

lt-says : (f : Format) (x y : Float) (a b : ℤ) → Val f x a → Val f y b → Says (lt x y) a b
unfolding lt
lt-says f nan y a b h g = absurd h
lt-says f (inf s) y a b h g = absurd h
lt-says f (fin s m e) nan a b h g = absurd g
lt-says f (fin s m e) (inf t) a b h g = absurd g
lt-says f (fin s m e) (fin t n d) a b h g =
    subst (λ (z : ℤ). Says (below s (m * numer e * denom d) t (n * numer d * denom e)) z b) (sym h.2)
    (subst (λ (z : ℤ). Says (below s (m * numer e * denom d) t (n * numer d * denom e)) (sgn s h.0) z) (sym g.2)
    (below-says (m * numer e * denom d) (n * numer d * denom e) (denom e * denom d) h.0 g.0 (2 ^ low f) (mul-pos (down_pos e) (down_pos d)) (pow_pos (low f))
    (at_l (m * numer e) (2 ^ low f) h.0 (denom e) (denom d) h.1) (at_r (n * numer d) (2 ^ low f) g.0 (denom e) (denom d) g.1) s t))

pub lt_yes : (f : Format) (x y : Float) (a b : ℤ) → Val f x a → Val f y b → lt x y ≡ true → Lt a b
lt_yes f x y a b h g e = subst (λ (t : Bool). Says t a b) e (lt-says f x y a b h g)

pub lt_no : (f : Format) (x y : Float) (a b : ℤ) → Val f x a → Val f y b → lt x y ≡ false → Le b a
lt_no f x y a b h g e = subst (λ (t : Bool). Says t a b) e (lt-says f x y a b h g)

-- ---- from the numbers to the test
pub lt_holds : (f : Format) (x y : Float) (a b : ℤ) → Val f x a → Val f y b → Lt a b → T (lt x y)
lt_holds f x y a b h g l = go (lt x y) (lt-says f x y a b h g)
  where
    go : (t : Bool) → Says t a b → T t
    go true s = tt
    go false s = absurd (clash s l)
      where
        clash : Le b a → Lt a b → ⊥
        clash u w = omega arith
