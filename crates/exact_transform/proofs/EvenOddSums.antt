-- The exact double sum by even and odd places: at 7 - x the cosines of even u are those at x, and of odd u their negatives. Assumes nothing.
use mathlib.Core.Path.{◌≡◌, refl, ap, ◌∙◌}
use Prim.Native.Nat.{ℕ, zero, suc, ◌+◌, ◌-◌, ◌*◌, ◌<◌}
use native.Mathlib.Nat.{le_trans, le_refl, le-suc}
use native.Mathlib.Omega.{arith}
use lib.IntN.{ℤ, pos, neg_ℤ, ◌+ℤ◌, ◌*ℤ◌, *ℤ_comm}
use Rattle.numbers.proofs.Integers.{add_is, negℤ-*ℤ, neg-dn, neg-up, zarith}
use Rattle.f64_error.specs.Series.{series_z}
use Rattle.cosines.specs.Cosines.{by_turn_z, cos_z}

-- ---- cosines

by_four : (P : ℕ → Type 0) → P 0 → P 1 → P 2 → P 3 → (k : ℕ) → k < 4 → P k
by_four P a b c d zero h = a
by_four P a b c d (suc zero) h = b
by_four P a b c d (suc (suc zero)) h = c
by_four P a b c d (suc (suc (suc zero))) h = d
by_four P a b c d (suc (suc (suc (suc k)))) h = absurd (omega arith)

abbrev Same : ℕ → ℕ → Type 0
Same k x = cos_z (2 * k + 0) (7 - x) ≡ cos_z (2 * k + 0) x

abbrev Opposite : ℕ → ℕ → Type 0
Opposite k x = cos_z (2 * k + 1) (7 - x) ≡ neg_ℤ (cos_z (2 * k + 1) x)

pub cosine-same : (k : ℕ) → k < 4 → (x : ℕ) → x < 4 → Same k x
unfolding by_turn_z
cosine-same =
    by_four (λ (k : ℕ). (x : ℕ) → x < 4 → Same k x) (by_four (Same 0) refl refl refl refl) (by_four (Same 1) refl refl refl refl) (by_four (Same 2) refl refl refl refl) (by_four (Same 3) refl refl refl refl)

pub cosine_opposite : (k : ℕ) → k < 4 → (x : ℕ) → x < 4 → Opposite k x
unfolding by_turn_z
cosine_opposite =
    by_four (λ (k : ℕ). (x : ℕ) → x < 4 → Opposite k x) (by_four (Opposite 0) refl refl refl refl) (by_four (Opposite 1) refl refl refl refl) (by_four (Opposite 2) refl refl refl refl) (by_four (Opposite 3) refl refl refl refl)

-- ---- sums

pub sum_ext : (t s : ℕ → ℤ) (n : ℕ) → ((i : ℕ) → i < n → t i ≡ s i) → series_z t n ≡ series_z s n
unfolding series_z
sum_ext t s zero h = refl
sum_ext t s (suc n) h = ap (λ (a : ℤ). a +ℤ t n) (sum_ext t s n (λ i l. h i (le_trans l (le-suc n)))) ∙ ap (λ (b : ℤ). series_z s n +ℤ b) (h n (le_refl (suc n)))

neg-plus : (a b : ℤ) → neg_ℤ a +ℤ neg_ℤ b ≡ neg_ℤ (a +ℤ b)
neg-plus a b = omega (zarith, add_is (neg_ℤ a) (neg_ℤ b), add_is a b, neg-up a, neg-dn a, neg-up b, neg-dn b, neg-up (a +ℤ b), neg-dn (a +ℤ b))

sum-neg : (t : ℕ → ℤ) (n : ℕ) → series_z (λ (i : ℕ). neg_ℤ (t i)) n ≡ neg_ℤ (series_z t n)
unfolding series_z
sum-neg t zero = refl
sum-neg t (suc n) = ap (λ (a : ℤ). a +ℤ neg_ℤ (t n)) (sum-neg t n) ∙ neg-plus (series_z t n) (t n)

regrouped : (o a b c d e f g h : ℤ) → o ≡ pos 0 → o +ℤ a +ℤ b +ℤ c +ℤ d +ℤ e +ℤ f +ℤ g +ℤ h ≡ (o +ℤ a +ℤ c +ℤ e +ℤ g) +ℤ (o +ℤ b +ℤ d +ℤ f +ℤ h)
regrouped o a b c d e f g h z =
    let l1 = o +ℤ a in
    let l2 = l1 +ℤ b in
    let l3 = l2 +ℤ c in
    let l4 = l3 +ℤ d in
    let l5 = l4 +ℤ e in
    let l6 = l5 +ℤ f in
    let l7 = l6 +ℤ g in
    let p2 = l1 +ℤ c in
    let p3 = p2 +ℤ e in
    let p4 = p3 +ℤ g in
    let q1 = o +ℤ b in
    let q2 = q1 +ℤ d in
    let q3 = q2 +ℤ f in
    let q4 = q3 +ℤ h in
    omega (zarith, add_is o a, add_is l1 b, add_is l2 c, add_is l3 d, add_is l4 e, add_is l5 f, add_is l6 g, add_is l7 h, add_is l1 c, add_is p2 e, add_is p3 g, add_is o b, add_is q1 d, add_is q2 f, add_is q3 h, add_is p4 q4, z)

-- even places, then odd places
pub sum-apart : (t : ℕ → ℤ) → series_z t 8 ≡ series_z (λ (k : ℕ). t (2 * k + 0)) 4 +ℤ series_z (λ (k : ℕ). t (2 * k + 1)) 4
unfolding series_z
sum-apart t = regrouped (pos 0) (t 0) (t 1) (t 2) (t 3) (t 4) (t 5) (t 6) (t 7) refl

-- the same where the terms are factors times the cosines, at x below 4 and at 7 - x
module _ (a : ℕ → ℤ) where
  abbrev pub part : ℕ → ℕ → ℤ
  part p x = series_z (λ (k : ℕ). a (2 * k + p) *ℤ cos_z (2 * k + p) x) 4

  pub low_sum : (x : ℕ) → series_z (λ (u : ℕ). a u *ℤ cos_z u x) 8 ≡ part 0 x +ℤ part 1 x
  low_sum x = sum-apart (λ (u : ℕ). a u *ℤ cos_z u x)

  times_neg : (c k : ℤ) → c *ℤ neg_ℤ k ≡ neg_ℤ (c *ℤ k)
  times_neg c k = *ℤ_comm c (neg_ℤ k) ∙ negℤ-*ℤ k c ∙ ap neg_ℤ (*ℤ_comm k c)

  pub high_sum : (x : ℕ) → x < 4 → series_z (λ (u : ℕ). a u *ℤ cos_z u (7 - x)) 8 ≡ part 0 x +ℤ neg_ℤ (part 1 x)
  high_sum x h =
      low_sum (7 - x)
      ∙ ap (λ (z : ℤ). z +ℤ part 1 (7 - x)) (sum_ext (λ (k : ℕ). a (2 * k + 0) *ℤ cos_z (2 * k + 0) (7 - x)) (λ (k : ℕ). a (2 * k + 0) *ℤ cos_z (2 * k + 0) x) 4 (λ k l. ap (λ (z : ℤ). a (2 * k + 0) *ℤ z) (cosine-same k l x h)))
      ∙ ap (λ (z : ℤ). part 0 x +ℤ z)
      (sum_ext (λ (k : ℕ). a (2 * k + 1) *ℤ cos_z (2 * k + 1) (7 - x)) (λ (k : ℕ). neg_ℤ (a (2 * k + 1) *ℤ cos_z (2 * k + 1) x)) 4 (λ k l. ap (λ (z : ℤ). a (2 * k + 1) *ℤ z) (cosine_opposite k l x h) ∙ times_neg (a (2 * k + 1)) (cos_z (2 * k + 1) x))
      ∙ sum-neg (λ (k : ℕ). a (2 * k + 1) *ℤ cos_z (2 * k + 1) x) 4)
