-- How near the values by even and odd halves are to the exact transform, so that a near number that is well within a half is the rule's. Assumes nothing.
use mathlib.Core.List.{List, []}
use mathlib.Core.Logic.{⊎_elim}
use mathlib.Core.Path.{◌≡◌, refl, sym, ap, ◌∙◌, subst}
use Prim.Native.Nat.{ℕ, zero, suc, ◌+◌, ◌-◌, ◌*◌, ◌^◌, ◌≤◌, ◌<◌}
use native.Mathlib.Nat.{le_of_eq, le_refl, le-suc, le_trans, lt_of_le_of_lt, mul-le-mul_right, mul-lt-mul_of_pos_right}
use native.Mathlib.Omega.{arith}
use lib.Dec.{T, eqb→eq, lit<, lit≤}
use lib.Ieee.{Float, nan, binary64, mul, neg, of_int, sub}
use lib.IntN.{ℤ, pos, nat_abs, neg_ℤ, ◌+ℤ◌, ◌*ℤ◌, *ℤ-zero, zero-*ℤ}
use lib.ListN.{get_or}
use Rattle.numbers.proofs.Every.{every_at}
use Rattle.numbers.proofs.Fill.{get_or-build, lt-or-le}
use Rattle.numbers.proofs.Integers.{abs_is, neg-dn, neg-up, zarith}
use Rattle.numbers.proofs.Magnitudes.{zero_of_abs}
use Rattle.numbers.specs.Every.{every}
use Rattle.numbers.specs.Grid.{cell}
use Rattle.f64_error.proofs.Approx.{Approx}
use Rattle.f64_error.proofs.Binary64.{below, grain_pos, is_unique, neg_is, off, one-is}
use Rattle.f64_error.proofs.FromIntegers.{approx_int}
use Rattle.f64_error.proofs.Grains.{grain, mesh}
use Rattle.f64_error.proofs.Nearness.{approx_add, approx_mul, approx_weaken}
use Rattle.f64_error.proofs.Passes.{approx_sum, approx_term, nested}
use Rattle.f64_error.specs.Series.{series_z}
use Rattle.f64_error.specs.Units.{one}
use Rattle.rounding.specs.Near.{Roundable, Sure, near_z}
use Rattle.eights.specs.Eights.{both_at}
use Rattle.cosines.specs.Cosines.{c_f, c_z, cos_f, cos_z}
use Rattle.exact_transform.specs.EvenOdd.{Half, cell_f, half_sum, is_zero, paired_at, sum_of_kept, value_of_both}
use Rattle.exact_transform.specs.Exact.{Modest, exact}
use Rattle.exact_transform.specs.Transform.{computed, whole}
use Rattle.rounding.specs.declared.HalfIntegerRounding.{HalfIntegerRounding}
use Rattle.exact_transform.proofs.Bounds.{bounded, transform_near}
use Rattle.exact_transform.proofs.Both.{both_high, both_low}
use Rattle.exact_transform.proofs.EvenOddSums.{high_sum, low_sum, part}
use Rattle.exact_transform.proofs.Quarters.{approx_factor}
use Rattle.rounding.proofs.Settled.{settled-beside}
use Rattle.cosines.proofs.Tables.{c_const, cos_const}

-- ---- the sum and the difference of two halves

approx_neg : (x : Float) (S : ℕ) (a : ℤ) (e b : ℕ) → Approx x S a e b → Approx (neg x) S (neg_ℤ a) e b
approx_neg x S a e b p =
    record {
      v = neg_ℤ p.v;
      is = neg_is x p.v p.is;
      over = rw (neg-up p.v, neg-dn p.v, neg-up a, neg-dn a) p.under;
      under = rw (neg-up p.v, neg-dn p.v, neg-up a, neg-dn a) p.over;
      size = omega (arith, p.size, neg-up p.v, neg-dn p.v);
    }

approx_sub : (j : ℕ) (x y : Float) (S : ℕ) (a b : ℤ) (d e m n : ℕ) → j ≤ 900 → Approx x S a d m → Approx y S b e n → m + n < below j → Approx (sub binary64 x y) S (a +ℤ neg_ℤ b) (d + e + off j) (m + n + off j)
unfolding sub
approx_sub j x y S a b d e m n J p q s = approx_add j x (neg y) S a (neg_ℤ b) d e m n J p (approx_neg y S b e n q) s

module _ (j S e b : ℕ) (J : j ≤ 900) (E O : ℕ → Float) (A B Z : ℕ → ℤ) (p : (i : ℕ) → i < 4 → Approx (E i) S (A i) e b) (q : (i : ℕ) → i < 4 → Approx (O i) S (B i) e b)
    (low : (i : ℕ) → i < 4 → Z i ≡ A i +ℤ B i) (high : (i : ℕ) → i < 4 → Z (7 - i) ≡ A i +ℤ neg_ℤ (B i)) (s : b + b + off j < below j)
  where
    both_near : (i : ℕ) → i < 8 → Approx (both_at E O i) S (Z i) (e + e + off j) (b + b + off j)
    both_near i h =
        ⊎_elim
        (λ (l : i < 4).
        subst (λ (z : ℤ). Approx (both_at E O i) S z (e + e + off j) (b + b + off j)) (sym (low i l))
        (subst (λ (x : Float). Approx x S (A i +ℤ B i) (e + e + off j) (b + b + off j)) (both_low E O i l) (approx_add j (E i) (O i) S (A i) (B i) e e b b J (p i l) (q i l) (omega arith))))
        (λ (l : 4 ≤ i).
        let k : 7 - (7 - i) ≡ i = omega arith in
        let m : 7 - i < 4 = omega arith in
        subst (λ (n : ℕ). Approx (both_at E O n) S (Z n) (e + e + off j) (b + b + off j)) k
        (subst (λ (z : ℤ). Approx (both_at E O (7 - (7 - i))) S z (e + e + off j) (b + b + off j)) (sym (high (7 - i) m))
        (subst (λ (x : Float). Approx x S (A (7 - i) +ℤ neg_ℤ (B (7 - i))) (e + e + off j) (b + b + off j)) (both_high E O (7 - i) m)
        (approx_sub j (E (7 - i)) (O (7 - i)) S (A (7 - i)) (B (7 - i)) e e b b J (p (7 - i) m) (q (7 - i) m) (omega arith)))))
        (lt-or-le i 4)

-- ---- errors and sizes, in grains: values, half sums, rows, terms, kept sums, values again

abbrev P : ℕ
P = 2 ^ 55

abbrev size0 : ℕ
size0 = 2 ^ 75 * grain

abbrev error1 : ℕ
error1 = 4 * (0 + 2 * off 16 + off 19)

abbrev size1 : ℕ
size1 = 4 * (size0 + 2 * off 16 + off 19)

-- a quarter of those of the sum of two half sums
abbrev error2 : ℕ
error2 = 2 * (2 * off 16 + off 19) + off 19

abbrev size2 : ℕ
size2 = 2 * (size0 + 2 * off 16 + off 19) + off 19

abbrev error4 : ℕ
error4 = error2 + off 17 + off 17

abbrev size4 : ℕ
size4 = size2 + off 17 + off 17

abbrev error5 : ℕ
error5 = 4 * (error4 + off 19)

abbrev size5 : ℕ
size5 = 4 * (size4 + off 19)

abbrev error6 : ℕ
error6 = error5 + error5 + off 20

abbrev size6 : ℕ
size6 = size5 + size5 + off 20

-- 2 ^ -29
abbrev pub halves_error : ℕ
halves_error = 2 ^ 31 * grain

less : (x a b : ℕ) → x ≤ a * grain → a < b → x < b * grain
less x a b h k = lt_of_le_of_lt h (mul-lt-mul_of_pos_right k grain_pos)

fits0 : size0 + off 16 < below 16
fits0 = less (size0 + off 16) (2 ^ 75 + 2 ^ 30) (2 ^ 76) (omega arith) (lit< tt)

fits1 : 4 * (size0 + 2 * off 16 + off 19) < below 19
fits1 = less size1 (2 ^ 77 + 2 ^ 40) (2 ^ 79) (omega arith) (lit< tt)

fits2 : size1 + size1 + off 19 < below 19
fits2 = less (size1 + size1 + off 19) (2 ^ 78 + 2 ^ 40) (2 ^ 79) (omega arith) (lit< tt)

fits3 : size2 < below 17
fits3 = less size2 (2 ^ 76 + 2 ^ 40) (2 ^ 77) (omega arith) (lit< tt)

fits4 : size2 + off 17 < below 17
fits4 = less (size2 + off 17) (2 ^ 76 + 2 ^ 40) (2 ^ 77) (omega arith) (lit< tt)

fits5 : 4 * (size4 + off 19) < below 19
fits5 = less size5 (2 ^ 78 + 2 ^ 40) (2 ^ 79) (omega arith) (lit< tt)

fits6 : size5 + size5 + off 20 < below 20
fits6 = less (size5 + size5 + off 20) (2 ^ 79 + 2 ^ 40) (2 ^ 80) (omega arith) (lit< tt)

-- the scale of the values
scale-is : mesh * P * P * 4 * P * P ≡ one
unfolding mesh one
scale-is = refl

error_is : error6 ≤ halves_error
error_is = omega arith

size_is : size6 ≤ 1048576 * one
size_is = le_trans most (line one one-is)
  where
    most : size6 ≤ 2 ^ 80 * grain
    most = omega arith

    line : (o : ℕ) → o ≡ 2 ^ 60 * grain → 2 ^ 80 * grain ≤ 1048576 * o
    line o e = omega arith

size0_is : 32768 * one ≤ size0
size0_is = line one one-is
  where
    line : (o : ℕ) → o ≡ 2 ^ 60 * grain → 32768 * o ≤ size0
    line o e = omega arith

zero-sum : (t : ℕ → ℤ) (n : ℕ) → ((i : ℕ) → i < n → t i ≡ pos 0) → series_z t n ≡ pos 0
unfolding series_z
zero-sum t zero z = refl
zero-sum t (suc n) z = ap (λ (s : ℤ). s +ℤ t n) (zero-sum t n (λ i l. z i (le_trans l (le-suc n)))) ∙ ap (λ (s : ℤ). pos 0 +ℤ s) (z n (le_refl (suc n)))

module _ (l : List (List ℤ)) (modest : Modest l) where
  -- C(u) F(v, u), and a row of the exact transform
  abbrev factor : ℕ → ℕ → ℤ
  factor v u = c_z u *ℤ cell l v u

  abbrev row_z : ℕ → ℕ → ℤ
  row_z v x = series_z (λ (u : ℕ). factor v u *ℤ cos_z u x) 8

  -- ---- the first pass

  module _ (v : ℕ) (h : v < 8) where
    value_near : (u : ℕ) → u < 8 → Approx (of_int binary64 (cell l v u)) (mesh * P * P * 4 * P * P) (cell l v u) 0 size0
    value_near u i =
        subst (λ (S : ℕ). Approx (of_int binary64 (cell l v u)) S (cell l v u) 0 size0) (sym scale-is)
        (approx_weaken (of_int binary64 (cell l v u)) one (cell l v u) 0 (32768 * one) 0 size0 (omega arith) size0_is (approx_int (cell l v u) 32768 (modest v u h i) (lit≤ tt)))

    half-sum-near : (p : ℕ) → p < 2 → (x : ℕ) → Approx (half_sum (get_or l v []) p 4 x) (mesh * P * P * 4) (part (factor v) p x) error1 size1
    half-sum-near p q x =
        approx_sum 19 (mesh * P * P * 4) (0 + 2 * off 16) (size0 + 2 * off 16) (λ (k : ℕ). mul binary64 (mul binary64 (c_f (2 * k + p)) (of_int binary64 (cell l v (2 * k + p)))) (cos_f (2 * k + p) x))
        (λ (k : ℕ). factor v (2 * k + p) *ℤ cos_z (2 * k + p) x)
        4
        (omega arith)
        (λ (k : ℕ) (i : k < 4).
        approx_term 16 (c_f (2 * k + p)) (of_int binary64 (cell l v (2 * k + p))) (cos_f (2 * k + p) x) (mesh * P * P * 4) P (c_z (2 * k + p)) (cell l v (2 * k + p)) (cos_z (2 * k + p) x) 0 size0 (omega arith) (value_near (2 * k + p) (omega arith))
        (c_const (2 * k + p))
        (cos_const (2 * k + p) x)
        fits0)
        fits1

    row_near : (x : ℕ) → x < 8 → Approx (paired_at (get_or l v []) v x) (mesh * P) (c_z v *ℤ row_z v x) (error2 + off 17) (size2 + off 17)
    row_near x q =
        let sum = both_at (half_sum (get_or l v []) 0 4) (half_sum (get_or l v []) 1 4) x in
        approx_factor 17 sum (mesh * P) (row_z v x) error2 size2 v (omega arith)
        (approx_weaken sum (mesh * P * P * 4) (row_z v x) (error1 + error1 + off 19) (size1 + size1 + off 19) (4 * error2) (4 * size2) (omega arith) (omega arith)
        (both_near 19 (mesh * P * P * 4) error1 size1 (omega arith) (half_sum (get_or l v []) 0 4) (half_sum (get_or l v []) 1 4) (part (factor v) 0) (part (factor v) 1) (row_z v) (λ i m. half-sum-near 0 (omega arith) i) (λ i m. half-sum-near 1 (omega arith) i)
        (λ i m. low_sum (factor v) i)
        (λ i m. high_sum (factor v) i m)
        fits2
        x
        q))
        fits3

  -- ---- the second pass

  -- C(v) times row v, at x
  abbrev scaled_z : ℕ → ℕ → ℤ
  scaled_z x v = c_z v *ℤ row_z v x

  row-none : (v x : ℕ) → T (every is_zero (get_or l v [])) → row_z v x ≡ pos 0
  row-none v x t =
      zero-sum (λ (u : ℕ). factor v u *ℤ cos_z u x) 8
      (λ (u : ℕ) (i : u < 8).
      ap (λ (z : ℤ). c_z u *ℤ z *ℤ cos_z u x) (zero_of_abs (cell l v u) (eqb→eq (nat_abs (cell l v u)) 0 (every_at is_zero (pos 0) (get_or l v []) tt t u)))
      ∙ ap (λ (z : ℤ). z *ℤ cos_z u x) (*ℤ-zero (c_z u))
      ∙ zero-*ℤ (cos_z u x))

  module _ (p : ℕ) (terms : List (List Float)) (which : List ℕ) (n : ℕ) (h : Half p l 4 terms which n) where
    term_near : (y x j : ℕ) → x < 8 → j < n → Approx (mul binary64 (cell_f terms j x) (cos_f (get_or which j 0) y)) mesh (scaled_z x (get_or which j 0) *ℤ cos_z (get_or which j 0) y) error4 size4
    term_near y x j q i =
        approx_mul 17 (cell_f terms j x) (cos_f (get_or which j 0) y) mesh P (scaled_z x (get_or which j 0)) (cos_z (get_or which j 0) y) (error2 + off 17) (size2 + off 17) (omega arith)
        (subst (λ (z : Float). Approx z (mesh * P) (scaled_z x (get_or which j 0)) (error2 + off 17) (size2 + off 17))
        (sym (ap (λ (r : List Float). get_or r x nan) (h.rows j i) ∙ get_or-build 8 (paired_at (get_or l (get_or which j 0) []) (get_or which j 0)) x nan q))
        (row_near (get_or which j 0) (h.below j i) x q))
        (cos_const (get_or which j 0) y)
        fits4

    sum_near : (y x : ℕ) → x < 8 → Approx (sum_of_kept terms which n y x) mesh (part (scaled_z x) p y) error5 size5
    sum_near y x q =
        let few = h.few in
        let most : n * (size4 + off 19) ≤ 4 * (size4 + off 19) = mul-le-mul_right (size4 + off 19) few in
        subst (λ (z : ℤ). Approx (sum_of_kept terms which n y x) mesh z error5 size5)
        (h.sums (λ (v : ℕ). scaled_z x v *ℤ cos_z v y)
        (λ (v : ℕ) (t : T (every is_zero (get_or l v []))). ap (λ (z : ℤ). c_z v *ℤ z *ℤ cos_z v y) (row-none v x t) ∙ ap (λ (z : ℤ). z *ℤ cos_z v y) (*ℤ-zero (c_z v)) ∙ zero-*ℤ (cos_z v y)))
        (approx_weaken (sum_of_kept terms which n y x) mesh (series_z (λ (j : ℕ). scaled_z x (get_or which j 0) *ℤ cos_z (get_or which j 0) y) n) (n * (error4 + off 19)) (n * (size4 + off 19)) error5 size5
        (mul-le-mul_right (error4 + off 19) few)
        most
        (approx_sum 19 mesh error4 size4 (λ (j : ℕ). mul binary64 (cell_f terms j x) (cos_f (get_or which j 0) y)) (λ (j : ℕ). scaled_z x (get_or which j 0) *ℤ cos_z (get_or which j 0) y) n (omega arith) (λ j i. term_near y x j q i)
        (lt_of_le_of_lt most fits5)))

  module _ (evens : List (List Float)) (even : List ℕ) (m : ℕ) (odds : List (List Float)) (odd : List ℕ) (n : ℕ) (a : Half 0 l 4 evens even m) (b : Half 1 l 4 odds odd n) (y x : ℕ) (ly : y < 8) (lx : x < 8) where
    -- the value is within 2 ^ -29 of the exact one
    pub halves_near : Approx (value_of_both evens even m odds odd n y x) mesh (exact l y x) halves_error (1048576 * one)
    halves_near =
        approx_weaken (value_of_both evens even m odds odd n y x) mesh (exact l y x) error6 size6 halves_error (1048576 * one) error_is size_is
        (subst (λ (z : ℤ). Approx (value_of_both evens even m odds odd n y x) mesh z error6 size6) (nested c_z cos_z (cell l) y x)
        (both_near 20 mesh error5 size5 (omega arith) (λ (i : ℕ). sum_of_kept evens even m i x) (λ (i : ℕ). sum_of_kept odds odd n i x) (part (scaled_z x) 0) (part (scaled_z x) 1) (λ (i : ℕ). series_z (λ (v : ℕ). scaled_z x v *ℤ cos_z v i) 8)
        (λ i k. sum_near 0 evens even m a i x lx)
        (λ i k. sum_near 1 odds odd n b i x lx)
        (λ i k. low_sum (scaled_z x) i)
        (λ i k. high_sum (scaled_z x) i k)
        fits6
        y
        ly))

    pub both_bounded : Roundable (value_of_both evens even m odds odd n y x)
    both_bounded = record { v = halves_near.v; is = halves_near.is; size = le_trans (le_of_eq (abs_is halves_near.v)) halves_near.size }

    -- a near number well within a half is the whole number of the transform
    pub both_sure : (r : HalfIntegerRounding) → Sure (value_of_both evens even m odds odd n y x) → near_z (value_of_both evens even m odds odd n y x) ≡ whole r l y x
    unfolding whole
    both_sure r s =
        let c = transform_near l modest y x ly lx in
        let value = value_of_both evens even m odds odd n y x in
        let k = bounded l modest y x ly lx in
        let e = is_unique value both_bounded.v halves_near.v both_bounded.is halves_near.is in
        let g = is_unique (computed l y x) k.v c.v k.is c.is in
        sym (settled-beside value both_bounded (computed l y x) k (omega (zarith, e, g, c.over, c.under, halves_near.over, halves_near.under)) (omega (zarith, e, g, c.over, c.under, halves_near.over, halves_near.under)) s r)
