-- Where two blocks of values differ, each pair of whole numbers differs by a quarter of the whole change, and 1 + 1 / 2 ^ 23, at most. Assumes nothing.
use mathlib.Core.Bool.{true}
use mathlib.Core.List.{List}
use mathlib.Core.Logic.{inl, inr}
use mathlib.Core.Path.{◌≡◌, sym, ap, ◌∙◌, subst}
use Prim.Native.Nat.{ℕ, ◌+◌, ◌*◌, ◌/◌, ◌^◌, ◌≤◌, ◌<◌}
use native.Mathlib.Nat.{le_of_eq, le_of_mul-le-mul_right, le_refl, le_trans}
use native.Mathlib.Omega.{arith}
use lib.Dec.{lit<}
use lib.IntN.{ℤ, pos, nat_abs, ◌-ℤ◌, ◌*ℤ◌}
use Rattle.numbers.proofs.Integers.{*ℤ--ℤ, abs_is, diff_is, halves}
use Rattle.numbers.proofs.Magnitudes.{abs-mul, abs-mul-le}
use Rattle.numbers.specs.Grid.{cell}
use Rattle.ranges.specs.Range.{depth_fine}
use Rattle.f64_error.specs.Series.{series_z}
use Rattle.exact_transform.proofs.Bounds.{whole-within}
use Rattle.idct.proofs.Refusals.{modest}
use Rattle.cosines.proofs.Tables.{c_const, cos_const}
use Rattle.cosines.specs.Cosines.{c_z, cos_z}
use Rattle.exact_transform.specs.Exact.{exact}
use Rattle.idct.specs.Limits.{values_fine}
use Rattle.exact_transform.specs.Transform.{whole}
use Rattle.rounding.specs.declared.HalfIntegerRounding.{HalfIntegerRounding}
use Rattle.idct_laws.specs.Changes.{series_n, changed, Pushed, OnePlace}
use Rattle.idct_laws.proofs.Distances.{abs_swap, sub_right, triangle}
use Rattle.idct_laws.proofs.Sums.{none, one_only, sums_apart}

-- ---- one term of the double sum

term_apart : (c d f g p q : ℤ) → c *ℤ d *ℤ f *ℤ p *ℤ q -ℤ c *ℤ d *ℤ g *ℤ p *ℤ q ≡ c *ℤ d *ℤ (f -ℤ g) *ℤ p *ℤ q
term_apart c d f g p q =
    sub_right (c *ℤ d *ℤ f *ℤ p) (c *ℤ d *ℤ g *ℤ p) q
    ∙ ap (λ (z : ℤ). z *ℤ q) (sub_right (c *ℤ d *ℤ f) (c *ℤ d *ℤ g) p ∙ ap (λ (z : ℤ). z *ℤ p) (sym (*ℤ--ℤ (c *ℤ d) f g)))

-- four factors of at most P each
term_size : (c d f p q : ℤ) (P : ℕ) → nat_abs c ≤ P → nat_abs d ≤ P → nat_abs p ≤ P → nat_abs q ≤ P → nat_abs (c *ℤ d *ℤ f *ℤ p *ℤ q) ≤ nat_abs f * (P * P * P * P)
term_size c d f p q P hc hd hp hq =
    let F = nat_abs f in
    le_trans
    (abs-mul-le (c *ℤ d *ℤ f *ℤ p) q (P * P * F * P) P (abs-mul-le (c *ℤ d *ℤ f) p (P * P * F) P (abs-mul-le (c *ℤ d) f (P * P) F (abs-mul-le c d P P hc hd) (le_refl F)) hp) hq)
    (le_of_eq (turned F P))
  where
    turned : (f P : ℕ) → P * P * f * P * P ≡ f * (P * P * P * P)
    turned f P = omega arith

pub c-size : (u : ℕ) → nat_abs (c_z u) ≤ 2 ^ 55
c-size u = le_trans (le_of_eq (abs_is (c_z u))) (c_const u).small

pub cos-size : (u x : ℕ) → nat_abs (cos_z u x) ≤ 2 ^ 55
cos-size u x = le_trans (le_of_eq (abs_is (cos_z u x))) (cos_const u x).small

-- ---- the exact transforms

module _ (a b : List (List ℤ)) where
  abbrev change : ℕ → ℕ → ℕ
  change v u = nat_abs (cell a v u -ℤ cell b v u)

  module _ (y x : ℕ) where
    abbrev term : List (List ℤ) → ℕ → ℕ → ℤ
    term l v u = c_z u *ℤ c_z v *ℤ cell l v u *ℤ cos_z u x *ℤ cos_z v y

    one_term : (v u : ℕ) → nat_abs (term a v u -ℤ term b v u) ≤ change v u * 2 ^ 220
    one_term v u =
        le_trans (le_of_eq (ap nat_abs (term_apart (c_z u) (c_z v) (cell a v u) (cell b v u) (cos_z u x) (cos_z v y))))
        (term_size (c_z u) (c_z v) (cell a v u -ℤ cell b v u) (cos_z u x) (cos_z v y) (2 ^ 55) (c-size u) (c-size v) (cos-size u x) (cos-size v y))

    -- a quarter of the change: exact is over 2 ^ 222
    exact-apart : nat_abs (exact a y x -ℤ exact b y x) ≤ changed a b * 2 ^ 220
    exact-apart =
        sums_apart (λ v. series_z (term a v) 8) (λ v. series_z (term b v) 8) (λ v. series_n (change v) 8) (2 ^ 220) 8
        (λ v l. sums_apart (term a v) (term b v) (change v) (2 ^ 220) 8 (λ u k. one_term v u))

  -- where one place alone differs, its change is the whole
  pub changed-one : (v u : ℕ) → v < 8 → u < 8 → OnePlace a b v u → changed a b ≡ change v u
  changed-one v u lv lu h =
      one_only (λ i. series_n (change i) 8) 8 v lv (λ i l n. none (change i) 8 (λ j k. same (cell a i j) (cell b i j) (h i j l k (inl n))))
      ∙ one_only (change v) 8 u lu (λ j k n. same (cell a v j) (cell b v j) (h v j lv k (inr n)))
    where
      same : (p q : ℤ) → p ≡ q → nat_abs (p -ℤ q) ≡ 0
      same p q e = ap (λ (z : ℤ). nat_abs (z -ℤ q)) e ∙ omega (arith, halves (q -ℤ q), diff_is q q)

-- ---- the whole numbers

-- p is near z, q near w, and z near w
together : (p q z w : ℤ) (K T D : ℕ) → nat_abs (p *ℤ pos K -ℤ z) ≤ T → nat_abs (q *ℤ pos K -ℤ w) ≤ T → nat_abs (z -ℤ w) ≤ D
    → nat_abs (p -ℤ q) * K ≤ T + (D + T)
together p q z w K T D a b c =
    le_trans (le_of_eq (sym (ap nat_abs (sub_right p q (pos K)) ∙ abs-mul (p -ℤ q) (pos K))))
    (line (nat_abs (p *ℤ pos K -ℤ q *ℤ pos K)) (nat_abs (p *ℤ pos K -ℤ z)) (nat_abs (z -ℤ q *ℤ pos K)) (nat_abs (z -ℤ w)) (nat_abs (w -ℤ q *ℤ pos K)) (nat_abs (q *ℤ pos K -ℤ w))
    (triangle (p *ℤ pos K) z (q *ℤ pos K)) (triangle z w (q *ℤ pos K)) (abs_swap w (q *ℤ pos K)) a b c)
  where
    line : (x e f g h i : ℕ) → x ≤ e + f → f ≤ g + h → h ≡ i → e ≤ T → i ≤ T → g ≤ D → x ≤ T + (D + T)
    line x e f g h i r s t u v w = omega arith

-- from units of 2 ^ -222 to those of `Pushed`; X is 2 ^ 196
reduce : (d X : ℕ) (p q : ℤ) → 0 < X → nat_abs (p -ℤ q) * (2 ^ 26 * X) ≤ 2 ^ 25 * X + 1 * X + (d * (2 ^ 24 * X) + (2 ^ 25 * X + 1 * X)) → Pushed d p q
reduce d X p q s h = le_of_mul-le-mul_right (omega arith) s

-- at every depth, under either rule, and under one rule for each block
module _ (depth : ℕ) (a b : List (List ℤ)) (fine : depth_fine depth ≡ true) (taken-a : values_fine depth a ≡ true) (taken-b : values_fine depth b ≡ true) where
  module _ (m n : HalfIntegerRounding) (y x : ℕ) (ly : y < 8) (lx : x < 8) where
    pub push : Pushed (changed a b) (whole m a y x) (whole n b y x)
    push =
        reduce (changed a b) (2 ^ 196) (whole m a y x) (whole n b y x) (lit< tt)
        (together (whole m a y x) (whole n b y x) (exact a y x) (exact b y x) (2 ^ 222) (2 ^ 221 + 2 ^ 196) (changed a b * 2 ^ 220)
        (whole-within a (modest depth a fine taken-a) y x ly lx m) (whole-within b (modest depth b fine taken-b) y x ly lx n) (exact-apart a b y x))

    -- where one place alone differs
    pub push_one : (v u : ℕ) → v < 8 → u < 8 → OnePlace a b v u → Pushed (nat_abs (cell a v u -ℤ cell b v u)) (whole m a y x) (whole n b y x)
    push_one v u lv lu h = subst (λ (d : ℕ). Pushed d (whole m a y x) (whole n b y x)) (changed-one a b v u lv lu h) push

-- ---- as whole numbers differ by a whole number, at most d / 4, cut, plus 1

pub pushed_whole : (d : ℕ) (p q : ℤ) → Pushed d p q → nat_abs (p -ℤ q) ≤ d / 4 + 1
pushed_whole d p q h = omega arith
