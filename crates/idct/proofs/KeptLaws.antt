-- The rows that are kept: their terms added up are the sums of all rows, since a row of zeros changes no sum. Assumes nothing.
use mathlib.Core.Bool.{true}
use mathlib.Core.List.{List, []}
use mathlib.Core.Path.{◌≡◌, refl, sym, ap, ◌∙◌, subst}
use mathlib.Core.Logic.{⊎_elim}
use Prim.Native.Nat.{ℕ, ◌+◌, ◌<◌}
use native.Mathlib.Nat.{eq-or-lt_of_le}
use native.Mathlib.Numerals.{add-one}
use native.Mathlib.Omega.{arith}
use lib.Dec.{T}
use lib.Ieee.{Float, nan, binary64, add, mul, of_bits}
use lib.IntN.{ℤ, nat_abs, pos}
use lib.ListN.{get_or, length, length-set, set}
use lib.Seq.{get_or-set_other, get_or-set_same}
use borrow.Author.Tests.{eqb-true}
use Rattle.numbers.proofs.Every.{every_get, every_in}
use Rattle.numbers.proofs.Fill.{block-eq, build-eq, get_or-build}
use Rattle.numbers.proofs.Magnitudes.{zero_of_abs}
use Rattle.numbers.specs.Every.{every}
use Rattle.numbers.specs.Grid.{block, build}
use Rattle.numbers.specs.Limit.{clamp_z}
use Rattle.ranges.specs.Range.{within}
use Rattle.f64_error.specs.Series.{half, series_f}
use Rattle.rounding.specs.Rounding.{whole_of}
use Rattle.rounding.specs.Near.{Roundable}
use Rattle.rounding.specs.declared.HalfIntegerRounding.{HalfIntegerRounding}
use Rattle.rounding.proofs.Literals.{zero_bits}
use Rattle.cosines.specs.Cosines.{c_f, cos_f}
use Rattle.exact_transform.specs.Exact.{Modest}
use Rattle.exact_transform.specs.EvenOdd.{cell_f, is_zero, sum_of_kept}
use Rattle.exact_transform.specs.Transform.{computed, whole}
use Rattle.exact_transform.proofs.Bounds.{bounded}
use Rattle.idct.specs.ShortWays.{Kept, half_of_kept, row_at, row_terms, samples_in, sum_of_rows}
use Rattle.idct.proofs.Blocks.{cell_f-block, row-skipped, series_ext}

-- a table of the cosines, at a place
pub cosine_at : (table : List (List Float)) (v y : ℕ) → table ≡ block cos_f → v < 8 → y < 8 → cell_f table v y ≡ cos_f v y
cosine_at table v y e p q = ap (λ (t : List (List Float)). cell_f t v y) e ∙ cell_f-block cos_f v y p q

-- ---- the first pass

-- a row of zeros is within limits that zero is within
pub zeros_within : (lo hi : ℤ) (row : List ℤ) → within lo hi (pos 0) ≡ true → every is_zero row ≡ true → every (within lo hi) row ≡ true
zeros_within lo hi row w z =
    every_in (within lo hi) (pos 0) row
    (λ (i : ℕ) (h : i < length row). ap (within lo hi) (zero_of_abs (get_or row i (pos 0)) (eqb-true (nat_abs (get_or row i (pos 0))) 0 (every_get is_zero (pos 0) refl row z i))) ∙ w)

module _ (l : List (List ℤ)) where
  pub kept-none : (terms : List (List Float)) (which : List ℕ) → length terms ≡ 8 → length which ≡ 8 → Kept l 0 terms which 0
  unfolding series_f
  kept-none terms which a b = record { few = omega arith; long = a; wide = b; below = λ j h. absurd (omega arith); sums = λ y x p q. refl }

  -- a row of zeros is left out
  pub kept_skip : (v : ℕ) (terms : List (List Float)) (which : List ℕ) (n : ℕ) → T (every is_zero (get_or l v [])) → Kept l v terms which n → Kept l (v + 1) terms which n
  kept_skip v terms which n t k =
      record {
        few = omega (arith, k.few);
        long = k.long;
        wide = k.wide;
        below = λ j h. let b = k.below j h in omega arith;
        sums = λ y x p q. k.sums y x p q ∙ row-skipped l v y x t;
      }

  -- another is kept
  module _ (v : ℕ) (terms : List (List Float)) (which : List ℕ) (n : ℕ) (row : List Float) (e : row ≡ row_terms (get_or l v []) v) (h : v < 8) (k : Kept l v terms which n) where
    abbrev terms' : List (List Float)
    terms' = set terms n row

    abbrev which' : List ℕ
    which' = set which n v

    abbrev before : ℕ → ℕ → ℕ → Float
    before y x j = mul binary64 (cell_f terms j x) (cos_f (get_or which j 0) y)

    abbrev after : ℕ → ℕ → ℕ → Float
    after y x j = mul binary64 (cell_f terms' j x) (cos_f (get_or which' j 0) y)

    last-place : get_or which' n 0 ≡ v
    last-place = get_or-set_same which n v 0 (omega (arith, k.few, k.wide))

    last_terms : (x : ℕ) → x < 8 → cell_f terms' n x ≡ mul binary64 (c_f v) (row_at l v x)
    last_terms x q =
        ap (λ (r : List Float). get_or r x nan) (get_or-set_same terms n row [] (omega (arith, k.few, k.long)) ∙ e)
        ∙ get_or-build 8 (λ (x : ℕ). mul binary64 (c_f v) (row_at l v x)) x nan q

    others : (y x j : ℕ) → j < n → after y x j ≡ before y x j
    others y x j i =
        ap (λ (r : List Float). mul binary64 (get_or r x nan) (cos_f (get_or which' j 0) y)) (get_or-set_other terms n j row [] (λ (z : j ≡ n). omega arith))
        ∙ ap (λ (w : ℕ). mul binary64 (cell_f terms j x) (cos_f w y)) (get_or-set_other which n j v 0 (λ (z : j ≡ n). omega arith))

    sums-more : (y x : ℕ) → y < 8 → x < 8 → sum_of_kept terms' which' (n + 1) y x ≡ sum_of_rows l (v + 1) y x
    unfolding series_f
    sums-more y x p q =
        ap (λ (m : ℕ). sum_of_kept terms' which' m y x) (add-one n)
        ∙ ap (λ (s : Float). add binary64 s (after y x n)) (series_ext (after y x) (before y x) n (others y x) ∙ k.sums y x p q)
        ∙ ap (λ (s : Float). add binary64 (sum_of_rows l v y x) (mul binary64 s (cos_f (get_or which' n 0) y))) (last_terms x q)
        ∙ ap (λ (w : ℕ). add binary64 (sum_of_rows l v y x) (mul binary64 (mul binary64 (c_f v) (row_at l v x)) (cos_f w y))) last-place
        ∙ ap (λ (m : ℕ). sum_of_rows l m y x) (sym (add-one v))

    places-below : (j : ℕ) → j < n + 1 → get_or which' j 0 < v + 1
    places-below j i =
        ⊎_elim
        (λ (z : j ≡ n). rw (z, last-place) (omega arith))
        (λ (z : j < n). let b = k.below j z in rw (get_or-set_other which n j v 0 (λ (w : j ≡ n). omega arith)) (omega arith))
        (eq-or-lt_of_le (omega arith))

    pub kept_more : Kept l (v + 1) terms' which' (n + 1)
    kept_more =
        record {
          few = omega (arith, k.few);
          long = length-set terms n row ∙ k.long;
          wide = length-set which n v ∙ k.wide;
          below = places-below;
          sums = sums-more;
        }

  pub kept_same : (v : ℕ) (terms terms' : List (List Float)) (which which' : List ℕ) (n n' : ℕ) → terms ≡ terms' → which ≡ which' → n ≡ n' → Kept l v terms' which' n' → Kept l v terms which n
  kept_same v terms terms' which which' n n' a b c k =
      subst (λ (t : List (List Float)). Kept l v t which n) (sym a) (subst (λ (w : List ℕ). Kept l v terms' w n) (sym b) (subst (Kept l v terms' which') (sym c) k))

-- ---- the second pass

module _ (terms : List (List Float)) (which : List ℕ) where
  pub sums_none : (y : ℕ) → build 8 (λ (x : ℕ). of_bits binary64 0) ≡ build 8 (sum_of_kept terms which 0 y)
  unfolding series_f
  sums_none y = build-eq 8 (λ (x : ℕ). of_bits binary64 0) (sum_of_kept terms which 0 y) (λ (x : ℕ) (q : x < 8). zero_bits)

  -- the terms of one more row, times the cosine there
  pub sums-one-more : (j y : ℕ) (sums more : List Float) (c : Float) → sums ≡ build 8 (sum_of_kept terms which j y) → c ≡ cos_f (get_or which j 0) y
      → more ≡ build 8 (λ (x : ℕ). add binary64 (get_or sums x nan) (mul binary64 (cell_f terms j x) c)) → more ≡ build 8 (sum_of_kept terms which (j + 1) y)
  unfolding series_f
  sums-one-more j y sums more c a b e =
      e
      ∙ build-eq 8 (λ (x : ℕ). add binary64 (get_or sums x nan) (mul binary64 (cell_f terms j x) c)) (sum_of_kept terms which (j + 1) y)
      (λ (x : ℕ) (q : x < 8).
      ap (λ (s : Float). add binary64 s (mul binary64 (cell_f terms j x) c)) (ap (λ (s : List Float). get_or s x nan) a ∙ get_or-build 8 (sum_of_kept terms which j y) x nan q)
      ∙ ap (λ (s : Float). add binary64 (sum_of_kept terms which j y x) (mul binary64 (cell_f terms j x) s)) b
      ∙ ap (λ (m : ℕ). sum_of_kept terms which m y x) (sym (add-one j)))

-- ---- half of a whole sum is the transform

module _ (l : List (List ℤ)) (terms : List (List Float)) (which : List ℕ) (n : ℕ) (k : Kept l 8 terms which n) where
  pub halves_are : (y x : ℕ) → y < 8 → x < 8 → half_of_kept terms which n y x ≡ computed l y x
  halves_are y x p q = ap (mul binary64 half) (k.sums y x p q)

  pub halves_bounded : Modest l → (y x : ℕ) → y < 8 → x < 8 → Roundable (half_of_kept terms which n y x)
  halves_bounded m y x p q = subst Roundable (sym (halves_are y x p q)) (bounded l m y x p q)

  -- the samples by the rule
  pub ruled_are : (m : HalfIntegerRounding) (lo hi low top : ℤ) (out : List (List ℤ)) → lo ≡ low → hi ≡ top → out ≡ block (λ (y x : ℕ). clamp_z (whole_of m (half_of_kept terms which n y x)) lo hi) → out ≡ samples_in m low top l
  unfolding whole
  ruled_are m lo hi low top out g h e =
      e
      ∙ block-eq (λ (y x : ℕ). clamp_z (whole_of m (half_of_kept terms which n y x)) lo hi) (λ (y x : ℕ). clamp_z (whole_of m (computed l y x)) lo hi)
      (λ (y x : ℕ) (p : y < 8) (q : x < 8). ap (λ (z : Float). clamp_z (whole_of m z) lo hi) (halves_are y x p q))
      ∙ (λ i. samples_in m (g i) (h i) l)
