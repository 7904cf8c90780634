-- The even and the odd halves of a pass, term by term and row by row: the sums, the rows that are kept, and the rows that are done from both ends. Assumes nothing.
use mathlib.Core.Bool.{true}
use mathlib.Core.List.{List, []}
use mathlib.Core.Logic.{◌⊎◌, inl, inr, ⊎_elim}
use mathlib.Core.Path.{◌≡◌, refl, sym, ap, ◌∙◌, subst}
use Prim.Native.Nat.{ℕ, ◌+◌, ◌-◌, ◌*◌, ◌≤◌, ◌<◌}
use native.Mathlib.Nat.{eq-or-lt_of_le}
use native.Mathlib.Numerals.{add-one}
use native.Mathlib.Omega.{arith}
use lib.Dec.{T}
use lib.Ieee.{Float, nan, binary64, add, mul, of_bits, of_int, sub}
use lib.IntN.{ℤ, pos, ◌+ℤ◌}
use lib.ListN.{get_or, length, length-set, set}
use lib.Seq.{get_or-set_other, get_or-set_same}
use Rattle.numbers.proofs.Fill.{build-eq, get_or-build, is-build, lt-or-le}
use Rattle.numbers.proofs.Integers.{add_is, zarith}
use Rattle.numbers.specs.Every.{every}
use Rattle.numbers.specs.Grid.{build}
use Rattle.ranges.specs.Range.{within}
use Rattle.f64_error.specs.Series.{series_f, series_z}
use Rattle.rounding.proofs.Literals.{zero_bits}
use Rattle.cosines.specs.Cosines.{c_f, cos_f, half_table}
use Rattle.eights.specs.Eights.{both_at}
use Rattle.exact_transform.specs.EvenOdd.{Half, half_sum, paired_at, quarter, value_of_both, cell_f, is_zero, sum_of_kept}
use Rattle.exact_transform.proofs.Both.{both_eq, both_high, both_low}
use Rattle.exact_transform.proofs.EvenOddSums.{sum_ext}

-- ---- a table of the cosines below 4: a row of it, and a place

pub half-row : (table : List (List Float)) (u : ℕ) → table ≡ half_table → u < 8 → get_or table u [] ≡ build 4 (cos_f u)
half-row table u e p = ap (λ (t : List (List Float)). get_or t u []) e ∙ get_or-build 8 (λ (v : ℕ). build 4 (cos_f v)) u [] p

pub half_cosine_at : (table : List (List Float)) (u x : ℕ) → table ≡ half_table → u < 8 → x < 4 → cell_f table u x ≡ cos_f u x
half_cosine_at table u x e p q = ap (λ (r : List Float). get_or r x nan) (half-row table u e p) ∙ get_or-build 4 (cos_f u) x nan q

-- ---- the first pass: half of the terms of a row

module _ (row : List ℤ) (p : ℕ) where
  pub half-none : build 4 (λ (x : ℕ). of_bits binary64 0) ≡ build 4 (half_sum row p 0)
  unfolding series_f
  half-none = build-eq 4 (λ (x : ℕ). of_bits binary64 0) (half_sum row p 0) (λ (x : ℕ) (q : x < 4). zero_bits)

  pub half-more : (k : ℕ) (sums cosines more : List Float) (c : Float) (z : ℤ) → more ≡ build 4 (λ (x : ℕ). add binary64 (get_or sums x nan) (mul binary64 (mul binary64 c (of_int binary64 z)) (get_or cosines x nan))) → sums ≡ build 4 (half_sum row p k)
      → cosines ≡ build 4 (cos_f (2 * k + p)) → c ≡ c_f (2 * k + p) → z ≡ get_or row (2 * k + p) (pos 0) → more ≡ build 4 (half_sum row p (k + 1))
  unfolding series_f
  half-more k sums cosines more c z e a b d g =
      e
      ∙ build-eq 4 (λ (x : ℕ). add binary64 (get_or sums x nan) (mul binary64 (mul binary64 c (of_int binary64 z)) (get_or cosines x nan))) (half_sum row p (k + 1))
      (λ (x : ℕ) (h : x < 4).
      ap (λ (y : Float). add binary64 y (mul binary64 (mul binary64 c (of_int binary64 z)) (get_or cosines x nan))) (ap (λ (l : List Float). get_or l x nan) a ∙ get_or-build 4 (half_sum row p k) x nan h)
      ∙ ap (λ (y : Float). add binary64 (half_sum row p k x) (mul binary64 (mul binary64 c (of_int binary64 z)) y)) (ap (λ (l : List Float). get_or l x nan) b ∙ get_or-build 4 (cos_f (2 * k + p)) x nan h)
      ∙ ap (λ (y : Float). add binary64 (half_sum row p k x) (mul binary64 (mul binary64 y (of_int binary64 z)) (cos_f (2 * k + p) x))) d
      ∙ ap (λ (y : ℤ). add binary64 (half_sum row p k x) (mul binary64 (mul binary64 (c_f (2 * k + p)) (of_int binary64 y)) (cos_f (2 * k + p) x))) g
      ∙ ap (λ (n : ℕ). half_sum row p n x) (sym (add-one k)))

-- ---- both halves together

quarter-bits : of_bits binary64 4598175219545276416 ≡ quarter
unfolding of_bits
quarter-bits = refl

-- the terms of a row, as the program makes them
pub paired_terms : (row : List ℤ) (v : ℕ) (e o terms : List Float) (s : Float) → e ≡ build 4 (half_sum row 0 4) → o ≡ build 4 (half_sum row 1 4) → s ≡ c_f v
    → terms ≡ build 8 (λ (x : ℕ). mul binary64 (mul binary64 (of_bits binary64 4598175219545276416) s) (both_at (λ (i : ℕ). get_or e i nan) (λ (i : ℕ). get_or o i nan) x)) → terms ≡ build 8 (paired_at row v)
paired_terms row v e o terms s a b c d =
    d
    ∙ build-eq 8 (λ (x : ℕ). mul binary64 (mul binary64 (of_bits binary64 4598175219545276416) s) (both_at (λ (i : ℕ). get_or e i nan) (λ (i : ℕ). get_or o i nan) x)) (paired_at row v)
    (λ (x : ℕ) (q : x < 8).
    ap (λ (y : Float). mul binary64 (mul binary64 (of_bits binary64 4598175219545276416) s) y)
    (both_eq (λ (i : ℕ). get_or e i nan) (λ (i : ℕ). get_or o i nan) (half_sum row 0 4) (half_sum row 1 4) x q (λ (k : ℕ) (h : k < 4). ap (λ (l : List Float). get_or l k nan) a ∙ get_or-build 4 (half_sum row 0 4) k nan h)
    (λ (k : ℕ) (h : k < 4). ap (λ (l : List Float). get_or l k nan) b ∙ get_or-build 4 (half_sum row 1 4) k nan h))
    ∙ ap (λ (y : Float). mul binary64 (mul binary64 y s) (both_at (half_sum row 0 4) (half_sum row 1 4) x)) quarter-bits
    ∙ ap (λ (y : Float). mul binary64 (mul binary64 quarter y) (both_at (half_sum row 0 4) (half_sum row 1 4) x)) c)

-- ---- the second pass: a row and its mirror

module _ (evens : List (List Float)) (even : List ℕ) (m : ℕ) (odds : List (List Float)) (odd : List ℕ) (n : ℕ) where
  module _ (y : ℕ) (h : y < 4) (e o sums : List Float) (a : e ≡ build 8 (sum_of_kept evens even m y)) (b : o ≡ build 8 (sum_of_kept odds odd n y)) where
    left : (x : ℕ) → x < 8 → get_or e x nan ≡ sum_of_kept evens even m y x
    left x q = ap (λ (l : List Float). get_or l x nan) a ∙ get_or-build 8 (sum_of_kept evens even m y) x nan q

    right : (x : ℕ) → x < 8 → get_or o x nan ≡ sum_of_kept odds odd n y x
    right x q = ap (λ (l : List Float). get_or l x nan) b ∙ get_or-build 8 (sum_of_kept odds odd n y) x nan q

    pub plus-is : sums ≡ build 8 (λ (x : ℕ). add binary64 (get_or e x nan) (get_or o x nan)) → sums ≡ build 8 (value_of_both evens even m odds odd n y)
    plus-is c =
        c
        ∙ build-eq 8 (λ (x : ℕ). add binary64 (get_or e x nan) (get_or o x nan)) (value_of_both evens even m odds odd n y)
        (λ (x : ℕ) (q : x < 8).
        ap (λ (z : Float). add binary64 z (get_or o x nan)) (left x q)
        ∙ ap (λ (z : Float). add binary64 (sum_of_kept evens even m y x) z) (right x q)
        ∙ both_low (λ (i : ℕ). sum_of_kept evens even m i x) (λ (i : ℕ). sum_of_kept odds odd n i x) y h)

    pub minus_is : sums ≡ build 8 (λ (x : ℕ). sub binary64 (get_or e x nan) (get_or o x nan)) → sums ≡ build 8 (value_of_both evens even m odds odd n (7 - y))
    minus_is c =
        c
        ∙ build-eq 8 (λ (x : ℕ). sub binary64 (get_or e x nan) (get_or o x nan)) (value_of_both evens even m odds odd n (7 - y))
        (λ (x : ℕ) (q : x < 8).
        ap (λ (z : Float). sub binary64 z (get_or o x nan)) (left x q)
        ∙ ap (λ (z : Float). sub binary64 (sum_of_kept evens even m y x) z) (right x q)
        ∙ both_high (λ (i : ℕ). sum_of_kept evens even m i x) (λ (i : ℕ). sum_of_kept odds odd n i x) y h)

-- ---- rows from both ends

-- y is one of the first a rows, or of the last b
abbrev pub Done : ℕ → ℕ → ℕ → Type 0
Done a b y = (y < a) ⊎ ((8 ≤ y + b) × (y < 8))

pub done_none : (y : ℕ) → Done 0 0 y → ⊥
done_none y d = ⊎_elim (λ (h : y < 0). omega arith) (λ (h : (8 ≤ y + 0) × (y < 8)). omega (arith, h.0, h.1)) d

pub done-low : (k y : ℕ) → Done (k + 1) k y → (y ≡ k) ⊎ Done k k y
done-low k y d = ⊎_elim (λ (h : y < k + 1). ⊎_elim (λ (z : y ≡ k). inl z) (λ (z : y < k). inr (inl z)) (eq-or-lt_of_le (omega arith))) (λ (h : (8 ≤ y + k) × (y < 8)). inr (inr h)) d

pub done_high : (k y : ℕ) → k < 4 → Done (k + 1) (k + 1) y → (y ≡ 7 - k) ⊎ Done (k + 1) k y
done_high k y l d =
    ⊎_elim (λ (h : y < k + 1). inr (inl h))
    (λ (h : (8 ≤ y + (k + 1)) × (y < 8)).
    let h0 = h.0 in
    let h1 = h.1 in
    ⊎_elim (λ (z : 7 - k ≡ y). inl (sym z)) (λ (z : 7 - k < y). inr (inr (omega arith, h1))) (eq-or-lt_of_le (omega arith)))
    d

pub done_all : (k y : ℕ) → 4 ≤ k → y < 8 → Done k k y
done_all k y l h = ⊎_elim (λ (z : y < 4). inl (omega arith)) (λ (z : 4 ≤ y). inr (omega arith, h)) (lt-or-le y 4)

-- the rows with D hold what f says
pub record Rows (f : ℕ → List ℤ) (D : ℕ → Type 0) (out : List (List ℤ)) : Type 0 where
  pub long : length out ≡ 8
  pub at : (y : ℕ) → y < 8 → D y → get_or out y [] ≡ f y

module _ (f : ℕ → List ℤ) (D : ℕ → Type 0) (out : List (List ℤ)) where
  pub rows_none : length out ≡ 8 → ((y : ℕ) → D y → ⊥) → Rows f D out
  rows_none l n = record { long = l; at = λ y h d. absurd (n y d) }

  pub rows_more : (D' : ℕ → Type 0) (k : ℕ) (row : List ℤ) → k < 8 → row ≡ f k → ((y : ℕ) → D' y → (y ≡ k) ⊎ D y) → Rows f D out → Rows f D' (set out k row)
  rows_more D' k row h e t r =
      record {
        long = length-set out k row ∙ r.long;
        at = λ y q d. other y q (t y d);
      }
    where
      same : get_or (set out k row) k [] ≡ f k
      same = get_or-set_same out k row [] (omega (arith, r.long)) ∙ e

      -- another row is left as it was
      apart : (y : ℕ) → y < 8 → D y → (y < k) ⊎ (k ≤ y) → get_or (set out k row) y [] ≡ f y
      apart y q d s =
          ⊎_elim (λ (l : y < k). get_or-set_other out k y row [] (λ (z : y ≡ k). omega arith) ∙ r.at y q d)
          (λ (l : k ≤ y). ⊎_elim (λ (z : k ≡ y). subst (λ (i : ℕ). get_or (set out k row) i [] ≡ f i) z same) (λ (z : k < y). get_or-set_other out k y row [] (λ (w : y ≡ k). omega arith) ∙ r.at y q d) (eq-or-lt_of_le l))
          s

      other : (y : ℕ) → y < 8 → (y ≡ k) ⊎ D y → get_or (set out k row) y [] ≡ f y
      other y q s = ⊎_elim (λ (z : y ≡ k). subst (λ (i : ℕ). get_or (set out k row) i [] ≡ f i) (sym z) same) (λ (d : D y). apart y q d (lt-or-le y k)) s

  pub rows_all : ((y : ℕ) → y < 8 → D y) → Rows f D out → out ≡ build 8 f
  rows_all a r = is-build [] out 8 f r.long (λ (y : ℕ) (h : y < 8). r.at y h (a y h))

-- ---- the rows that are kept

plus_none : (s t : ℤ) → t ≡ pos 0 → s ≡ s +ℤ t
plus_none s t e = omega (zarith, add_is s t, e)

module _ (p : ℕ) (l : List (List ℤ)) where
  pub half-kept-none : (terms : List (List Float)) (which : List ℕ) → length terms ≡ 4 → length which ≡ 4 → Half p l 0 terms which 0
  unfolding series_z
  half-kept-none terms which a b = record { few = omega arith; long = a; wide = b; below = λ j h. absurd (omega arith); rows = λ j h. absurd (omega arith); sums = λ g z. refl }

  -- a row of zeros is left out
  half_kept_skip : (k : ℕ) (terms : List (List Float)) (which : List ℕ) (n : ℕ) → T (every is_zero (get_or l (2 * k + p) [])) → Half p l k terms which n → Half p l (k + 1) terms which n
  unfolding series_z
  half_kept_skip k terms which n t h =
      record {
        few = omega (arith, h.few);
        long = h.long;
        wide = h.wide;
        below = h.below;
        rows = h.rows;
        sums = λ g z. h.sums g z ∙ plus_none (series_z (λ (i : ℕ). g (2 * i + p)) k) (g (2 * k + p)) (z (2 * k + p) t) ∙ ap (series_z (λ (i : ℕ). g (2 * i + p))) (sym (add-one k));
      }

  -- another is kept
  module _ (k : ℕ) (terms : List (List Float)) (which : List ℕ) (n : ℕ) (row : List Float) (e : row ≡ build 8 (paired_at (get_or l (2 * k + p) []) (2 * k + p))) (b : k < 4) (q : p < 2) (h : Half p l k terms which n) where
    abbrev v : ℕ
    v = 2 * k + p

    abbrev terms' : List (List Float)
    terms' = set terms n row

    abbrev which' : List ℕ
    which' = set which n v

    last-place : get_or which' n 0 ≡ v
    last-place = get_or-set_same which n v 0 (omega (arith, h.few, h.wide))

    other_place : (j : ℕ) → j < n → get_or which' j 0 ≡ get_or which j 0
    other_place j i = get_or-set_other which n j v 0 (λ (z : j ≡ n). omega arith)

    places-below : (j : ℕ) → j < n + 1 → get_or which' j 0 < 8
    places-below j i =
        ⊎_elim
        (λ (z : j ≡ n). rw (z, last-place) (omega arith))
        (λ (z : j < n). rw (other_place j z) (h.below j z))
        (eq-or-lt_of_le (omega arith))

    abbrev Row : ℕ → Type 0
    Row j = get_or terms' j [] ≡ build 8 (paired_at (get_or l (get_or which' j 0) []) (get_or which' j 0))

    last_row : Row n
    last_row = get_or-set_same terms n row [] (omega (arith, h.few, h.long)) ∙ e ∙ ap (λ (w : ℕ). build 8 (paired_at (get_or l w []) w)) (sym last-place)

    rows-kept : (j : ℕ) → j < n + 1 → Row j
    rows-kept j i =
        ⊎_elim
        (λ (z : j ≡ n). subst Row (sym z) last_row)
        (λ (z : j < n). get_or-set_other terms n j row [] (λ (w : j ≡ n). omega arith) ∙ h.rows j z ∙ ap (λ (w : ℕ). build 8 (paired_at (get_or l w []) w)) (sym (other_place j z)))
        (eq-or-lt_of_le (omega arith))

    sums-more : (g : ℕ → ℤ) → ((w : ℕ) → T (every is_zero (get_or l w [])) → g w ≡ pos 0) → series_z (λ (j : ℕ). g (get_or which' j 0)) (n + 1) ≡ series_z (λ (i : ℕ). g (2 * i + p)) (k + 1)
    unfolding series_z
    sums-more g z =
        ap (series_z (λ (j : ℕ). g (get_or which' j 0))) (add-one n)
        ∙ ap (λ (s : ℤ). s +ℤ g (get_or which' n 0)) (sum_ext (λ (j : ℕ). g (get_or which' j 0)) (λ (j : ℕ). g (get_or which j 0)) n (λ j i. ap g (other_place j i)) ∙ h.sums g z)
        ∙ ap (λ (w : ℕ). series_z (λ (i : ℕ). g (2 * i + p)) k +ℤ g w) last-place
        ∙ ap (series_z (λ (i : ℕ). g (2 * i + p))) (sym (add-one k))

    half-kept-more : Half p l (k + 1) terms' which' (n + 1)
    half-kept-more =
        record {
          few = omega (arith, h.few);
          long = length-set terms n row ∙ h.long;
          wide = length-set which n v ∙ h.wide;
          below = places-below;
          rows = rows-kept;
          sums = sums-more;
        }

  -- the same with the row's place as the program has it
  module _ (k v : ℕ) (z : v ≡ 2 * k + p) where
    pub half_kept_at : (terms : List (List Float)) (which : List ℕ) (n : ℕ) (row : List Float) → row ≡ build 8 (paired_at (get_or l v []) v) → k < 4 → p < 2 → Half p l k terms which n → Half p l (k + 1) (set terms n row) (set which n v) (n + 1)
    half_kept_at terms which n row e b q h =
        subst (λ (w : ℕ). Half p l (k + 1) (set terms n row) (set which n w) (n + 1)) (sym z) (half-kept-more k terms which n row (e ∙ ap (λ (w : ℕ). build 8 (paired_at (get_or l w []) w)) z) b q h)

    pub half_skip_at : (terms : List (List Float)) (which : List ℕ) (n : ℕ) → T (every is_zero (get_or l v [])) → Half p l k terms which n → Half p l (k + 1) terms which n
    half_skip_at terms which n t h = half_kept_skip k terms which n (subst (λ (w : ℕ). T (every is_zero (get_or l w []))) z t) h

    pub within_at : (lo hi : ℤ) → every (within lo hi) (get_or l v []) ≡ true → ((j : ℕ) → j < k → every (within lo hi) (get_or l (2 * j + p) []) ≡ true) → (j : ℕ) → j < k + 1 → every (within lo hi) (get_or l (2 * j + p) []) ≡ true
    within_at lo hi e h j q =
        ⊎_elim (λ (w : j ≡ k). ap (λ (i : ℕ). every (within lo hi) (get_or l (2 * i + p) [])) w ∙ ap (λ (i : ℕ). every (within lo hi) (get_or l i [])) (sym z) ∙ e) (λ (w : j < k). h j w) (eq-or-lt_of_le (omega arith))

  pub half-kept-same : (k : ℕ) (terms terms' : List (List Float)) (which which' : List ℕ) (n n' : ℕ) → terms ≡ terms' → which ≡ which' → n ≡ n' → Half p l k terms' which' n' → Half p l k terms which n
  half-kept-same k terms terms' which which' n n' a b c h =
      subst (λ (t : List (List Float)). Half p l k t which n) (sym a) (subst (λ (w : List ℕ). Half p l k terms' w n) (sym b) (subst (Half p l k terms' which') (sym c) h))
