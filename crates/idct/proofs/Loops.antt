-- The sums of the 1-D transform: u is the number of terms that have been added at each x. Assumes nothing.
use mathlib.Core.Bool.{Bool, true, false, not, true≢false}
use mathlib.Core.List.{List}
use mathlib.Core.Path.{◌≡◌, sym, ap, ◌∙◌, subst}
use Prim.Native.Nat.{ℕ, ◌+◌, ◌≤◌, ◌<◌}
use native.Mathlib.Numerals.{add-one}
use native.Mathlib.Omega.{arith}
use lib.Dec.{T}
use lib.Ieee.{Float, fin, nan, binary64, mul, add, eq, ne, of_bits}
use lib.Ieee.Fits.{mul-fits}
use lib.IntN.{pos}
use lib.ListN.{get_or}
use Rattle.numbers.proofs.Fill.{build-eq, get_or-build}
use Rattle.numbers.specs.Grid.{build}
use Rattle.f64_error.proofs.Zeros.{Nought, nought_left, series_none, zero_of_eq}
use Rattle.f64_error.specs.Series.{half, series_f}
use Rattle.rounding.proofs.Literals.{zero_bits}
use Rattle.cosines.specs.Cosines.{c_f, cos_f}
use Rattle.cosines.proofs.Tables.{cos_const}
use Rattle.idct.specs.ShortWays.{idct1d}

module _ (input : List Float) where
  abbrev pub term : ℕ → ℕ → Float
  term x u = mul binary64 (mul binary64 (c_f u) (get_or input u nan)) (cos_f u x)

  -- the sum at x of the terms below u
  abbrev pub sum_at : ℕ → ℕ → Float
  sum_at u x = series_f (term x) u

  pub no_terms : (x : ℕ) → x < 8 → of_bits binary64 0 ≡ sum_at 0 x
  unfolding series_f
  no_terms x h = zero_bits

  -- a term added at every x
  pub one_more_lem : (u : ℕ) (sums cosines more : List Float) (f : Float) → sums ≡ build 8 (sum_at u) → cosines ≡ build 8 (cos_f u) → f ≡ mul binary64 (c_f u) (get_or input u nan)
      → more ≡ build 8 (λ (x : ℕ). add binary64 (get_or sums x nan) (mul binary64 f (get_or cosines x nan))) → more ≡ build 8 (sum_at (u + 1))
  unfolding series_f
  one_more_lem u sums cosines more f a k b e =
      e
      ∙ build-eq 8 (λ (x : ℕ). add binary64 (get_or sums x nan) (mul binary64 f (get_or cosines x nan))) (sum_at (u + 1))
      (λ (x : ℕ) (h : x < 8).
      ap (λ (y : Float). add binary64 y (mul binary64 f (get_or cosines x nan))) (ap (λ (l : List Float). get_or l x nan) a ∙ get_or-build 8 (sum_at u) x nan h)
      ∙ ap (λ (y : Float). add binary64 (sum_at u x) (mul binary64 y (get_or cosines x nan))) b
      ∙ ap (λ (y : Float). add binary64 (sum_at u x) (mul binary64 (mul binary64 (c_f u) (get_or input u nan)) y)) (ap (λ (l : List Float). get_or l x nan) k ∙ get_or-build 8 (cos_f u) x nan h)
      ∙ ap (λ (n : ℕ). sum_at n x) (sym (add-one u)))

  -- a term of zeros
  pub none_more : (u : ℕ) (sums : List Float) (f : Float) → sums ≡ build 8 (sum_at u) → f ≡ mul binary64 (c_f u) (get_or input u nan) → ne f (of_bits binary64 0) ≡ false → sums ≡ build 8 (sum_at (u + 1))
  unfolding ne of_bits
  none_more u sums f a b e =
      let z = zero_of_eq f (is_zero (eq f (fin false 0 (pos 0))) e) in
      a
      ∙ build-eq 8 (sum_at u) (sum_at (u + 1))
      (λ (x : ℕ) (h : x < 8).
      let k = cos_const u x in
      sym (series_none (term x) (λ (i : ℕ). mul-fits binary64 (mul binary64 (c_f i) (get_or input i nan)) (cos_f i x)) u
      (nought_left (mul binary64 (c_f u) (get_or input u nan)) (cos_f u x) k.w (subst Nought b z) k.is))
      ∙ ap (λ (n : ℕ). sum_at n x) (sym (add-one u)))
    where
      is_zero : (t : Bool) → not t ≡ false → T t
      is_zero true h = tt
      is_zero false h = absurd (true≢false h)

  -- half of each whole sum is the transform
  pub all_terms : (sums : List Float) (u : ℕ) → u ≤ 8 → 8 ≤ u → sums ≡ build 8 (sum_at u) → build 8 (λ (x : ℕ). mul binary64 half (get_or sums x nan)) ≡ idct1d input
  all_terms sums u l g e =
      let h : u ≡ 8 = omega arith in
      build-eq 8 (λ (x : ℕ). mul binary64 half (get_or sums x nan)) (λ (x : ℕ). mul binary64 half (sum_at 8 x))
      (λ (x : ℕ) (p : x < 8). ap (mul binary64 half) (ap (λ (t : List Float). get_or t x nan) e ∙ get_or-build 8 (sum_at u) x nan p ∙ ap (λ (n : ℕ). sum_at n x) h))
