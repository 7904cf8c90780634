-- What the first pass tells of the even and of the odd rows, and the samples by near numbers and by the rule. Assumes nothing.
use mathlib.Core.Bool.{false, true}
use mathlib.Core.List.{List, []}
use mathlib.Core.Path.{◌≡◌, sym, ap, ◌∙◌, subst}
use Prim.Native.Nat.{ℕ, zero, suc, ◌+◌, ◌*◌, ◌<◌}
use native.Mathlib.Omega.{arith}
use lib.Ieee.{Float}
use lib.IntN.{ℤ}
use lib.ListN.{get_or, length}
use Rattle.numbers.proofs.Every.{every_in}
use Rattle.numbers.proofs.Fill.{block-eq}
use Rattle.numbers.specs.Every.{every}
use Rattle.numbers.specs.Grid.{block}
use Rattle.numbers.specs.Limit.{clamp_z}
use Rattle.ranges.specs.Range.{within}
use Rattle.rounding.specs.Near.{Sure, near_z}
use Rattle.rounding.specs.declared.HalfIntegerRounding.{HalfIntegerRounding}
use Rattle.exact_transform.specs.EvenOdd.{Half, value_of_both}
use Rattle.exact_transform.specs.Exact.{Modest}
use Rattle.exact_transform.specs.Transform.{whole}
use Rattle.exact_transform.proofs.EvenOddBounds.{both_sure}
use Rattle.idct.specs.ShortWays.{ToldHalf, samples_in}
use Rattle.std.specs.Prelude.{None, Option, Some}

by_halves : (P : ℕ → Type 0) → ((k : ℕ) → k < 4 → P (2 * k + 0)) → ((k : ℕ) → k < 4 → P (2 * k + 1)) → (i : ℕ) → i < 8 → P i
by_halves P e o zero h = e 0 (omega arith)
by_halves P e o (suc zero) h = o 0 (omega arith)
by_halves P e o (suc (suc zero)) h = e 1 (omega arith)
by_halves P e o (suc (suc (suc zero))) h = o 1 (omega arith)
by_halves P e o (suc (suc (suc (suc zero)))) h = e 2 (omega arith)
by_halves P e o (suc (suc (suc (suc (suc zero))))) h = o 2 (omega arith)
by_halves P e o (suc (suc (suc (suc (suc (suc zero)))))) h = e 3 (omega arith)
by_halves P e o (suc (suc (suc (suc (suc (suc (suc zero))))))) h = o 3 (omega arith)
by_halves P e o (suc (suc (suc (suc (suc (suc (suc (suc i)))))))) h = absurd (omega arith)

pub all_within : (l : List (List ℤ)) (least most : ℤ) → length l ≡ 8 → ((k : ℕ) → k < 4 → every (within least most) (get_or l (2 * k + 0) []) ≡ true) → ((k : ℕ) → k < 4 → every (within least most) (get_or l (2 * k + 1) []) ≡ true)
    → every (every (within least most)) l ≡ true
all_within l least most n e o = every_in (every (within least most)) [] l (λ (i : ℕ) (h : i < length l). by_halves (λ (j : ℕ). every (within least most) (get_or l j []) ≡ true) e o i (omega (arith, n, h)))

module _ (p : ℕ) (l : List (List ℤ)) (lo hi least most : ℤ) (terms : List (List Float)) (which : List ℕ) (r : Option ℕ) (a : lo ≡ least) (b : hi ≡ most) (t : ToldHalf p l lo hi terms which r) where
  pub half-within : (n : ℕ) → r ≡ Some n → (k : ℕ) → k < 4 → every (within least most) (get_or l (2 * k + p) []) ≡ true
  half-within n e k h = sym (λ i. every (within (a i) (b i)) (get_or l (2 * k + p) [])) ∙ (subst (ToldHalf p l lo hi terms which) e t).0 k h

  pub half-kept : (n : ℕ) → r ≡ Some n → Half p l 4 terms which n
  half-kept n e = (subst (ToldHalf p l lo hi terms which) e t).1

  pub half-not : r ≡ None → every (every (within least most)) l ≡ false
  half-not e = sym (λ i. every (every (within (a i) (b i))) l) ∙ subst (ToldHalf p l lo hi terms which) e t

-- the samples by near numbers that are the rule's
pub near-are : (l : List (List ℤ)) → Modest l → (evens : List (List Float)) (even : List ℕ) (m : ℕ) (odds : List (List Float)) (odd : List ℕ) (n : ℕ) → Half 0 l 4 evens even m → Half 1 l 4 odds odd n → (r : HalfIntegerRounding) (lo hi low top : ℤ) (out : List (List ℤ)) → lo ≡ low → hi ≡ top
    → out ≡ block (λ (y x : ℕ). clamp_z (near_z (value_of_both evens even m odds odd n y x)) lo hi) → ((y x : ℕ) → y < 8 → x < 8 → Sure (value_of_both evens even m odds odd n y x)) → out ≡ samples_in r low top l
near-are l modest evens even m odds odd n a b r lo hi low top out g h e s =
    e
    ∙ block-eq (λ (y x : ℕ). clamp_z (near_z (value_of_both evens even m odds odd n y x)) lo hi) (λ (y x : ℕ). clamp_z (whole r l y x) lo hi)
    (λ (y x : ℕ) (p : y < 8) (q : x < 8). ap (λ (z : ℤ). clamp_z z lo hi) (both_sure l modest evens even m odds odd n a b y x p q r (s y x p q)))
    ∙ (λ i. samples_in r (g i) (h i) l)

-- the same by the rule, between the limits as the program reads them back
pub ruled_between : (l : List (List ℤ)) (r : HalfIntegerRounding) (lo hi low top : ℤ) (out : List (List ℤ)) → lo ≡ low → hi ≡ top → out ≡ samples_in r lo hi l → out ≡ samples_in r low top l
ruled_between l r lo hi low top out g h e = e ∙ (λ i. samples_in r (g i) (h i) l)
