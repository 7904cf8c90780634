-- A word as a number, digit by digit, and as a word that is looked for. Assumes nothing.
use mathlib.Core.Bool.{Bool, cond, false, not, true, ◌&&◌}
use mathlib.Core.List.{List, [], ◌∷◌}
use mathlib.Core.Logic.{⊎_elim}
use mathlib.Core.Path.{◌≡◌, ◌∙◌, ap, ap₂, refl, sym}
use Prim.Native.Nat.{◌*◌, ◌+◌, ◌-◌, ◌<◌, ◌≤◌, ℕ}
use native.Mathlib.Omega.{arith}
use borrow.Author.Tests.{le-leb, lt-leb, ne_eqb}
use lib.Dec.{eqb, leb}
use lib.ListN.{get_or, length}
use Rattle.std.proofs.Common.{min}
use Rattle.std.specs.Cmp.Lexicographic.{pointwise}
use Rattle.numbers.proofs.Fill.{lt-or-le}
use Rattle.numbers.proofs.Tests.{and-false, true_both}
use Rattle.numbers.specs.Every.{every}
use Rattle.forms.proofs.PartLaws.{part_cons, part_none}
use Rattle.forms.specs.Reading.{part}
use Rattle.forms.specs.Words.{is_digit, none_of, number_in, same, value_after}
use Rattle.std.specs.Prelude.{None, Option, Some}

-- ---- tests of a byte

pub below_digit : (b : ℕ) → b < 48 → is_digit b ≡ false
below_digit b h = ap (λ (t : Bool). t && leb b 57) (lt-leb 48 b h)

pub above_digit : (b : ℕ) → 57 < b → is_digit b ≡ false
above_digit b h = ap (λ (t : Bool). leb 48 b && t) (lt-leb b 57 h) ∙ and-false (leb 48 b)

pub is_digit_lem : (b : ℕ) → 48 ≤ b → b ≤ 57 → is_digit b ≡ true
is_digit_lem b h k = ap₂ ◌&&◌ (le-leb 48 b h) (le-leb b 57 k)

-- ---- a number's bytes

pub value_grows : (v : ℕ) (xs : List ℕ) → v ≤ value_after v xs
unfolding value_after
value_grows v [] = omega arith
value_grows v (b ∷ bs) = omega (arith, value_grows (10 * v + (b - 48)) bs)

-- what is told of a word's bytes, of which those before k were read as v: they give it, or are over the most as it is
abbrev pub Told : ℕ → List ℕ → ℕ → ℕ → ℕ → ℕ → Type 0
Told most l from to v k = (v ≤ most → value_after 0 (part l from to) ≡ value_after v (part l k to)) × (most < v → most < value_after 0 (part l from to))

module _ (most : ℕ) (w : List ℕ) where
  -- the answer by the three tests
  by : Bool → Option ℕ
  by t = cond t (Some (value_after 0 w)) None

  pub no_bytes : w ≡ [] → None ≡ number_in most w
  unfolding number_in
  no_bytes e = sym (ap (λ (w : List ℕ). number_in most w) e)

  pub no_digits : every is_digit w ≡ false → None ≡ number_in most w
  unfolding number_in by
  no_digits e = sym (ap (λ (t : Bool). by (not (none_of w) && (t && leb (value_after 0 w) most))) e ∙ ap by (and-false (not (none_of w))))

  pub too_large : most < value_after 0 w → None ≡ number_in most w
  unfolding number_in by
  too_large e =
      sym (ap (λ (t : Bool). by (not (none_of w) && (every is_digit w && t))) (lt-leb (value_after 0 w) most e)
      ∙ ap (λ (t : Bool). by (not (none_of w) && t)) (and-false (every is_digit w)) ∙ ap by (and-false (not (none_of w))))

  pub number_is : (v : ℕ) → 0 < length w → every is_digit w ≡ true → value_after 0 w ≡ v → v ≤ most → Some v ≡ number_in most w
  unfolding number_in by
  number_is v n d e h =
      ap Some (sym e) ∙ sym (ap by (true_both (ap not (ne_eqb (length w) 0 (λ z. omega arith))) (true_both d (le-leb (value_after 0 w) most (omega arith)))))

module _ (l : List ℕ) (from to k : ℕ) (h : k < to) (in-line : to ≤ length l) where
  pub digits_no : is_digit (get_or l k 0) ≡ false → every is_digit (part l k to) ≡ false
  digits_no e = ap (every is_digit) (part_cons l k to h in-line) ∙ ap (λ (t : Bool). t && every is_digit (part l (k + 1) to)) e

  pub digits_on : is_digit (get_or l k 0) ≡ true → every is_digit (part l k to) ≡ every is_digit (part l (k + 1) to)
  digits_on e = ap (every is_digit) (part_cons l k to h in-line) ∙ ap (λ (t : Bool). t && every is_digit (part l (k + 1) to)) e

  -- one digit more
  pub told_on : (most v v' : ℕ) → Told most l from to v k → v' ≡ min (10 * v + (get_or l k 0 - 48)) (most + 1) → Told most l from to v' (k + 1)
  unfolding value_after
  told_on most v v' t e = (small, large)
    where
      d : ℕ
      d = get_or l k 0 - 48

      is : v ≤ most → value_after 0 (part l from to) ≡ value_after (10 * v + d) (part l (k + 1) to)
      is s = t.0 s ∙ ap (value_after v) (part_cons l k to h in-line)

      small : v' ≤ most → value_after 0 (part l from to) ≡ value_after v' (part l (k + 1) to)
      small s = let same : 10 * v + d ≡ v' = omega (arith, e) in is (omega (arith, e)) ∙ ap (λ (x : ℕ). value_after x (part l (k + 1) to)) same

      large : most < v' → most < value_after 0 (part l from to)
      large o = ⊎_elim (λ (p : most < v). t.1 p) (λ (p : v ≤ most). omega (arith, e, is p, value_grows (10 * v + d) (part l (k + 1) to))) (lt-or-le most v)

-- all bytes read
pub told_all_lem : (most : ℕ) (l : List ℕ) (from to v k : ℕ) → to ≤ k → v ≤ most → Told most l from to v k → value_after 0 (part l from to) ≡ v
unfolding value_after
told_all_lem most l from to v k h s t = t.0 s ∙ ap (value_after v) (part_none l k to h)

pub digits_all : (l : List ℕ) (k to : ℕ) → to ≤ k → every is_digit (part l k to) ≡ true
digits_all l k to h = ap (every is_digit) (part_none l k to h)

-- ---- a word that is looked for

-- as `==` compares
pub same_is : (xs ys : List ℕ) → same xs ys ≡ pointwise eqb xs ys
unfolding same
same_is [] [] = refl
same_is [] (b ∷ ys) = refl
same_is (a ∷ xs) [] = refl
same_is (a ∷ xs) (b ∷ ys) = ap (λ (t : Bool). eqb a b && t) (same_is xs ys)
