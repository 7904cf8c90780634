-- The words of a line by their places: the first ends where the first space stands. Assumes nothing.
use mathlib.Core.Bool.{Bool, cond, false, true}
use mathlib.Core.List.{List, [], ◌∷◌}
use mathlib.Core.Logic.{⊎_elim}
use mathlib.Core.Path.{◌≡◌, ◌∙◌, ap, ap₂, refl, sym}
use Prim.Native.Nat.{◌+◌, ◌<◌, ◌≤◌, suc, ℕ}
use native.Mathlib.Numerals.{add-one}
use native.Mathlib.Omega.{arith}
use borrow.Author.Tests.{le-leb, lt-leb, ltb-false}
use lib.Dec.{eqb, leb, leb-suc-suc, ltb}
use lib.ListN.{drop, length, take}
use Rattle.std.proofs.lemmas.List.Recursion.{is_position_or_len}
use Rattle.std.specs.List.{position_or_len}
use Rattle.std.specs.Option.{unwrap_or}
use Rattle.std.specs.Prelude.{None, Option, Some}
use Rattle.numbers.proofs.Fill.{lt-or-le}
use Rattle.forms.proofs.PartLaws.{part_head, part_length, part_tail}
use Rattle.forms.specs.Reading.{end_of, part, space_in, words_from}
use Rattle.forms.specs.Words.{joined, words}

-- ---- where a word ends

pub space-le : (xs : List ℕ) → space_in xs ≤ length xs
space-le [] = omega arith
space-le (b ∷ bs) = go (eqb b 32) (space-le bs)
  where
    go : (t : Bool) → space_in bs ≤ length bs → cond t 0 (space_in bs + 1) ≤ suc (length bs)
    go true h = omega arith
    go false h = omega arith

-- which is where std finds it
pub space_is : (xs : List ℕ) → space_in xs ≡ position_or_len (λ b. eqb b 32) xs
space_is = is_position_or_len space_in (λ b. eqb b 32) refl (λ b bs. let e : space_in bs + 1 ≡ 1 + space_in bs = omega arith in ap (cond (eqb b 32) 0) e)

unwrap_found : (n m : ℕ) → n ≤ m → unwrap_or (cond (ltb n m) (Some n) None) m ≡ n
unwrap_found n m h = go (ltb n m) refl
  where
    go : (t : Bool) → ltb n m ≡ t → unwrap_or (cond t (Some n) None) m ≡ n
    go true e = refl
    go false e = omega (arith, ltb-false n m e)

pub end_found : (w : List ℕ) (r : Option ℕ) → r ≡ cond (ltb (position_or_len (λ b. eqb b 32) w) (length w)) (Some (position_or_len (λ b. eqb b 32) w)) None
    → unwrap_or r (length w) ≡ space_in w
end_found w r e =
    ap (λ (o : Option ℕ). unwrap_or o (length w)) e
    ∙ ap (λ (n : ℕ). unwrap_or (cond (ltb n (length w)) (Some n) None) (length w)) (sym (space_is w))
    ∙ unwrap_found (space_in w) (length w) (space-le w)

pub end_le : (l : List ℕ) (from to : ℕ) → to ≤ length l → from ≤ to → end_of l from to ≤ to
end_le l from to k h = omega (arith, space-le (part l from to), part_length l from to k)

-- ---- the first word and those after it

-- the words after the first space
abbrev later : List ℕ → List (List ℕ)
later xs = cond (leb (space_in xs + 1) (length xs)) (words (drop (space_in xs + 1) xs)) []

words_split : (xs : List ℕ) → words xs ≡ take (space_in xs) xs ∷ later xs
unfolding words
words_split [] = refl
words_split (b ∷ bs) = go (eqb b 32) (words_split bs)
  where
    go : (t : Bool) → words bs ≡ take (space_in bs) bs ∷ later bs
        → cond t ([] ∷ words bs) (joined b (words bs))
        ≡ take (cond t 0 (space_in bs + 1)) (b ∷ bs) ∷ cond (leb (cond t 0 (space_in bs + 1) + 1) (suc (length bs))) (words (drop (cond t 0 (space_in bs + 1) + 1) (b ∷ bs))) []
    go true h = sym (ap (λ (t : Bool). [] ∷ cond t (words bs) []) (le-leb 1 (suc (length bs)) (omega arith)))
    go false h =
        ap (joined b) h
        ∙ ap (λ (t : Bool). (b ∷ take (space_in bs) bs) ∷ cond t (words (drop (space_in bs + 1) bs)) []) (sym (leb-suc-suc (space_in bs + 1) (length bs)))
        ∙ sym (ap₂ (λ (i j : ℕ). take i (b ∷ bs) ∷ cond (leb j (suc (length bs))) (words (drop j (b ∷ bs))) []) (add-one (space_in bs)) (add-one (space_in bs + 1)))

same_test : (a b c d : ℕ) → (b < a → d < c) → (a ≤ b → c ≤ d) → leb a b ≡ leb c d
same_test a b c d f g = ⊎_elim (λ h. lt-leb a b h ∙ sym (lt-leb c d (f h))) (λ h. le-leb a b h ∙ sym (le-leb c d (g h))) (lt-or-le b a)

module _ (l : List ℕ) (from to : ℕ) where
  -- past the bracket there is no word
  pub words-none : to < from → words_from l from to ≡ []
  words-none h = ap (λ (t : Bool). cond t (words (part l from to)) []) (lt-leb from to h)

  -- up to it, the first word ends at the first space, and the others begin after that
  pub words-some : from ≤ to → to ≤ length l → (e : ℕ) → e ≡ end_of l from to → words_from l from to ≡ part l from e ∷ words_from l (e + 1) to
  words-some h k e is =
      let s = space_in (part l from to) in
      let n = part_length l from to k in
      let le = space-le (part l from to) in
      let i : from + (s + 1) ≡ e + 1 = omega arith in
      ap (λ (t : Bool). cond t (words (part l from to)) []) (le-leb from to h) ∙ words_split (part l from to)
      ∙ ap₂ (λ (x : List ℕ) (ys : List (List ℕ)). x ∷ ys) (part_head l from to s (omega arith) ∙ ap (part l from) (sym is))
      (ap₂ (λ (t : Bool) (xs : List ℕ). cond t (words xs) []) (same_test (s + 1) (length (part l from to)) (e + 1) to (λ h. omega arith) (λ h. omega arith))
      (part_tail l from to (s + 1) ∙ ap (λ (j : ℕ). part l j to) i))
