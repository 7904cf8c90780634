-- The end of 64 places: from it on all are 0, it is 64 where one after the first is not and else 1, and place 0 does not change it. Assumes nothing.
use mathlib.Core.Bool.{Bool, true, false, cond}
use mathlib.Core.List.{List, [], ◌∷◌, ◌++◌, map-append}
use mathlib.Core.Logic.{⊎_elim}
use mathlib.Core.Path.{◌≡◌, refl, sym, ap, ap₂, ◌∙◌}
use Prim.Native.Nat.{ℕ, zero, suc, max, ◌+◌, ◌≤◌, ◌<◌}
use native.Mathlib.Nat.{le_refl}
use native.Mathlib.Numerals.{add-one}
use native.Mathlib.Omega.{arith}
use lib.Dec.{eqb, leb}
use lib.IntN.{ℤ, nat_abs, pos}
use lib.ListN.{drop, get_or, get_or-replicate, length, set, take}
use lib.Seq.{get_or-drop, get_or-set_other, get_or-take, take_all, take-suc, take-suc-set}
use borrow.Author.Tests.{eqb-true, le-leb, leb-true, lt-leb}
use Rattle.numbers.proofs.Fill.{lt-or-le}
use Rattle.numbers.proofs.Magnitudes.{zero_of_abs}
use Rattle.texture.specs.Places.{zeros}
use Rattle.window_reader.specs.Ends.{end_of, ends_of, reach}

module _ (qfs : List ℤ) where
  -- ---- how far the first n places reach

  reach_skip : (n : ℕ) → get_or qfs n (pos 0) ≡ pos 0 → reach qfs (suc n) ≡ reach qfs n
  unfolding reach
  reach_skip n e = ap (λ (z : ℤ). cond (eqb (nat_abs z) 0) (reach qfs n) (suc n)) e

  reach_most : (n : ℕ) → reach qfs n ≤ n
  unfolding reach
  reach_most zero = le_refl 0
  reach_most (suc n) = go (eqb (nat_abs (get_or qfs n (pos 0))) 0) (reach_most n)
    where
      go : (t : Bool) → reach qfs n ≤ n → cond t (reach qfs n) (suc n) ≤ suc n
      go true h = omega arith
      go false h = le_refl (suc n)

  beyond_reach : (n k : ℕ) → reach qfs n ≤ k → k < n → get_or qfs k (pos 0) ≡ pos 0
  unfolding reach
  beyond_reach zero k h l = absurd (omega arith)
  beyond_reach (suc n) k h l = go (eqb (nat_abs (get_or qfs n (pos 0))) 0) refl h (λ a b. beyond_reach n k a b)
    where
      go : (t : Bool) → eqb (nat_abs (get_or qfs n (pos 0))) 0 ≡ t → cond t (reach qfs n) (suc n) ≤ k → (reach qfs n ≤ k → k < n → get_or qfs k (pos 0) ≡ pos 0) → get_or qfs k (pos 0) ≡ pos 0
      go true e h f =
          ⊎_elim (λ m. f h m)
          (λ m. ap (λ (j : ℕ). get_or qfs j (pos 0)) (let q : k ≡ n = omega arith in q) ∙ zero_of_abs (get_or qfs n (pos 0)) (eqb-true (nat_abs (get_or qfs n (pos 0))) 0 e))
          (lt-or-le k n)
      go false e h f = absurd (omega arith)

  -- zeros add nothing
  reach-zeros : (n m : ℕ) → n ≤ m → ((k : ℕ) → n ≤ k → k < m → get_or qfs k (pos 0) ≡ pos 0) → reach qfs m ≡ reach qfs n
  reach-zeros n zero h z = ap (reach qfs) (let q : 0 ≡ n = omega arith in q)
  reach-zeros n (suc m) h z =
      ⊎_elim (λ l. ap (reach qfs) (let q : suc m ≡ n = omega arith in q))
      (λ l. reach_skip m (z m l (omega arith)) ∙ reach-zeros n m l (λ k a b. z k a (omega arith)))
      (lt-or-le m n)

  -- ---- the end

  pub beyond_end : (k : ℕ) → end_of qfs ≤ k → k < 64 → get_or qfs k (pos 0) ≡ pos 0
  unfolding end_of
  beyond_end k h l = go (leb (reach qfs 64) 1) refl h
    where
      go : (t : Bool) → leb (reach qfs 64) 1 ≡ t → cond t 1 64 ≤ k → get_or qfs k (pos 0) ≡ pos 0
      go true e g = let r = leb-true (reach qfs 64) 1 e in beyond_reach 64 k (omega arith) l
      go false e g = absurd (omega arith)

  -- the end where a place after the first is not 0
  pub end_some : (n : ℕ) → 1 ≤ n → n < 64 → (get_or qfs n (pos 0) ≡ pos 0 → ⊥) → end_of qfs ≡ 64
  unfolding end_of
  end_some n f h p = go (leb (reach qfs 64) 1) refl
    where
      go : (t : Bool) → leb (reach qfs 64) 1 ≡ t → ◌≡◌ {A = ℕ} (cond t 1 64) 64
      go true e = absurd (p (beyond_reach 64 n (let r = leb-true (reach qfs 64) 1 e in omega arith) h))
      go false e = refl

  -- the end where none after the first is not 0
  pub end_none : ((k : ℕ) → 1 ≤ k → k < 64 → get_or qfs k (pos 0) ≡ pos 0) → end_of qfs ≡ 1
  unfolding end_of
  end_none z =
      let near : reach qfs 64 ≤ 1 = omega (arith, reach-zeros 1 64 (omega arith) z, reach_most 1) in
      ap (λ (t : Bool). cond t 1 64) (le-leb (reach qfs 64) 1 near)

-- ---- the places after the first, as the code goes through them

pub after_first : (qfs : List ℤ) (k : ℕ) → k < 63 → get_or (take 63 (drop 1 qfs)) k (pos 0) ≡ get_or qfs (1 + k) (pos 0)
after_first qfs k h = get_or-take 63 (drop 1 qfs) k (pos 0) h ∙ get_or-drop 1 qfs k (pos 0)

pub all_after : (qfs : List ℤ) → ((k : ℕ) → k < 63 → get_or (take 63 (drop 1 qfs)) k (pos 0) ≡ pos 0) → end_of qfs ≡ 1
all_after qfs z = end_none qfs go
  where
    go : (k : ℕ) → 1 ≤ k → k < 64 → get_or qfs k (pos 0) ≡ pos 0
    go zero a b = absurd (omega arith)
    go (suc k) a b = ap (λ (j : ℕ). get_or qfs j (pos 0)) (let q : suc k ≡ 1 + k = omega arith in q) ∙ sym (after_first qfs k (omega arith)) ∙ z k (omega arith)

-- ---- place 0 does not change it

reach-set : (qfs : List ℤ) (z : ℤ) (n : ℕ) → max 1 (reach (set qfs 0 z) n) ≡ max 1 (reach qfs n)
unfolding reach
reach-set qfs z zero = refl
reach-set qfs z (suc zero) = omega (arith, reach_most (set qfs 0 z) 1, reach_most qfs 1)
reach-set qfs z (suc (suc n)) =
    ap (λ (x : ℤ). max 1 (cond (eqb (nat_abs x) 0) (reach (set qfs 0 z) (suc n)) (suc (suc n)))) same ∙ go (eqb (nat_abs (get_or qfs (suc n) (pos 0))) 0) (reach-set qfs z (suc n))
  where
    same : get_or (set qfs 0 z) (suc n) (pos 0) ≡ get_or qfs (suc n) (pos 0)
    same = get_or-set_other qfs 0 (suc n) z (pos 0) (λ (e : suc n ≡ 0). omega arith)

    go : (t : Bool) → max 1 (reach (set qfs 0 z) (suc n)) ≡ max 1 (reach qfs (suc n))
        → max 1 (cond t (reach (set qfs 0 z) (suc n)) (suc (suc n))) ≡ max 1 (cond t (reach qfs (suc n)) (suc (suc n)))
    go true h = h
    go false h = refl

-- numbers that are one above 1 are the same beside it
beside-one : (a b : ℕ) → max 1 a ≡ max 1 b → leb a 1 ≡ leb b 1
beside-one a b e =
    ⊎_elim (λ (l : 1 < a). let m : 1 < b = omega arith in lt-leb a 1 l ∙ sym (lt-leb b 1 m))
    (λ (l : a ≤ 1). let m : b ≤ 1 = omega arith in le-leb a 1 l ∙ sym (le-leb b 1 m)) (lt-or-le 1 a)

pub end_set : (qfs : List ℤ) (z : ℤ) → end_of (set qfs 0 z) ≡ end_of qfs
unfolding end_of
end_set qfs z = ap (λ (t : Bool). cond t 1 64) (beside-one (reach (set qfs 0 z) 64) (reach qfs 64) (reach-set qfs z 64))

-- a block that has its DC part only
pub end_zeros : (z : ℤ) → end_of (set zeros 0 z) ≡ 1
end_zeros z = end_set zeros z ∙ end_none zeros (λ k a b. get_or-replicate 64 k (pos 0) (pos 0) b)

-- ---- the ends of rows, one after the other

pub ends_more : (rows : List (List ℤ)) (ends : List ℕ) (i e : ℕ) → i < length rows → i < length ends → take i ends ≡ ends_of (take i rows) → e ≡ end_of (get_or rows i [])
    → take (i + 1) (set ends i e) ≡ ends_of (take (i + 1) rows)
ends_more rows ends i e h k t q =
    ap (λ (n : ℕ). take n (set ends i e)) (add-one i) ∙ take-suc-set ends i e k ∙ ap₂ (λ (xs : List ℕ) (x : ℕ). xs ++ (x ∷ [])) t q
    ∙ sym (map-append end_of (take i rows) (get_or rows i [] ∷ []))
    ∙ ap ends_of (sym (take-suc rows i [] h) ∙ ap (λ (n : ℕ). take n rows) (sym (add-one i)))

pub ends_all : (rows : List (List ℤ)) (ends : List ℕ) (i : ℕ) → length rows ≤ i → length ends ≤ i → take i ends ≡ ends_of (take i rows) → ends ≡ ends_of rows
ends_all rows ends i h k t = sym (take_all i ends k) ∙ t ∙ ap ends_of (take_all i rows h)
