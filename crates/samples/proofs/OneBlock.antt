-- A block that is written row by row, cell by cell, fills its part from the front: what stands before the place that is written next
-- is as it is to be, the rest as it was. Assumes nothing.
use mathlib.Core.Bool.{cond, ◌&&◌}
use mathlib.Core.List.{List}
use mathlib.Core.Path.{◌≡◌, ap, sym, ◌∙◌}
use Prim.Native.Nat.{ℕ, ◌+◌, ◌*◌, ◌/◌, ◌%◌, ◌-◌, ◌<◌, ◌≤◌}
use native.Mathlib.Nat.{mul-add-mod_self_right, mod-eq_of_lt, le-div_iff_mul-le, add-mul, one-mul, lt_irrefl, mul-le-mul, mul-le-mul_right}
use native.Mathlib.Omega.{arith}
use lib.Arith.{digits_div}
use lib.Dec.{ltb}
use lib.IntN.{ℤ, pos}
use lib.ListN.{length, get_or, set}
use borrow.Author.Tests.{lt-ltb, le-ltb}
use Rattle.numbers.proofs.Fill.{part, part_none, part-more, part_skip, part_all, length_part, build-list}
use Rattle.numbers.proofs.Tests.{and-false}
use Rattle.numbers.specs.Grid.{cell}
use Rattle.samples.specs.Samples.{written}

-- what is to stand at k, and what stood there
abbrev to : List ℤ → ℕ → List (List ℤ) → ℕ → ℤ
to s w b k = cond (ltb (k / w) 8 && ltb (k % w) 8) (cell b (k / w) (k % w)) (get_or s k (pos 0))

abbrev old : List ℤ → ℕ → ℤ
old s k = get_or s k (pos 0)

-- a place of the block: no product overflows, and it is inside
pub place_small : (w y : ℕ) → w ≤ 16 → y < 8 → y * w ≤ 112
place_small w y p q = mul-le-mul {n₂ = 7} {m₂ = 16} (omega arith) (omega arith)

pub place_inside : (w y x n : ℕ) → w * 7 + 8 ≤ n → y < 8 → x < 8 → y * w + x < n
place_inside w y x n h p q =
    let m : y * w ≤ 7 * w = mul-le-mul_right {m = y} {n = 7} w (omega arith) in
    omega arith

module _ (s : List ℤ) (w : ℕ) (b : List (List ℤ)) where
  -- the part with the first k places done
  pub upto : ℕ → List ℤ
  upto k = part (length s) (to s w b) (old s) k

  pub upto_none : s ≡ upto (0 * w)
  unfolding upto
  upto_none = build-list (pos 0) s ∙ sym (part_none (length s) (to s w b) (old s)) ∙ ap (λ (k : ℕ). part (length s) (to s w b) (old s) k) (omega arith)

  pub upto_length : (l : List ℤ) (k : ℕ) → l ≡ upto k → length l ≡ length s
  unfolding upto
  upto_length l k e = ap length e ∙ length_part (length s) (to s w b) (old s) k

  pub upto_column : (l : List ℤ) (y : ℕ) → l ≡ upto (y * w) → l ≡ upto (y * w + 0)
  upto_column l y e = e ∙ ap (λ (k : ℕ). upto k) (omega arith)

  module _ (h : 8 ≤ w) where
    at_cell : (y x : ℕ) → y < 8 → x < 8 → to s w b (y * w + x) ≡ cell b y x
    at_cell y x p q =
        let d : (y * w + x) / w ≡ y = digits_div y (omega arith) in
        let m : (y * w + x) % w ≡ x = mul-add-mod_self_right y w x ∙ mod-eq_of_lt (omega arith) in
        rw (d, m, lt-ltb y 8 p, lt-ltb x 8 q)

    -- one store
    pub upto_more : (l : List ℤ) (y x : ℕ) (z : ℤ) → y < 8 → x < 8 → y * w + x < length l → l ≡ upto (y * w + x) → z ≡ cell b y x → set l (y * w + x) z ≡ upto (y * w + (x + 1))
    unfolding upto
    upto_more l y x z p q r e f =
        let n : y * w + x + 1 ≡ y * w + (x + 1) = omega arith in
        let i : y * w + x < length s = omega (arith, upto_length l (y * w + x) e) in
        ap (λ (t : List ℤ). set t (y * w + x) z) e ∙ part-more (pos 0) (length s) (to s w b) (old s) (y * w + x) z i (f ∙ sym (at_cell y x p q)) ∙ ap (λ (k : ℕ). part (length s) (to s w b) (old s) k) n

    -- between two rows, and after the last, nothing is to change
    between : (y k : ℕ) → y * w + 8 ≤ k → k < (y + 1) * w → to s w b k ≡ old s k
    between y k p q =
        let x = k - y * w in
        let e : k ≡ y * w + x = omega arith in
        let r : x < w = omega (arith, add-mul y 1 w, one-mul w) in
        let m : k % w ≡ x = ap (λ (i : ℕ). i % w) e ∙ mul-add-mod_self_right y w x ∙ mod-eq_of_lt r in
        rw (le-ltb (k % w) 8 (omega arith), and-false (ltb (k / w) 8))

    past : (k : ℕ) → 8 * w ≤ k → to s w b k ≡ old s k
    past k p =
        let d : 8 ≤ k / w = (le-div_iff_mul-le {k = w} (omega arith)).1 p in
        rw (le-ltb (k / w) 8 d)

    pub upto_row : (l : List ℤ) (y x : ℕ) → 8 ≤ x → x ≤ 8 → l ≡ upto (y * w + x) → l ≡ upto ((y + 1) * w)
    unfolding upto
    upto_row l y x p q e =
        let z : x ≡ 8 = omega arith in
        e ∙ ap (λ (k : ℕ). part (length s) (to s w b) (old s) (y * w + k)) z
        ∙ part_skip (length s) (to s w b) (old s) (y * w + 8) ((y + 1) * w) (omega (arith, add-mul y 1 w, one-mul w)) (λ (k : ℕ) (i : k < length s) (u : y * w + 8 ≤ k) (v : k < (y + 1) * w). between y k u v)

    pub upto_all : (l : List ℤ) (y : ℕ) → 8 ≤ y → y ≤ 8 → l ≡ upto (y * w) → l ≡ written s w b
    unfolding upto written
    upto_all l y p q e =
        let z : y ≡ 8 = omega arith in
        let n = length s in
        e ∙ ap (λ (k : ℕ). part n (to s w b) (old s) (k * w)) z
        ∙ part_skip n (to s w b) (old s) (8 * w) (8 * w + n) (omega arith) (λ (k : ℕ) (i : k < n) (u : 8 * w ≤ k) (v : k < 8 * w + n). past k u)
        ∙ sym (part_skip n (to s w b) (old s) n (8 * w + n) (omega arith) (λ (k : ℕ) (i : k < n) (u : n ≤ k) (v : k < 8 * w + n). absurd (lt_irrefl k (omega arith))))
        ∙ part_all n (to s w b) (old s)
