-- The fewest digits that hold a number are its digits without leading zeros; an integer is its sign and the digits of its magnitude. Assumes nothing.
use mathlib.Core.Bool.{Bool, cond, false, true}
use mathlib.Core.List.{List, [], append_assoc, ◌++◌, ◌∷◌}
use mathlib.Core.Logic.{⊎_elim}
use mathlib.Core.Path.{◌≡◌, ap, ap₂, refl, subst, subst⁻¹, sym, ◌∙◌}
use Prim.Native.Nat.{ℕ, suc, zero, ◌%◌, ◌*◌, ◌+◌, ◌-◌, ◌/◌, ◌<◌, ◌^◌, ◌≤◌}
use native.Mathlib.Nat.{mul-le-mul_left}
use native.Mathlib.Omega.{arith}
use lib.IntN.{nat_abs, negsuc, pos, ℤ}
use lib.Pow.{pow-add}
use lib.Signed.{lt_z}
use borrow.Author.Tests.{le-ltb, lt-ltb}
use Rattle.numbers.proofs.Fill.{lt-or-le}
use Rattle.numbers.proofs.Integers.{dn, lt_no, lt_yes, up}
use Rattle.io.specs.Digits.{IsDigitCount, last_digits, hex_digit_ascii}
use Rattle.still_lines.specs.Decimal.{decimal_of, digits_up_to, integer_of}

glyph_is : (d : ℕ) → d < 10 → hex_digit_ascii d ≡ 48 + d
glyph_is d h = ap (λ (t : Bool). cond t (48 + d) (87 + d)) (lt-ltb d 10 h)

digit_of : (n : ℕ) → n % 10 < 10
digit_of n = omega arith

before : (j : ℕ) → suc j - 1 ≡ j
before j = omega arith

next : (j : ℕ) → 10 ^ suc j ≡ 10 * 10 ^ j
next j = ap (λ (k : ℕ). 10 ^ k) (let z : suc j ≡ 1 + j = omega arith in z) ∙ pow-add 10 1 j

least : (j : ℕ) → 1 ≤ 10 ^ j
least zero = omega arith
least (suc j) = omega (arith, next j, least j)

pub digits_are : (k most n : ℕ) → k ≤ most → 1 ≤ k → n < 10 ^ k → (1 < k → 10 ^ (k - 1) ≤ n) → last_digits 10 k n ≡ digits_up_to most n
unfolding digits_up_to
digits_are zero most n a b c d = absurd (omega arith)
digits_are (suc k) zero n a b c d = absurd (omega arith)
digits_are (suc zero) (suc most) n a b c d =
    let h : n < 10 = let z : 10 ^ 1 ≡ 10 = refl in omega arith in
    ap (λ (t : ℕ). t ∷ []) (ap hex_digit_ascii (let z : n % 10 ≡ n = omega arith in z) ∙ glyph_is n h)
    ∙ sym (ap (λ (t : Bool). cond t ((48 + n) ∷ []) (digits_up_to most (n / 10) ++ ((48 + n % 10) ∷ []))) (lt-ltb n 10 h))
digits_are (suc (suc k)) (suc most) n a b c d =
    let low : 10 ^ suc k ≤ n = subst (λ (j : ℕ). 10 ^ j ≤ n) (before (suc k)) (d (omega arith)) in
    let up : n < 10 ^ suc (suc k) = c in
    let e₁ = next k in
    let e₂ = next (suc k) in
    let one = least k in
    let h : 10 ≤ n = omega arith in
    ap₂ (λ (x : List ℕ) (y : ℕ). x ++ (y ∷ [])) (digits_are (suc k) most (n / 10) (omega arith) (omega arith) (omega arith) (λ l. subst⁻¹ (λ (j : ℕ). 10 ^ j ≤ n / 10) (before k) (omega arith))) (glyph_is (n % 10) (digit_of n))
    ∙ sym (ap (λ (t : Bool). cond t ((48 + n) ∷ []) (digits_up_to most (n / 10) ++ ((48 + n % 10) ∷ []))) (le-ltb n 10 h))

-- what the fewest digits of a number are
pub decimal_is : (n k : ℕ) (xs : List ℕ) → IsDigitCount 10 1 n k → xs ≡ last_digits 10 k n → xs ≡ decimal_of n
decimal_is n k xs f e = e ∙ digits_are k (n + 1) n (small k n f) f.0 f.1 f.2
  where
    grows : (j : ℕ) → j < 10 ^ j
    grows zero = omega arith
    grows (suc j) = omega (arith, next j, grows j)

    small : (k n : ℕ) → IsDigitCount 10 1 n k → k ≤ n + 1
    small zero n f = omega arith
    small (suc zero) n f = omega arith
    small (suc (suc k)) n f = let l : 10 ^ suc k ≤ n = subst (λ (j : ℕ). 10 ^ j ≤ n) (before (suc k)) (f.2 (omega arith)) in omega (arith, grows (suc k))

-- a number of 64 bits has at most 20
pub twenty : (n k : ℕ) → IsDigitCount 10 1 n k → n < 18446744073709551616 → k ≤ 20
twenty n k f h = ⊎_elim (λ (a : k < 21). omega arith) (λ (a : 21 ≤ k). absurd (too_many (k - 21) (omega arith))) (lt-or-le k 21)
  where
    too_many : (j : ℕ) → k ≡ 21 + j → ⊥
    too_many j e =
        let l : 10 ^ (k - 1) ≤ n = f.2 (omega arith) in
        let z : k - 1 ≡ 20 + j = omega arith in
        let m : 10 ^ (20 + j) ≤ n = subst (λ (i : ℕ). 10 ^ i ≤ n) z l in
        let p = pow-add 10 20 j in
        let q = mul-le-mul_left {m = 1} {n = 10 ^ j} 100000000000000000000 (least j) in
        omega arith

-- ---- an integer with its sign, after some bytes

module _ (before : List ℕ) (z : ℤ) where
  pub integer_up : lt_z z (pos 0) ≡ false → before ++ decimal_of (nat_abs z) ≡ before ++ integer_of z
  integer_up e = go z (lt_no z (pos 0) e)
    where
      go : (z : ℤ) → up (pos 0) + dn z ≤ up z + dn (pos 0) → before ++ decimal_of (nat_abs z) ≡ before ++ integer_of z
      go (pos n) h = refl
      go (negsuc n) h = absurd (omega arith)

  pub integer_down : lt_z z (pos 0) ≡ true → before ++ (45 ∷ []) ++ decimal_of (nat_abs z) ≡ before ++ integer_of z
  integer_down e = go z (lt_yes z (pos 0) e)
    where
      go : (z : ℤ) → up z + dn (pos 0) < up (pos 0) + dn z → before ++ (45 ∷ []) ++ decimal_of (nat_abs z) ≡ before ++ integer_of z
      go (pos n) h = absurd (omega arith)
      go (negsuc n) h = append_assoc before (45 ∷ []) (decimal_of (suc n))
