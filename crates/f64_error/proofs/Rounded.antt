-- How far `round` moves a fraction: n / den units, below 2 ^ (prec + 1 + k), go to a whole number of units within 2 ^ k; the format is a variable, so that no power of two is written out. Assumes nothing.
use mathlib.Core.Bool.{Bool, not}
use mathlib.Core.Path.{◌≡◌, sym, ap, ◌∙◌, subst}
use Prim.Native.Nat.{ℕ, suc, ◌+◌, ◌-◌, ◌*◌, ◌^◌, ◌≤◌, ◌<◌, ◌/◌, ◌%◌, compare, Ordering}
use native.Mathlib.Nat.{le_trans, le_of_eq, lt_of_le_of_lt, mul_assoc, mul-le-mul_right, mul-pos, div-add-mod', mod-lt, div-lt_iff_lt-mul, mul-le-mul_left, mul_comm, div-div-eq-div-mul, two-pow-succ}
use native.Mathlib.Omega.{arith}
use lib.Arith.{lt_of_le-ne}
use lib.Dec.{T, leb→le, eqb, eqb→eq, is_le, compare_is_eq, nleb→lt, eqb_refl}
use lib.Ieee.{Float, Format, prec, emax, low, round, size, nearest}
use lib.Ieee.Digits.{size-le}
use lib.Ieee.Exact.{HasValue, units_val}
use lib.Ieee.Fits.{nearest-le, kept-lt, round_is}
use lib.Ieee.Nearest.{closest}
use lib.Pow.{pow_pos, pow-add, pow_mono}

-- ---- what `compare` says
abbrev Cmp : Ordering → ℕ → ℕ → Type 0
Cmp Ordering.lt a b = a < b
Cmp Ordering.eq a b = a ≡ b
Cmp Ordering.gt a b = b < a

cmp : (a b : ℕ) → Cmp (compare a b) a b
cmp a b = go (compare a b) (leb→le a b) (nleb→lt a b) (eqb→eq a b) (λ (e : a ≡ b). subst (λ (x : ℕ). T (eqb a x)) e (eqb_refl a))
  where
    go : (o : Ordering) → (T (is_le o) → a ≤ b) → (T (not (is_le o)) → b < a) → (T (compare_is_eq o) → a ≡ b) → (a ≡ b → T (compare_is_eq o)) → Cmp o a b
    go Ordering.lt h k e n = lt_of_le-ne (h tt) n
    go Ordering.eq h k e n = e tt
    go Ordering.gt h k e n = k tt

-- ---- the nearest whole number is within a half
bit_le : (w : ℕ) → w % 2 ≤ 1
bit_le w = omega arith

off : (w r u : ℕ) (o : Ordering) → Cmp o (r * 2) u → r < u → (2 * (nearest w o * u) ≤ 2 * (w * u + r) + u) × (2 * (w * u + r) ≤ 2 * (nearest w o * u) + u)
off w r u Ordering.lt c l = omega arith
off w r u Ordering.eq c l = tie (w % 2) (mul-le-mul_right u (bit_le w))
  where
    tie : (b : ℕ) → b * u ≤ 1 * u → (2 * ((w + b) * u) ≤ 2 * (w * u + r) + u) × (2 * (w * u + r) ≤ 2 * ((w + b) * u) + u)
    tie b h = omega arith
off w r u Ordering.gt c l = omega arith

pub closest_off : (n u : ℕ) → 0 < u → (2 * (closest n u * u) ≤ 2 * n + u) × (2 * n ≤ 2 * (closest n u * u) + u)
closest_off n u h =
    subst (λ (x : ℕ). (2 * (closest n u * u) ≤ 2 * x + u) × (2 * x ≤ 2 * (closest n u * u) + u)) (div-add-mod' n u)
    (off (n / u) (n % u) u (compare (n % u * 2) u) (cmp (n % u * 2) u) (mod-lt n h))

-- ---- `round`
spare : (z p l : ℕ) → z ≤ p + l → z - p ≤ l
spare z p l h = omega arith

-- r units are within 2 ^ k units of n / den
pub record Off (r n den h : ℕ) : Type 0 where
  pub over : r * den ≤ n + h * den
  pub under : n ≤ r * den + h * den

twice : (r n den c k : ℕ) → 2 * (r * den) ≤ 2 * n + k → 2 * n ≤ 2 * (r * den) + k → k ≤ (c + c) * den → Off r n den c
twice r n den c k a b l = record { over = omega arith; under = omega arith }

pub round_off : (f : Format) (s : Bool) (num den k : ℕ) → 0 < den → num * 2 ^ low f < 2 ^ (prec f + suc k) * den → 2 ^ (prec f + suc k) < 2 ^ (low f + suc (emax f))
    → (r : ℕ) × HasValue (round f s num den) s r (2 ^ low f) × Off r (num * 2 ^ low f) den (2 ^ k)
round_off f s num den k D small fine =
    let p = prec f in
    let n = num * 2 ^ low f in
    let w = n / den in
    let j = size w - p in
    let u = den * 2 ^ j in
    let q = closest n u in
    let r = q * 2 ^ j in
    let j-le : j ≤ suc k = spare (size w) p (suc k) (size-le w (p + suc k) ((div-lt_iff_lt-mul D).1 small)) in
    let q-le : q ≤ 2 ^ p = le_trans (nearest-le (n / u) (compare (n % u * 2) u)) (subst (λ (x : ℕ). x < 2 ^ p) (div-div-eq-div-mul n den (2 ^ j)) (kept-lt p w)) in
    let r-le : r ≤ 2 ^ (p + suc k) = le_trans (mul-le-mul_right (2 ^ j) q-le) (le_trans (mul-le-mul_left (2 ^ p) (pow_mono j-le)) (le_of_eq (sym (pow-add 2 p (suc k))))) in
    let has : HasValue (round f s num den) s r (2 ^ low f) = subst (λ (x : Float). HasValue x s r (2 ^ low f)) (sym (round_is f s num den)) (units_val f s q j (lt_of_le_of_lt r-le fine)) in
    let o = closest_off n u (mul-pos D (pow_pos j)) in
    let e : q * u ≡ r * den = ap (λ (x : ℕ). q * x) (mul_comm den (2 ^ j)) ∙ sym (mul_assoc q (2 ^ j) den) in
    let u-le : u ≤ (2 ^ k + 2 ^ k) * den = le_trans (mul-le-mul_left den (le_trans (pow_mono j-le) (le_of_eq (two-pow-succ k)))) (le_of_eq (mul_comm den (2 ^ k + 2 ^ k))) in
    (r, has, twice r n den (2 ^ k) u (subst (λ (x : ℕ). 2 * x ≤ 2 * n + u) e o.0) (subst (λ (x : ℕ). 2 * n ≤ 2 * x + u) e o.1) u-le)
