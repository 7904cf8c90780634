-- An f64 to which 3 * 2 ^ 51 is added, and taken off again, is a whole number, since from 2 ^ 52 on the f64s are the whole numbers. Assumes nothing.
use mathlib.Core.Bool.{Bool, true, false, not, cond}
use mathlib.Core.Path.{◌≡◌, refl, sym, ap, ◌∙◌, subst}
use Prim.Native.Nat.{ℕ, suc, ◌+◌, ◌-◌, ◌*◌, ◌^◌, ◌≤◌, ◌<◌}
use native.Mathlib.Nat.{le_trans, le_of_eq, mul-le-mul_left, mul-lt-mul_of_pos_right, mul-one, pow-succ'}
use native.Mathlib.Omega.{arith}
use lib.Dec.{T, ltb, ltb→lt, lit≤, nltb→le}
use lib.Ieee.{Float, nan, inf, fin, binary64, add, fits, neg, of_int, round, sub, sum}
use lib.Ieee.Fits.{add-fits}
use lib.IntN.{ℤ, pos, negsuc, nat_abs, ◌+ℤ◌}
use lib.Pow.{pow_pos}
use Rattle.numbers.proofs.Integers.{abs_is, add_is, dn, neg-up, up}
use Rattle.f64_error.proofs.Binary64.{Part, add_off, grain_pos, off, one-is, one-pos}
use Rattle.f64_error.proofs.Operations.{Close}
use Rattle.f64_error.proofs.Zeros.{whole_units}
use Rattle.f64_error.specs.Units.{Is, one}

-- 3 * 2 ^ 51
abbrev pub shift : Float
shift = fin false 3 (pos 51)

shift_is : Is shift (pos (6755399441055744 * one))
unfolding Is one
shift_is = (6755399441055744 * 2 ^ 1074, refl, refl)

-- ---- an f64 that is 2 ^ 52 at least
no_fraction : (m n O K : ℕ) → 0 < O → 0 < K → m < 9007199254740992 → 4503599627370496 * O ≤ n → m * 1 * O ≡ n * (2 * K) → ⊥
no_fraction m n O K o k s l e =
    let a : m * O < 9007199254740992 * O = mul-lt-mul_of_pos_right s o in
    let b : n * (2 * 1) ≤ n * (2 * K) = mul-le-mul_left n (twice K k) in
    let c : m * 1 * O ≡ m * O = ap (λ (z : ℕ). z * O) (mul-one m) in
    line (m * O) (n * (2 * K)) O n a b l (sym c ∙ e)
  where
    twice : (K : ℕ) → 0 < K → 2 * 1 ≤ 2 * K
    twice K h = omega arith

    line : (p q O n : ℕ) → p < 9007199254740992 * O → n * (2 * 1) ≤ q → 4503599627370496 * O ≤ n → p ≡ q → ⊥
    line p q O n a b l e = omega arith

-- y is m * 2 ^ a exactly, which is w units
pub record IsWhole (y : Float) (w : ℤ) : Type 0 where
  pub m : ℕ
  pub a : ℕ
  pub is : y ≡ fin false m (pos a)
  pub value : w ≡ pos (m * 2 ^ a * one)

grows : (a b : ℕ) → a ≤ a + b
grows a b = omega arith

is_whole : (y : Float) (w : ℤ) → T (fits binary64 y) → Is y w → 4503599627370496 * one + dn w ≤ up w → IsWhole y w
unfolding Is one
is_whole nan w f h l = absurd h
is_whole (inf s) w f h l = absurd h
is_whole (fin true m e) w f h l = absurd (line (up w) one (ap up h.2 ∙ neg-up (pos h.0)) one-pos (le_trans (grows (4503599627370496 * one) (dn w)) l))
  where
    line : (u O : ℕ) → u ≡ 0 → 0 < O → 4503599627370496 * O ≤ u → ⊥
    line u O e o g = omega arith
is_whole (fin false m (pos a)) w f h l = record { m = m; a = a; is = refl; value = h.2 ∙ ap pos (sym (mul-one h.0) ∙ sym h.1) }
is_whole (fin false m (negsuc k)) w f h l =
    absurd
    (no_fraction m h.0 one (2 ^ k) one-pos (pow_pos k) (whole_units binary64 false m (negsuc k) f).0
    (le_trans (grows (4503599627370496 * one) (dn w)) (le_trans l (le_of_eq (ap up h.2))))
    (h.1 ∙ ap (λ (z : ℕ). h.0 * z) (pow-succ' 2 k)))

-- ---- a whole number less 3 * 2 ^ 51
pub record Less (z : Float) (A : ℕ) : Type 0 where
  pub t : ℤ
  pub is : z ≡ of_int binary64 t
  pub value : up t + 6755399441055744 ≡ dn t + A

less : (A : ℕ) → Less (cond (ltb A 6755399441055744) (round binary64 true (6755399441055744 - A) 1) (round binary64 false (A - 6755399441055744) 1)) A
unfolding of_int
less A = go (ltb A 6755399441055744) (ltb→lt A 6755399441055744) (nltb→le A 6755399441055744)
  where
    next : (A S : ℕ) → A < S → S - A ≡ suc (S - suc A)
    next A S h = omega arith

    go : (b : Bool) → (T b → A < 6755399441055744) → (T (not b) → 6755399441055744 ≤ A) → Less (cond b (round binary64 true (6755399441055744 - A) 1) (round binary64 false (A - 6755399441055744) 1)) A
    go true h k = let l = h tt in
        record { t = negsuc (6755399441055744 - suc A); is = ap (λ (z : ℕ). round binary64 true z 1) (next A 6755399441055744 l); value = omega arith }
    go false h k = let l = k tt in
        record { t = pos (A - 6755399441055744); is = refl; value = omega arith }

shift_off : (m a : ℕ) → Less (sub binary64 (fin false m (pos a)) shift) (m * 2 ^ a)
unfolding sub neg add sum
shift_off m a = subst (λ (z : ℕ). Less (cond (ltb z 6755399441055744) (round binary64 true (6755399441055744 - z) 1) (round binary64 false (z - 6755399441055744) 1)) (m * 2 ^ a)) (sym (mul-one (m * 2 ^ a))) (less (m * 2 ^ a))

-- ---- so x within 2 ^ 20 goes to a whole number near to it
pub record Shifted (x : Float) (v : ℤ) : Type 0 where
  pub t : ℤ
  pub is : sub binary64 (add binary64 x shift) shift ≡ of_int binary64 t
  pub part : Part v t

near : (v w t : ℤ) (A : ℕ) → Close w (v +ℤ pos (6755399441055744 * one)) (off 53) → w ≡ pos (A * one) → up t + 6755399441055744 ≡ dn t + A → Part v t
near v w t A c e h =
    let s = add_is v (pos (6755399441055744 * one)) in
    let k : (up t + 6755399441055744) * one ≡ (dn t + A) * one = ap (λ (z : ℕ). z * one) h in
    let a : up w ≡ A * one = ap up e in
    let b : dn w ≡ 0 = ap dn e in
    let o = one-is in
    let g = grain_pos in
    record { over = omega (arith, c.over, c.under); under = omega (arith, c.over, c.under) }

shift_and_back : (x : Float) (v w : ℤ) → IsWhole (add binary64 x shift) w → Close w (v +ℤ pos (6755399441055744 * one)) (off 53) → Shifted x v
shift_and_back x v w q c =
    let d = shift_off q.m q.a in
    record { t = d.t; is = ap (λ (y : Float). sub binary64 y shift) q.is ∙ d.is; part = near v w d.t (q.m * 2 ^ q.a) c q.value d.value }

pub shifted : (x : Float) (v : ℤ) → Is x v → nat_abs v ≤ 1048576 * one → Shifted x v
shifted x v i size =
    let o = one-is in
    let g = grain_pos in
    let s = add_is v (pos (6755399441055744 * one)) in
    let n = abs_is v in
    let r = add_off 53 x shift v (pos (6755399441055744 * one)) (lit≤ tt) i shift_is (omega arith) in
    shift_and_back x v r.0 (is_whole (add binary64 x shift) r.0 (add-fits binary64 x shift) r.1 (omega (arith, r.2.over, r.2.under))) r.2
