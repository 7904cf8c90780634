-- A product with a factor that is at most a quarter, whose error and size are a quarter too; and the factors C(v) / 4. Assumes nothing.
use mathlib.Core.Bool.{Bool, true, false, cond}
use mathlib.Core.Path.{◌≡◌, refl, sym, subst}
use Prim.Native.Nat.{ℕ, suc, ◌+◌, ◌*◌, ◌^◌, ◌≤◌, ◌<◌}
use native.Mathlib.Nat.{le_of_mul-le-mul_right, lt_of_le_of_lt, mul-le-mul, mul-le-mul_left, mul-le-mul_right, mul-lt-mul_of_pos_right}
use native.Mathlib.Omega.{arith}
use lib.Dec.{eqb, lit<, lit≤}
use lib.Ieee.{Float, binary64, mul, of_bits}
use lib.IntN.{ℤ, negsuc, nat_abs, pos, ◌*ℤ◌}
use Rattle.numbers.proofs.Integers.{abs_is, dn, mul-dn, mul-up, up}
use Rattle.f64_error.proofs.Approx.{Approx}
use Rattle.f64_error.proofs.Binary64.{below, mul_off, off, one-pos}
use Rattle.f64_error.specs.Units.{Is, one}
use Rattle.cosines.specs.Cosines.{c_f, c_z}
use Rattle.exact_transform.specs.EvenOdd.{quarter}

-- 2 ^ 57 of these are 1.0
unfoldable unit : ℕ
unit = 2 ^ 1017

unit_is : one ≡ 4 * 2 ^ 55 * unit
unfolding one unit
unit_is = refl

unit_pos : 0 < unit
unfolding unit
unit_pos = lit< tt

-- ---- C(v) / 4

c-positive : (v : ℕ) → c_z v ≡ pos (up (c_z v))
unfolding c_z
c-positive v = go (eqb v 0)
  where
    go : (b : Bool) → cond b (pos 25476206690103092) (pos 36028797018963968) ≡ pos (up (cond b (pos 25476206690103092) (pos 36028797018963968)))
    go true = refl
    go false = refl

c_small : (v : ℕ) → up (c_z v) ≤ 2 ^ 55
unfolding c_z
c_small v = go (eqb v 0)
  where
    go : (b : Bool) → up (cond b (pos 25476206690103092) (pos 36028797018963968)) ≤ 2 ^ 55
    go true = lit≤ tt
    go false = lit≤ tt

c-quarter : (v : ℕ) → Is (mul binary64 quarter (c_f v)) (pos (up (c_z v) * unit))
unfolding Is c_f c_z unit of_bits mul
c-quarter v = go (eqb v 0)
  where
    go : (b : Bool) → Is (mul binary64 quarter (cond b (of_bits binary64 0x3fe6a09e667f3bcd) (of_bits binary64 0x3ff0000000000000))) (pos (up (cond b (pos 25476206690103092) (pos 36028797018963968)) * unit))
    go true = (25476206690103092 * 2 ^ 1017, refl, refl)
    go false = (36028797018963968 * 2 ^ 1017, refl, refl)

-- ---- a product with C / (4 P), for a C up to P

-- the signs stand for either of the two bounds
side : (pu nu pv nv pa na C K P S e h : ℕ) → 0 < P → 0 < K → C ≤ P
    → pu * (4 * P * K) + C * K * nv ≤ nu * (4 * P * K) + C * K * pv + h * (4 * P * K)
    → pv + na * (S * P * 4) ≤ nv + pa * (S * P * 4) + 4 * e
    → pu + C * na * S ≤ nu + C * pa * S + (e + h)
side pu nu pv nv pa na C K P S e h p k c t o = le_of_mul-le-mul_right (last (le_of_mul-le-mul_right (first t) k) (mul-le-mul_left C o) (mul-le-mul_left e c)) p
  where
    first : pu * (4 * P * K) + C * K * nv ≤ nu * (4 * P * K) + C * K * pv + h * (4 * P * K) → (pu * (4 * P) + C * nv) * K ≤ (nu * (4 * P) + C * pv + h * (4 * P)) * K
    first g = omega arith

    last : pu * (4 * P) + C * nv ≤ nu * (4 * P) + C * pv + h * (4 * P) → C * (pv + na * (S * P * 4)) ≤ C * (nv + pa * (S * P * 4) + 4 * e) → e * C ≤ e * P
        → (pu + C * na * S) * P ≤ (nu + C * pa * S + (e + h)) * P
    last x y z = omega arith

-- the size of the result, one of whose two halves is 0
most : (u : ℤ) (pv nv m h C K P : ℕ) → 0 < P → 0 < K → C ≤ P → pv + nv ≤ 4 * m
    → up u * (4 * P * K) + C * K * nv ≤ dn u * (4 * P * K) + C * K * pv + h * (4 * P * K)
    → dn u * (4 * P * K) + C * K * pv ≤ up u * (4 * P * K) + C * K * nv + h * (4 * P * K)
    → up u + dn u ≤ m + h
most u pv nv m h C K P p k c l t1 t2 = go u t1 t2
  where
    one_side : (n i w : ℕ) → w ≤ 4 * m → n * (4 * P * K) + i ≤ C * K * w + h * (4 * P * K) → n ≤ m + h
    one_side n i w g t = le_of_mul-le-mul_right (last (le_of_mul-le-mul_right (first t) k) (mul-le-mul c g)) p
      where
        first : n * (4 * P * K) + i ≤ C * K * w + h * (4 * P * K) → (n * (4 * P)) * K ≤ (C * w + h * (4 * P)) * K
        first z = omega arith

        last : n * (4 * P) ≤ C * w + h * (4 * P) → C * w ≤ P * (4 * m) → n * P ≤ (m + h) * P
        last y z = omega arith

    go : (u : ℤ) → up u * (4 * P * K) + C * K * nv ≤ dn u * (4 * P * K) + C * K * pv + h * (4 * P * K) → dn u * (4 * P * K) + C * K * pv ≤ up u * (4 * P * K) + C * K * nv + h * (4 * P * K) → up u + dn u ≤ m + h
    go (pos n) a b = omega (arith, one_side n (C * K * nv) pv (omega arith) (omega arith))
    go (negsuc n) a b = omega (arith, one_side (suc n) (C * K * pv) nv (omega arith) (omega arith))

-- the bounds of x are four times those of the result
approx_quarter : (j : ℕ) (x y : Float) (S P C K : ℕ) (a : ℤ) (e m : ℕ) → j ≤ 900 → one ≡ 4 * P * K → 0 < P → 0 < K → C ≤ P → Is y (pos (C * K)) → Approx x (S * P * 4) a (4 * e) (4 * m) → m < below j
    → Approx (mul binary64 y x) S (pos C *ℤ a) (e + off j) (m + off j)
approx_quarter j x y S P C K a e m J o p k c w q s =
    let v = q.v in
    let r = mul_off j y x (pos (C * K)) v J w q.is (room (nat_abs v) (omega (arith, abs_is v, q.size))) in
    let u = r.0 in
    let t1 : up u * (4 * P * K) + C * K * dn v ≤ dn u * (4 * P * K) + C * K * up v + off j * (4 * P * K) = plain (up u) (dn u) (up v) (dn v) one o r.2.over in
    let t2 : dn u * (4 * P * K) + C * K * up v ≤ up u * (4 * P * K) + C * K * dn v + off j * (4 * P * K) = plain (dn u) (up u) (dn v) (up v) one o r.2.under in
    record {
      v = u;
      is = r.1;
      over = rw (mul-up (pos C) a, mul-dn (pos C) a) (signs (up u) (dn u) (up a) (dn a) (side (up u) (dn u) (up v) (dn v) (up a) (dn a) C K P S e (off j) p k c t1 q.over));
      under = rw (mul-up (pos C) a, mul-dn (pos C) a) (signs (dn u) (up u) (dn a) (up a) (side (dn u) (up u) (dn v) (up v) (dn a) (up a) C K P S e (off j) p k c t2 q.under));
      size = most u (up v) (dn v) m (off j) C K P p k c q.size t1 t2;
    }
  where
    room : (n : ℕ) → n ≤ 4 * m → C * K * n < below j * one
    room n h = lt_of_le_of_lt (line one o (mul-le-mul (mul-le-mul_right K c) h)) (mul-lt-mul_of_pos_right s one-pos)
      where
        line : (l : ℕ) → l ≡ 4 * P * K → C * K * n ≤ P * K * (4 * m) → C * K * n ≤ m * l
        line l z g = subst (λ (i : ℕ). C * K * n ≤ m * i) (sym z) (omega arith)

    plain : (pu nu pv nv l : ℕ) → l ≡ 4 * P * K → pu * l + (C * K * nv + 0 * pv) ≤ nu * l + (C * K * pv + 0 * nv) + off j * l → pu * (4 * P * K) + C * K * nv ≤ nu * (4 * P * K) + C * K * pv + off j * (4 * P * K)
    plain pu nu pv nv l z g = subst (λ (n : ℕ). pu * n + C * K * nv ≤ nu * n + C * K * pv + off j * n) z (omega arith)

    signs : (pu nu pa na : ℕ) → pu + C * na * S ≤ nu + C * pa * S + (e + off j) → pu + (C * na + 0 * pa) * S ≤ nu + (C * pa + 0 * na) * S + (e + off j)
    signs pu nu pa na g = omega arith

-- a product with C(v) / 4
pub approx_factor : (j : ℕ) (x : Float) (S : ℕ) (a : ℤ) (e m v : ℕ) → j ≤ 900 → Approx x (S * 2 ^ 55 * 4) a (4 * e) (4 * m) → m < below j → Approx (mul binary64 (mul binary64 quarter (c_f v)) x) S (c_z v *ℤ a) (e + off j) (m + off j)
approx_factor j x S a e m v J p s =
    subst (λ (z : ℤ). Approx (mul binary64 (mul binary64 quarter (c_f v)) x) S (z *ℤ a) (e + off j) (m + off j)) (sym (c-positive v))
    (approx_quarter j x (mul binary64 quarter (c_f v)) S (2 ^ 55) (up (c_z v)) unit a e m J unit_is (lit< tt) unit_pos (c_small v) (c-quarter v) p s)
