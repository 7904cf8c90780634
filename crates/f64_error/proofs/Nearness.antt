-- How far off a sum, a product with a constant and a half are. Assumes nothing.
use mathlib.Core.Bool.{false}
use mathlib.Core.Path.{◌≡◌, sym, ap, ◌∙◌}
use Prim.Native.Nat.{ℕ, ◌+◌, ◌*◌, ◌≤◌, ◌<◌}
use native.Mathlib.Nat.{le_trans, le_of_eq, lt_of_le_of_lt, mul_assoc, add-mul, mul-le-mul_right, mul-lt-mul_of_pos_right, le_of_mul-le-mul_right, mul-le-mul, mul-le-mul_left, add_comm}
use native.Mathlib.Omega.{arith}
use lib.Ieee.{Float, fin, add, mul, binary64, size}
use lib.IntN.{ℤ, pos, nat_abs, ◌+ℤ◌, negsuc, ◌*ℤ◌}
use Rattle.numbers.proofs.Integers.{abs_is, add_is, dn, mul-dn, mul-up, up}
use Rattle.f64_error.proofs.Binary64.{add_off, below, mul_off, off, one-pos, zero_is}
use Rattle.f64_error.proofs.Operations.{Close}
use Rattle.f64_error.proofs.Sizes.{size-one}
use Rattle.f64_error.proofs.Approx.{Const, Approx}
use Rattle.f64_error.specs.Units.{Is, one}

-- v is within h of X - Y, in units of 1 / P
size_of : (v : ℤ) (P X Y h : ℕ) → up v * P + Y ≤ dn v * P + X + h * P → dn v * P + X ≤ up v * P + Y + h * P → (up v + dn v) * P ≤ X + Y + h * P
size_of (pos n) P X Y h a b = omega arith
size_of (negsuc n) P X Y h a b = omega arith

pub approx_zero : (S : ℕ) → Approx (fin false 0 (pos 0)) S (pos 0) 0 0
approx_zero S = record { v = pos 0; is = zero_is; over = omega arith; under = omega arith; size = omega arith }

-- ---- a sum
pub approx_add : (j : ℕ) (x y : Float) (S : ℕ) (a b : ℤ) (d e m n : ℕ) → j ≤ 900 → Approx x S a d m → Approx y S b e n → m + n < below j
    → Approx (add binary64 x y) S (a +ℤ b) (d + e + off j) (m + n + off j)
approx_add j x y S a b d e m n J p q s =
    let r = add_off j x y p.v q.v J p.is q.is (fits p.v q.v p.size q.size) in
    finish r.0 r.1 p.v q.v r.2 p.over p.under q.over q.under p.size q.size
  where
    fits : (v w : ℤ) → up v + dn v ≤ m → up w + dn w ≤ n → nat_abs v + nat_abs w < below j
    fits v w h k = omega (arith, abs_is v, abs_is w)

    finish : (u : ℤ) → Is (add binary64 x y) u → (v w : ℤ) → Close u (v +ℤ w) (off j) → up v + dn a * S ≤ dn v + up a * S + d → dn v + up a * S ≤ up v + dn a * S + d
        → up w + dn b * S ≤ dn w + up b * S + e → dn w + up b * S ≤ up w + dn b * S + e → up v + dn v ≤ m → up w + dn w ≤ n → Approx (add binary64 x y) S (a +ℤ b) (d + e + off j) (m + n + off j)
    finish u i v w c vo vu wo wu vs ws =
        let c1 = c.over in
        let c2 = c.under in
        let e1 = add_is v w in
        let e2 : (up (a +ℤ b) + (dn a + dn b)) * S ≡ (dn (a +ℤ b) + (up a + up b)) * S = ap (λ (z : ℕ). z * S) (add_is a b) in
        let l : up u + dn u ≤ up v + up w + (dn v + dn w) + off j = size-one u (up v + up w) (dn v + dn w) (off j) (omega arith) (omega arith) in
        record { v = u; is = i; over = omega arith; under = omega arith; size = omega arith }

-- ---- a product with a constant
-- of a factor below a bound, and one no more than 1
const_small : (pw nw P pc nc : ℕ) → 0 < P → pw * P ≡ pc * one → nw * P ≡ nc * one → pc + nc ≤ P → pw + nw ≤ one
const_small pw nw P pc nc p a b h = le_of_mul-le-mul_right (line (mul-le-mul_right one h)) p
  where
    line : (pc + nc) * one ≤ P * one → (pw + nw) * P ≤ one * P
    line g = omega arith

-- u * one is within h * one of v * w, where w is c / P: so u * P is within h * P of v * c
spread : (pu nu x y L P h : ℕ) → (pu * L + x) ≤ nu * L + y + h * L → pu * P * L + x * P ≤ nu * P * L + y * P + h * P * L
spread pu nu x y L P h t = let t' : (pu * L + x) * P ≤ (nu * L + y + h * L) * P = mul-le-mul_right P t in line t'
  where
    line : (pu * L + x) * P ≤ (nu * L + y + h * L) * P → pu * P * L + x * P ≤ nu * P * L + y * P + h * P * L
    line t' = omega arith

mix : (p n a b c d P L : ℕ) → a * P ≡ c * L → b * P ≡ d * L → (p * a + n * b) * P ≡ (p * c + n * d) * L
mix p n a b c d P L g h =
    add-mul (p * a) (n * b) P
    ∙ ap (λ (z : ℕ). z + n * b * P) (mul_assoc p a P ∙ ap (λ (z : ℕ). p * z) g ∙ sym (mul_assoc p c L))
    ∙ ap (λ (z : ℕ). p * c * L + z) (mul_assoc n b P ∙ ap (λ (z : ℕ). n * z) h ∙ sym (mul_assoc n d L))
    ∙ sym (add-mul (p * c) (n * d) L)

cancel : (pu nu pv nv pw nw pc nc P h : ℕ) → pw * P ≡ pc * one → nw * P ≡ nc * one → pu * one + (pv * nw + nv * pw) ≤ nu * one + (pv * pw + nv * nw) + h * one
    → pu * P + (pv * nc + nv * pc) ≤ nu * P + (pv * pc + nv * nc) + h * P
cancel pu nu pv nv pw nw pc nc P h a b t =
    let m1 = mix pv nv nw pw nc pc P one b a in
    let m2 = mix pv nv pw nw pc nc P one a b in
    le_of_mul-le-mul_right (line (pu * P) (pv * nc + nv * pc) (nu * P) (pv * pc + nv * nc) (h * P) ((pv * nw + nv * pw) * P) ((pv * pw + nv * nw) * P) (spread pu nu (pv * nw + nv * pw) (pv * pw + nv * nw) one P h t) m1 m2) one-pos
  where
    line : (u x n y g xP yP : ℕ) → u * one + xP ≤ n * one + yP + g * one → xP ≡ x * one → yP ≡ y * one → (u + x) * one ≤ (n + y + g) * one
    line u x n y g xP yP r m1 m2 = omega arith

rebound : (pu nu pv nv pw nw pc nc P h : ℕ) → pw * P ≡ pc * one → nw * P ≡ nc * one → nu * one + (pv * pw + nv * nw) ≤ pu * one + (pv * nw + nv * pw) + h * one
    → nu * P + (pv * pc + nv * nc) ≤ pu * P + (pv * nc + nv * pc) + h * P
rebound pu nu pv nv pw nw pc nc P h a b t = cancel nu pu pv nv nw pw nc pc P h b a t

-- v is within e of a * S * P, and u * P within h * P of v * c: so u is within e + h of a * c * S. The signs stand for either of the two bounds.
through : (pu nu pv nv pc nc P h pa na S e : ℕ) → 0 < P → pc + nc ≤ P
    → pu * P + (pv * nc + nv * pc) ≤ nu * P + (pv * pc + nv * nc) + h * P
    → pv + na * (S * P) ≤ nv + pa * (S * P) + e → nv + pa * (S * P) ≤ pv + na * (S * P) + e
    → pu + (pa * nc + na * pc) * S ≤ nu + (pa * pc + na * nc) * S + (e + h)
through pu nu pv nv pc nc P h pa na S e p s t o u = le_of_mul-le-mul_right (line (mul-le-mul_right pc o) (mul-le-mul_right nc u) (mul-le-mul_left e s)) p
  where
    line : (pv + na * (S * P)) * pc ≤ (nv + pa * (S * P) + e) * pc → (nv + pa * (S * P)) * nc ≤ (pv + na * (S * P) + e) * nc → e * (pc + nc) ≤ e * P
        → (pu + (pa * nc + na * pc) * S) * P ≤ (nu + (pa * pc + na * nc) * S + (e + h)) * P
    line x y z = omega arith

other : (pu nu pv nv pc nc P h pa na S e : ℕ) → 0 < P → pc + nc ≤ P
    → nu * P + (pv * pc + nv * nc) ≤ pu * P + (pv * nc + nv * pc) + h * P
    → pv + na * (S * P) ≤ nv + pa * (S * P) + e → nv + pa * (S * P) ≤ pv + na * (S * P) + e
    → nu + (pa * pc + na * nc) * S ≤ pu + (pa * nc + na * pc) * S + (e + h)
other pu nu pv nv pc nc P h pa na S e p s t o u = through nu pu pv nv nc pc P h pa na S e p (le_trans (le_of_eq (add_comm nc pc)) s) t o u

factor-lt : (v w m M : ℕ) → v ≤ m → m < M → w ≤ one → v * w < M * one
factor-lt v w m M a b c = lt_of_le_of_lt (mul-le-mul a c) (mul-lt-mul_of_pos_right b one-pos)

approx_product : (x : Float) (u v a c : ℤ) (S P e m h : ℕ) → Is x u → 0 < P → up c + dn c ≤ P
    → up u * P + (up v * dn c + dn v * up c) ≤ dn u * P + (up v * up c + dn v * dn c) + h * P
    → dn u * P + (up v * up c + dn v * dn c) ≤ up u * P + (up v * dn c + dn v * up c) + h * P
    → up v + dn a * (S * P) ≤ dn v + up a * (S * P) + e → dn v + up a * (S * P) ≤ up v + dn a * (S * P) + e → up v + dn v ≤ m
    → Approx x S (a *ℤ c) (e + h) (m + h)
approx_product x u v a c S P e m h i p s t1 t2 o d z =
    record {
      v = u;
      is = i;
      over = simp (mul-up, mul-dn) (through (up u) (dn u) (up v) (dn v) (up c) (dn c) P h (up a) (dn a) S e p s t1 o d);
      under = simp (mul-up, mul-dn) (other (up u) (dn u) (up v) (dn v) (up c) (dn c) P h (up a) (dn a) S e p s t2 o d);
      size = le_of_mul-le-mul_right (le_trans (size_of u P (up v * up c + dn v * dn c) (up v * dn c + dn v * up c) h t1 t2) (most (up v) (dn v) (up c) (dn c) (mul-le-mul z s))) p;
    }
  where
    most : (pv nv pc nc : ℕ) → (pv + nv) * (pc + nc) ≤ m * P → pv * pc + nv * nc + (pv * nc + nv * pc) + h * P ≤ (m + h) * P
    most pv nv pc nc g = omega arith

pub approx_mul : (j : ℕ) (x y : Float) (S P : ℕ) (a c : ℤ) (e m : ℕ) → j ≤ 900 → Approx x (S * P) a e m → Const y P c → m < below j
    → Approx (mul binary64 x y) S (a *ℤ c) (e + off j) (m + off j)
approx_mul j x y S P a c e m J p k s =
    let v = p.v in
    let w = k.w in
    let w_le : nat_abs w ≤ one = le_trans (le_of_eq (abs_is w)) (const_small (up w) (dn w) P (up c) (dn c) k.some k.plus k.minus k.small) in
    let r = mul_off j x y v w J p.is k.is (factor-lt (nat_abs v) (nat_abs w) m (below j) (le_trans (le_of_eq (abs_is v)) p.size) s w_le) in
    let u = r.0 in
    approx_product (mul binary64 x y) u v a c S P e m (off j) r.1 k.some k.small
    (cancel (up u) (dn u) (up v) (dn v) (up w) (dn w) (up c) (dn c) P (off j) k.plus k.minus r.2.over)
    (rebound (up u) (dn u) (up v) (dn v) (up w) (dn w) (up c) (dn c) P (off j) k.plus k.minus r.2.under)
    p.over p.under p.size

-- ---- half of a number: the error halves too
pub approx_half : (j : ℕ) (x y : Float) (S : ℕ) (a : ℤ) (e m : ℕ) → j ≤ 900 → Approx x (S * 2) a (2 * e) (2 * m) → Const y 2 (pos 1) → 2 * m < below j
    → Approx (mul binary64 x y) S a (e + off j) (m + off j)
approx_half j x y S a e m J p k s =
    let v = p.v in
    let w = k.w in
    let w_le : nat_abs w ≤ one = le_trans (le_of_eq (abs_is w)) (const_small (up w) (dn w) 2 1 0 k.some k.plus k.minus k.small) in
    let r = mul_off j x y v w J p.is k.is (factor-lt (nat_abs v) (nat_abs w) (2 * m) (below j) (le_trans (le_of_eq (abs_is v)) p.size) s w_le) in
    let u = r.0 in
    let t1 = cancel (up u) (dn u) (up v) (dn v) (up w) (dn w) 1 0 2 (off j) k.plus k.minus r.2.over in
    let t2 = rebound (up u) (dn u) (up v) (dn v) (up w) (dn w) 1 0 2 (off j) k.plus k.minus r.2.under in
    finish u v r.1 t1 t2 p.over p.under p.size
  where
    side : (pu nu pv nv x y h : ℕ) → pu * 2 + (pv * 0 + nv * 1) ≤ nu * 2 + (pv * 1 + nv * 0) + h * 2 → pv + x * 2 ≤ nv + y * 2 + 2 * e → pu + x ≤ nu + y + (e + h)
    side pu nu pv nv x y h t o = omega arith

    whole : (pa : ℕ) → pa * (S * 2) ≡ pa * S * 2
    whole pa = sym (mul_assoc pa S 2)

    finish : (u v : ℤ) → Is (mul binary64 x y) u
        → up u * 2 + (up v * 0 + dn v * 1) ≤ dn u * 2 + (up v * 1 + dn v * 0) + off j * 2
        → dn u * 2 + (up v * 1 + dn v * 0) ≤ up u * 2 + (up v * 0 + dn v * 1) + off j * 2
        → up v + dn a * (S * 2) ≤ dn v + up a * (S * 2) + 2 * e → dn v + up a * (S * 2) ≤ up v + dn a * (S * 2) + 2 * e → up v + dn v ≤ 2 * m
        → Approx (mul binary64 x y) S a (e + off j) (m + off j)
    finish u v i t1 t2 o d z =
        let o1 : up v + dn a * S * 2 ≤ dn v + up a * S * 2 + 2 * e = omega (arith, o, whole (up a), whole (dn a)) in
        let d1 : dn v + up a * S * 2 ≤ up v + dn a * S * 2 + 2 * e = omega (arith, d, whole (up a), whole (dn a)) in
        let c = size_of u 2 (up v) (dn v) (off j) (omega (arith, t1)) (omega (arith, t2)) in
        record {
          v = u;
          is = i;
          over = side (up u) (dn u) (up v) (dn v) (dn a * S) (up a * S) (off j) t1 o1;
          under = side (dn u) (up u) (dn v) (up v) (up a * S) (dn a * S) (off j) (omega (arith, t2)) d1;
          size = omega (arith, c, z);
        }

pub approx_weaken : (x : Float) (S : ℕ) (a : ℤ) (e b e' b' : ℕ) → e ≤ e' → b ≤ b' → Approx x S a e b → Approx x S a e' b'
approx_weaken x S a e b e' b' h k p =
    record { v = p.v; is = p.is; over = omega (arith, p.over); under = omega (arith, p.under); size = le_trans p.size k }
