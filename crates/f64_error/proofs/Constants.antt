-- That a float is c / 2 ^ 55 exactly, by a test that computes. Assumes nothing.
use mathlib.Core.Bool.{Bool, true, false, ◌&&◌}
use mathlib.Core.Option.{some}
use mathlib.Core.Path.{◌≡◌, refl, sym, ap, ◌∙◌, subst}
use Prim.Native.Nat.{ℕ, ◌*◌, ◌^◌, ◌≤◌}
use native.Mathlib.Nat.{mul_assoc, mul_right_comm, mul_comm}
use native.Mathlib.Omega.{arith}
use lib.Dec.{T, lit<, leb→le, eqb, leb, eqb→eq}
use lib.Ieee.{Float, nan, inf, fin, up as numer, down as denom, neg}
use lib.Ieee.Fits.{and_l, and_r}
use lib.IntN.{ℤ, pos, neg_ℤ, nat_abs, negsuc}
use Rattle.numbers.proofs.Integers.{eq_in, neg-dn, neg-up, up}
use Rattle.f64_error.proofs.Binary64.{neg_is}
use Rattle.f64_error.proofs.Approx.{Const}
use Rattle.f64_error.specs.Units.{Is, one, sgn}

-- 2 ^ 55 of these are 1.0
unfoldable pub const_unit : ℕ
const_unit = 2 ^ 1019

const_unit_is : const_unit * 2 ^ 55 ≡ one
unfolding const_unit one
const_unit_is = refl

abbrev pub is_const : Float → ℤ → Bool
is_const nan c = false
is_const (inf s) c = false
is_const (fin s m e) c = eqb (m * numer e * 2 ^ 55) (nat_abs c * denom e) && (leb (nat_abs c) (2 ^ 55) && eqb (up c) (up (sgn s (nat_abs c))))

sign_back : (s : Bool) (c : ℤ) → up c ≡ up (sgn s (nat_abs c)) → c ≡ sgn s (nat_abs c)
sign_back false (pos n) h = refl
sign_back false (negsuc n) h = absurd (omega arith)
sign_back true (pos n) h = eq_in (omega (arith, h, neg-up (pos n), neg-dn (pos n)))
sign_back true (negsuc n) h = refl

whole : (x d k L : ℕ) → L * 2 ^ 55 ≡ one → x * 2 ^ 55 ≡ k * d → x * one ≡ k * L * d
whole x d k L e h = ap (λ (z : ℕ). x * z) (sym e ∙ mul_comm L (2 ^ 55)) ∙ sym (mul_assoc x (2 ^ 55) L) ∙ ap (λ (z : ℕ). z * L) h ∙ mul_right_comm k d L

sgn_const : (x : Float) (s : Bool) (k : ℕ) → Is x (sgn s (k * const_unit)) → k ≤ 2 ^ 55 → Const x (2 ^ 55) (sgn s k)
sgn_const x false k h l = record { w = pos (k * const_unit); is = h; plus = mul_assoc k const_unit (2 ^ 55) ∙ ap (λ (z : ℕ). k * z) const_unit_is; minus = line (2 ^ 55) one; small = omega arith; some = lit< tt }
  where
    line : (a b : ℕ) → 0 * a ≡ 0 * b
    line a b = omega arith
sgn_const x true k h l =
    record {
      w = neg_ℤ (pos (k * const_unit));
      is = h;
      plus = ap (λ (z : ℕ). z * 2 ^ 55) (neg-up (pos (k * const_unit))) ∙ line (2 ^ 55) one ∙ ap (λ (z : ℕ). z * one) (sym (neg-up (pos k)));
      minus = ap (λ (z : ℕ). z * 2 ^ 55) (neg-dn (pos (k * const_unit))) ∙ mul_assoc k const_unit (2 ^ 55) ∙ ap (λ (z : ℕ). k * z) const_unit_is ∙ ap (λ (z : ℕ). z * one) (sym (neg-dn (pos k)));
      small = omega (arith, neg-up (pos k), neg-dn (pos k));
      some = lit< tt;
    }
  where
    line : (a b : ℕ) → 0 * a ≡ 0 * b
    line a b = omega arith

pub const_of : (x : Float) (c : ℤ) → T (is_const x c) → Const x (2 ^ 55) c
unfolding Is one
const_of nan c t = absurd t
const_of (inf s) c t = absurd t
const_of (fin s m e) c t =
    let a = eqb (m * numer e * 2 ^ 55) (nat_abs c * denom e) in
    let b = leb (nat_abs c) (2 ^ 55) in
    let d = eqb (up c) (up (sgn s (nat_abs c))) in
    let k = nat_abs c in
    let h : m * numer e * 2 ^ 55 ≡ k * denom e = eqb→eq (m * numer e * 2 ^ 55) (k * denom e) (and_l a (b && d) t) in
    let l : k ≤ 2 ^ 55 = leb→le k (2 ^ 55) (and_l b d (and_r a (b && d) t)) in
    let g : c ≡ sgn s k = sign_back s c (eqb→eq (up c) (up (sgn s k)) (and_r b d (and_r a (b && d) t))) in
    subst (λ (z : ℤ). Const (fin s m e) (2 ^ 55) z) (sym g) (sgn_const (fin s m e) s k (k * const_unit, whole (m * numer e) (denom e) k const_unit const_unit_is h, refl) l)

pub const_neg : (x : Float) (P : ℕ) (c : ℤ) → Const x P c → Const (neg x) P (neg_ℤ c)
const_neg x P c h =
    record {
      w = neg_ℤ h.w;
      is = neg_is x h.w h.is;
      plus = ap (λ (z : ℕ). z * P) (neg-up h.w) ∙ h.minus ∙ ap (λ (z : ℕ). z * one) (sym (neg-up c));
      minus = ap (λ (z : ℕ). z * P) (neg-dn h.w) ∙ h.plus ∙ ap (λ (z : ℕ). z * one) (sym (neg-dn c));
      small = omega (arith, h.small, neg-up c, neg-dn c);
      some = h.some;
    }
