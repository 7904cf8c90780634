-- A whole number that is well within a half of x is the whole number of any f64 beside x, under either rule. Assumes nothing.
use mathlib.Core.Bool.{true}
use mathlib.Core.Logic.{⊎_elim}
use mathlib.Core.Path.{◌≡◌, refl, sym, subst}
use Prim.Native.Nat.{ℕ, suc, ◌+◌, ◌*◌, ◌^◌, ◌≤◌, ◌<◌}
use native.Mathlib.Nat.{le_of_eq, le_of_lt, le_trans, lt_of_le_of_lt, lt_of_mul-lt-mul_right, mul-le-mul, mul-le-mul_right, mul-lt-mul_of_pos_right, mul-pos}
use native.Mathlib.Omega.{arith}
use lib.Ieee.{Float, binary64, lt, of_bits, sub}
use lib.IntN.{ℤ, pos, negsuc, nat_abs, neg_ℤ, ◌+ℤ◌, ◌*ℤ◌}
use Rattle.numbers.proofs.Fill.{lt-or-le}
use Rattle.numbers.proofs.Integers.{abs_is, add_is, dn, eq_in, neg-dn, neg-up, up}
use Rattle.f64_error.proofs.Binary64.{below, grain_pos, is_unique, lt-is, mul_off, off, one-is, one-pos, sub_off}
use Rattle.f64_error.proofs.FromIntegers.{times_dn, times_up}
use Rattle.f64_error.proofs.Operations.{Close, Times}
use Rattle.f64_error.proofs.Grains.{grain}
use Rattle.f64_error.proofs.Sizes.{size-one}
use Rattle.f64_error.specs.Units.{Is, one}
use Rattle.f64_error.specs.Wholes.{floor_z}
use Rattle.rounding.specs.Rounding.{whole_of}
use Rattle.rounding.specs.Near.{Roundable, near_f, near_z, square_f, well_within_square}
use Rattle.rounding.specs.declared.HalfIntegerRounding.{HalfIntegerRounding}
use Rattle.rounding.proofs.Floors.{near-exactly, near-part, near-size}
use Rattle.rounding.proofs.Rounds.{rounded_near}

pub well_square_is : Is well_within_square (pos (288230307432235008 * grain))
unfolding Is of_bits grain
well_square_is = (288230307432235008 * 2 ^ 1014, refl, refl)

-- w is at most 1/2 - 2 ^ -24 in size
abbrev Small : ℤ → Type 0
Small w = (up w ≤ dn w + 576460683583946752 * grain) × (dn w ≤ up w + 576460683583946752 * grain)

-- a number whose square is at most 1/4 - 2 ^ -24 + 2 ^ -51 is at most 1/2 - 2 ^ -24
root : (n : ℕ) → n * n ≤ (288230307432235008 + 2 ^ 9) * grain * one → n ≤ 576460683583946752 * grain
root n h =
    ⊎_elim (λ (l : n < 576460683583946752 * grain). le_of_lt l)
    (λ (l : 576460683583946752 * grain ≤ n). absurd (apart (mul-pos grain_pos grain_pos) (subst (λ (o : ℕ). 576460683583946752 * grain * (576460683583946752 * grain) ≤ (288230307432235008 + 2 ^ 9) * grain * o) one-is (le_trans (mul-le-mul l l) h))))
    (lt-or-le n (576460683583946752 * grain))
  where
    apart : 0 < grain * grain → 576460683583946752 * grain * (576460683583946752 * grain) ≤ (288230307432235008 + 2 ^ 9) * grain * (2 ^ 60 * grain) → ⊥
    apart p k = omega arith

-- the same of w, whose square is u but for a rounding
small_root : (u w : ℤ) → Times u w w one (off 3) → up u ≤ dn u + 288230307432235008 * grain → Small w
small_root u (pos n) t l =
    let k = root n (omega (arith, t.under, mul-le-mul_right one l)) in
    (omega arith, omega arith)
small_root u (negsuc n) t l =
    let k = root (suc n) (omega (arith, t.under, mul-le-mul_right one l)) in
    (omega arith, omega arith)

-- n within 1/2 + 2 ^ -26 of v, and t within 1/2 - 2 ^ -25 of it, are one
one-whole : (n t v : ℤ) → up n * one + dn v ≤ dn n * one + up v + (2 ^ 59 + 12066085959) * grain → dn n * one + up v ≤ up n * one + dn v + (2 ^ 59 + 12066085959) * grain
    → up t * one + dn v ≤ dn t * one + up v + 576460717943685120 * grain → dn t * one + up v ≤ up t * one + dn v + 576460717943685120 * grain → n ≡ t
one-whole n t v a b c d =
    let l : (up n + dn t) * one < (dn n + up t + 1) * one = omega (arith, one-is, grain_pos) in
    let r : (dn n + up t) * one < (up n + dn t + 1) * one = omega (arith, one-is, grain_pos) in
    let x = lt_of_mul-lt-mul_right one l in
    let y = lt_of_mul-lt-mul_right one r in
    eq_in (omega arith)

module _ (x : Float) (h : Roundable x) where
  abbrev v : ℤ
  v = h.v

  abbrev t : ℤ
  t = near_z x

  abbrev d : Float
  d = sub binary64 x (near_f x)

  room : nat_abs v + nat_abs (t *ℤ pos one) < below 22
  room =
      let l : (up t + dn t) * one ≤ 1048576 * one = mul-le-mul_right one (le_trans (le_of_eq (sym (abs_is t))) (near-size x h)) in
      omega (arith, h.size, abs_is (t *ℤ pos one), times_up t one, times_dn t one, one-is, grain_pos)

  taken : (w : ℤ) × Is d w × Close w (v +ℤ neg_ℤ (t *ℤ pos one)) (off 22)
  taken = sub_off 22 x (near_f x) v (t *ℤ pos one) (omega arith) h.is (near-exactly x h) room

  -- d is at most 2 in size, so that its square is finite
  gap_size : nat_abs taken.0 ≤ 2 * one
  gap_size =
      let g = taken.2 in
      let p = near-part x h in
      let j = add_is v (neg_ℤ (t *ℤ pos one)) in
      let l : up taken.0 + 0 ≤ dn taken.0 + 0 + (one + off 22) = omega (arith, g.over, g.under, p.over, p.under, neg-up (t *ℤ pos one), neg-dn (t *ℤ pos one), times_up t one, times_dn t one) in
      let m : dn taken.0 + 0 ≤ up taken.0 + 0 + (one + off 22) = omega (arith, g.over, g.under, p.over, p.under, neg-up (t *ℤ pos one), neg-dn (t *ℤ pos one), times_up t one, times_dn t one) in
      omega (arith, abs_is taken.0, size-one taken.0 0 0 (one + off 22) l m, one-is, grain_pos)

  squared : (u : ℤ) × Is (square_f d) u × Times u taken.0 taken.0 one (off 3)
  squared = mul_off 3 d d taken.0 taken.0 (omega arith) taken.1 taken.1 (lt_of_le_of_lt (le_trans (mul-le-mul gap_size gap_size) (le_of_eq (line one))) (mul-lt-mul_of_pos_right (most one one-is) one-pos))
    where
      line : (o : ℕ) → 2 * o * (2 * o) ≡ 4 * o * o
      line o = omega arith

      most : (o : ℕ) → o ≡ 2 ^ 60 * grain → 4 * o < below 3
      most o e = omega (arith, grain_pos)

  -- the square of how far x is from its near number, in units
  pub gap_square : (u : ℤ) × Is (square_f d) u
  gap_square = (squared.0, squared.1)

  small_square : lt (square_f d) well_within_square ≡ true → Small taken.0
  small_square q = small_root squared.0 taken.0 squared.2 (omega (arith, lt-is (square_f d) well_within_square squared.0 (pos (288230307432235008 * grain)) squared.1 well_square_is q))

  -- the whole number of another f64 that is within 2 ^ -28 of x
  module _ (c : Float) (k : Roundable c) (over : up v + dn k.v ≤ dn v + up k.v + 2 ^ 32 * grain) (under : dn v + up k.v ≤ up v + dn k.v + 2 ^ 32 * grain) where
    pub settled-beside : lt (square_f d) well_within_square ≡ true → (m : HalfIntegerRounding) → whole_of m c ≡ near_z x
    settled-beside q m =
        let s = small_square q in
        let o = rounded_near c k (floor_z c) refl m in
        let e = is_unique c o.v k.v o.is k.is in
        let s1 = s.0 in
        let s2 = s.1 in
        let g = taken.2 in
        let j = add_is v (neg_ℤ (t *ℤ pos one)) in
        let n = whole_of m c in
        one-whole n t k.v (subst (λ (z : ℤ). up n * one + dn z ≤ dn n * one + up z + (2 ^ 59 + 12066085959) * grain) e o.over)
        (subst (λ (z : ℤ). dn n * one + up z ≤ up n * one + dn z + (2 ^ 59 + 12066085959) * grain) e o.under)
        (omega (arith, g.over, g.under, neg-up (t *ℤ pos one), neg-dn (t *ℤ pos one), times_up t one, times_dn t one))
        (omega (arith, g.over, g.under, neg-up (t *ℤ pos one), neg-dn (t *ℤ pos one), times_up t one, times_dn t one))
