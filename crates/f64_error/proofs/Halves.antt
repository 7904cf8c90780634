-- Rounding by the difference from the floor and a half: within the tolerance either neighbour will do, beyond it the sign of the f64 difference tells the nearest. Assumes nothing.
use mathlib.Core.Bool.{Bool, true, false, cond}
use mathlib.Core.Path.{◌≡◌, refl, sym, ap, subst}
use Prim.Native.Nat.{ℕ, suc, ◌+◌, ◌*◌, ◌^◌, ◌≤◌, ◌<◌}
use native.Mathlib.Nat.{lt_of_le_of_lt, mul-lt-mul_of_pos_right, le_of_mul-le-mul_right, le_of_eq, le_trans, mul-le-mul_right}
use native.Mathlib.Omega.{arith}
use lib.Dec.{lit<, lit≤}
use lib.Ieee.{Float, fin, neg, lt, binary64, sub, of_int, of_bits}
use lib.Ieee.Bits.{is_true}
use lib.IntN.{ℤ, pos, neg_ℤ, nat_abs, ◌+ℤ◌, negsuc, ◌*ℤ◌}
use Rattle.numbers.proofs.Integers.{abs_is, add_is, dn, neg-dn, neg-up, up}
use Rattle.f64_error.proofs.Binary64.{below, grain_pos, half_is, int_is, lt-is, lt_shown, neg_is, nlt_is, off, one-is, one-pos, sub_off, zero_is}
use Rattle.f64_error.proofs.FromIntegers.{times_dn, times_up, in_float_lem}
use Rattle.f64_error.proofs.Nearest.{floor_is, nearest_is, nearest_of, nearest_within}
use Rattle.f64_error.proofs.Operations.{Close}
use Rattle.f64_error.proofs.Sizes.{size-one}
use Rattle.f64_error.specs.Series.{half}
use Rattle.f64_error.proofs.Grains.{grain}
use Rattle.f64_error.specs.Units.{Is, one}
use Rattle.f64_error.proofs.Distances.{FloorOf, RoundOf}
use Rattle.f64_error.specs.Wholes.{at_half, floor_z, gap_of, nearest_z, tolerance}

-- the tolerance, in units
unfoldable pub limit : ℕ
limit = 3022314549036573 * 2 ^ 996

pub limit_is : Is tolerance (pos limit)
unfolding Is of_bits limit
limit_is = (3022314549036573 * 2 ^ 996, refl, refl)

pub limit_le : limit ≤ 11529215047 * grain
unfolding limit grain
limit_le = lit≤ tt

pub limit_ge : 11529215046 * grain ≤ limit
unfolding limit grain
limit_ge = lit≤ tt

pub floor_size : (x : Float) (r : ℤ) (f : FloorOf x r) → up f.v + dn f.v ≤ 1048576 * one → nat_abs r ≤ 1048577
floor_size x (pos n) f h = le_of_mul-le-mul_right (line f.low) one-pos
  where
    line : n * one + dn f.v ≤ up f.v + 0 * one → n * one ≤ 1048577 * one
    line g = omega arith
floor_size x (negsuc n) f h = le_of_mul-le-mul_right (line f.high) one-pos
  where
    line : up f.v + suc n * one < dn f.v + 0 * one + one → suc n * one ≤ 1048577 * one
    line g = omega arith

fits_3 : (n : ℕ) → n ≤ one + 0 + (one + off 22) → n + 2 ^ 59 * grain < below 22
fits_3 n h = lt_of_le_of_lt (line n one h one-is) (mul-lt-mul_of_pos_right (lit< tt) grain_pos)
  where
    line : (n o : ℕ) → n ≤ o + 0 + (o + off 22) → o ≡ 2 ^ 60 * grain → n + 2 ^ 59 * grain ≤ 2 ^ 62 * grain
    line n o h e = omega arith

-- w is x - r - 1/2, to within 2 ^ -31
record Diff (d : Float) (v r : ℤ) : Type 0 where
  w : ℤ
  is : Is d w
  over : up w + dn v + up r * one + 2 ^ 59 * grain ≤ dn w + up v + dn r * one + 2 ^ 29 * grain
  under : dn w + up v + dn r * one ≤ up w + dn v + up r * one + 2 ^ 59 * grain + 2 ^ 29 * grain

module _ (x : Float) (r : ℤ) (f : FloorOf x r) (size : up f.v + dn f.v ≤ 1048576 * one) where
  diff : Diff (gap_of x r) f.v r
  diff =
      let ri = int_is r (in_float_lem r (le_trans (floor_size x r f size) (lit≤ tt))) in
      let v = f.v in
      let q = r *ℤ pos one in
      let a = sub_off 22 x (of_int binary64 r) v q (omega arith) f.is ri (fits_1 v (floor_size x r f size) size) in
      let u = a.0 in
      let b = sub_off 22 (sub binary64 x (of_int binary64 r)) half u (pos (2 ^ 59 * grain)) (omega arith) a.1 half_is (fits_2 u v f.low f.high a.2) in
      finish b.0 b.1 u v a.2 b.2
    where
      fits_1 : (v : ℤ) → nat_abs r ≤ 1048577 → up v + dn v ≤ 1048576 * one → nat_abs v + nat_abs (r *ℤ pos one) < below 22
      fits_1 v h g =
          let l : (up r + dn r) * one ≤ 1048577 * one = mul-le-mul_right one (le_trans (le_of_eq (sym (abs_is r))) h) in
          omega (arith, abs_is v, abs_is (r *ℤ pos one), times_up r one, times_dn r one, one-is, grain_pos)

      near : (u v : ℤ) → Close u (v +ℤ neg_ℤ (r *ℤ pos one)) (off 22) → (up u + dn v + up r * one ≤ dn u + up v + dn r * one + off 22) × (dn u + up v + dn r * one ≤ up u + dn v + up r * one + off 22)
      near u v c =
          let e = add_is v (neg_ℤ (r *ℤ pos one)) in
          let c1 = c.over in
          let c2 = c.under in
          omega (arith, neg-up (r *ℤ pos one), neg-dn (r *ℤ pos one), times_up r one, times_dn r one)

      fits_2 : (u v : ℤ) → up r * one + dn v ≤ up v + dn r * one → up v + dn r * one < dn v + up r * one + one → Close u (v +ℤ neg_ℤ (r *ℤ pos one)) (off 22) → nat_abs u + nat_abs (pos (2 ^ 59 * grain)) < below 22
      fits_2 u v lo hi c =
          let n = near u v c in
          let n1 = n.0 in
          let n2 = n.1 in
          let s = size-one u one 0 (one + off 22) (omega arith) (omega arith) in
          fits_3 (nat_abs u) (subst (λ (n : ℕ). n ≤ one + 0 + (one + off 22)) (sym (abs_is u)) s)

      finish : (w : ℤ) → Is (gap_of x r) w → (u v : ℤ) → Close u (v +ℤ neg_ℤ (r *ℤ pos one)) (off 22) → Close w (u +ℤ neg_ℤ (pos (2 ^ 59 * grain))) (off 22) → Diff (gap_of x r) v r
      finish w i u v c d =
          let n = near u v c in
          let n1 = n.0 in
          let n2 = n.1 in
          let e = add_is u (neg_ℤ (pos (2 ^ 59 * grain))) in
          let d1 = d.over in
          let d2 = d.under in
          record { w = w; is = i; over = omega (arith, neg-up (pos (2 ^ 59 * grain)), neg-dn (pos (2 ^ 59 * grain))); under = omega (arith, neg-up (pos (2 ^ 59 * grain)), neg-dn (pos (2 ^ 59 * grain))) }

  plus_one : (up (r +ℤ pos 1) + (dn r + 0)) * one ≡ (dn (r +ℤ pos 1) + (up r + 1)) * one
  plus_one = ap (λ (z : ℕ). z * one) (add_is r (pos 1))

  -- within the tolerance of the half the difference is small
  small : at_half x r ≡ true → (up diff.w ≤ dn diff.w + 11529215047 * grain) × (dn diff.w ≤ up diff.w + 11529215047 * grain)
  small t = go (lt (gap_of x r) (fin false 0 (pos 0))) refl t
    where
      go : (b : Bool) → lt (gap_of x r) (fin false 0 (pos 0)) ≡ b → lt (cond b (neg (gap_of x r)) (gap_of x r)) tolerance ≡ true → (up diff.w ≤ dn diff.w + 11529215047 * grain) × (dn diff.w ≤ up diff.w + 11529215047 * grain)
      go true e g =
          let l = lt-is (gap_of x r) (fin false 0 (pos 0)) diff.w (pos 0) diff.is zero_is e in
          let m = lt-is (neg (gap_of x r)) tolerance (neg_ℤ diff.w) (pos limit) (neg_is (gap_of x r) diff.w diff.is) limit_is g in
          omega (arith, limit_le, neg-up diff.w, neg-dn diff.w)
      go false e g =
          let l = nlt_is (gap_of x r) (fin false 0 (pos 0)) diff.w (pos 0) diff.is zero_is e in
          let m = lt-is (gap_of x r) tolerance diff.w (pos limit) diff.is limit_is g in
          omega (arith, limit_le)

  pub half_down : at_half x r ≡ true → RoundOf x r
  half_down t =
      let s = small t in
      let s1 = s.0 in
      let s2 = s.1 in
      record { v = f.v; is = f.is; over = omega (arith, f.low); under = omega (arith, s1, s2, diff.under) }

  pub half_up : at_half x r ≡ true → RoundOf x (r +ℤ pos 1)
  half_up t =
      let s = small t in
      let s1 = s.0 in
      let s2 = s.1 in
      record { v = f.v; is = f.is; over = omega (arith, s1, s2, diff.over, plus_one, one-is); under = omega (arith, f.high, plus_one) }

  -- beyond the tolerance the f64 difference has the sign of the exact one: the nearest whole number
  pub down_nearest : at_half x r ≡ false → lt (gap_of x r) (fin false 0 (pos 0)) ≡ true → r ≡ nearest_z x
  down_nearest t u =
      let g : lt (neg (gap_of x r)) tolerance ≡ false = subst (λ (b : Bool). lt (cond b (neg (gap_of x r)) (gap_of x r)) tolerance ≡ false) u t in
      let m = nlt_is (neg (gap_of x r)) tolerance (neg_ℤ diff.w) (pos limit) (neg_is (gap_of x r) diff.w diff.is) limit_is g in
      nearest_is x f.v r f.is (omega (arith, f.low, one-pos)) (omega (arith, m, diff.under, limit_ge, one-is, grain_pos, neg-up diff.w, neg-dn diff.w))

  pub up_nearest : at_half x r ≡ false → lt (gap_of x r) (fin false 0 (pos 0)) ≡ false → r +ℤ pos 1 ≡ nearest_z x
  up_nearest t u =
      let g : lt (gap_of x r) tolerance ≡ false = subst (λ (b : Bool). lt (cond b (neg (gap_of x r)) (gap_of x r)) tolerance ≡ false) u t in
      let m = nlt_is (gap_of x r) tolerance diff.w (pos limit) diff.is limit_is g in
      nearest_is x f.v (r +ℤ pos 1) f.is (omega (arith, m, diff.over, limit_ge, one-is, grain_pos, plus_one)) (omega (arith, f.high, plus_one, one-pos))

  -- within 10992344133 grain of r and a half the f64 difference is within the tolerance
  pub close_tie : up f.v + dn r * one ≤ dn f.v + up r * one + 2 ^ 59 * grain + 10992344133 * grain → dn f.v + up r * one + 2 ^ 59 * grain ≤ up f.v + dn r * one + 10992344133 * grain
      → at_half x r ≡ true
  close_tie a b = go (lt (gap_of x r) (fin false 0 (pos 0)))
    where
      go : (c : Bool) → lt (cond c (neg (gap_of x r)) (gap_of x r)) tolerance ≡ true
      go true =
          is_true (lt (neg (gap_of x r)) tolerance)
          (lt_shown (neg (gap_of x r)) tolerance (neg_ℤ diff.w) (pos limit) (neg_is (gap_of x r) diff.w diff.is) limit_is
          (omega (arith, a, b, diff.over, diff.under, limit_ge, grain_pos, neg-up diff.w, neg-dn diff.w)))
      go false =
          is_true (lt (gap_of x r) tolerance)
          (lt_shown (gap_of x r) tolerance diff.w (pos limit) diff.is limit_is
          (omega (arith, a, b, diff.over, diff.under, limit_ge, grain_pos)))

-- a whole number nearest to x is within a half of it
pub nearest_near : (x : Float) (v : ℤ) → Is x v → RoundOf x (nearest_z x)
nearest_near x v i =
    let w = nearest_within x (nearest_z x) (nearest_of x v i) in
    record { v = w.v; is = w.is; over = omega (arith, w.over, one-is); under = omega (arith, w.under, one-is) }

-- where x is within 10992344133 grain of k and a half, which is more than 2 ^ -27 and 3 * 2 ^ -31, its floor is k, and it counts as half-way
pub tie_at : (x : Float) (v k : ℤ) → Is x v → up v + dn v ≤ 1048576 * one → up v + dn k * one ≤ dn v + up k * one + 2 ^ 59 * grain + 10992344133 * grain → dn v + up k * one + 2 ^ 59 * grain ≤ up v + dn k * one + 10992344133 * grain
    → (k ≡ floor_z x) × (at_half x k ≡ true)
tie_at x v k i s a b =
    let f : FloorOf x k = record { v = v; is = i; low = low (up v) (dn v) (up k * one) (dn k * one) b; high = high (up v) (dn v) (up k * one) (dn k * one) one one-is a } in
    (floor_is x k f, close_tie x k f s a b)
  where
    low : (p n q m : ℕ) → n + q + 2 ^ 59 * grain ≤ p + m + 10992344133 * grain → q + n ≤ p + m
    low p n q m b = omega arith

    high : (p n q m o : ℕ) → o ≡ 2 ^ 60 * grain → p + m ≤ n + q + 2 ^ 59 * grain + 10992344133 * grain → p + m < n + q + o
    high p n q m o e a = omega (arith, grain_pos)
