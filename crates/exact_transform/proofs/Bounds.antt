-- How near the whole numbers are to the exact transform: the transform's own error, then what rounding adds. Assumes nothing.
use mathlib.Core.List.{List}
use mathlib.Core.Path.{◌≡◌, refl, sym, ap, ◌∙◌, subst}
use Prim.Native.Nat.{ℕ, ◌+◌, ◌*◌, ◌^◌, ◌≤◌, ◌<◌}
use native.Mathlib.Nat.{lt_of_le_of_lt, mul-lt-mul_of_pos_right, le_of_mul-le-mul_right, mul_assoc, le_trans, le_of_eq}
use native.Mathlib.Omega.{arith}
use lib.Dec.{lit≤, lit<}
use lib.Ieee.{binary64, of_int}
use lib.IntN.{ℤ, pos, nat_abs, ◌-ℤ◌, ◌*ℤ◌}
use Rattle.numbers.proofs.Integers.{up, dn, abs_is, diff_is, halves}
use Rattle.numbers.specs.Grid.{cell}
use Rattle.f64_error.proofs.Binary64.{one-is, grain_pos, mesh_pos, one_factors, one_mesh, grain_mesh, is_unique, off, below}
use Rattle.f64_error.proofs.FromIntegers.{approx_int, times_up, times_dn}
use Rattle.f64_error.proofs.Nearness.{approx_weaken}
use Rattle.f64_error.proofs.Passes.{approx_block, after}
use Rattle.f64_error.proofs.Approx.{Approx}
use Rattle.f64_error.proofs.Grains.{grain, mesh}
use Rattle.f64_error.specs.Units.{one, Is}
use Rattle.f64_error.proofs.Distances.{RoundOf}
use Rattle.f64_error.specs.Wholes.{floor_z}
use Rattle.cosines.specs.Cosines.{c_f, c_z, cos_f, cos_z}
use Rattle.exact_transform.specs.Exact.{exact, Within, Modest, Near}
use Rattle.rounding.specs.Rounding.{whole_of}
use Rattle.rounding.specs.Near.{Roundable}
use Rattle.exact_transform.specs.Transform.{computed, whole}
use Rattle.rounding.specs.declared.HalfIntegerRounding.{HalfIntegerRounding}
use Rattle.rounding.proofs.Rounds.{rounded_near}
use Rattle.cosines.proofs.Tables.{cos_const, c_const}

-- how far the f64 transform may be from the exact one: 3 / 2 ^ 31, in units of 2 ^ -1074
abbrev pub transform_error : ℕ
transform_error = 1610612736 * grain

-- rows: products below 2 ^ 16, sums below 2 ^ 19; columns: below 2 ^ 18 and 2 ^ 21
row_products : 32768 * one + off 16 < below 16
row_products = lt_of_le_of_lt (line one one-is) (mul-lt-mul_of_pos_right (lit< tt) grain_pos)
  where
    line : (o : ℕ) → o ≡ 2 ^ 60 * grain → 32768 * o + off 16 ≤ (2 ^ 75 + 2 ^ 30) * grain
    line o e = omega arith

row-sums : 8 * (32768 * one + 2 * off 16 + off 19) < below 19
row-sums = lt_of_le_of_lt (line one one-is) (mul-lt-mul_of_pos_right (lit< tt) grain_pos)
  where
    line : (o : ℕ) → o ≡ 2 ^ 60 * grain → 8 * (32768 * o + 2 * off 16 + off 19) ≤ (2 ^ 78 + 2 ^ 30) * grain
    line o e = omega arith

column_products : after 16 19 (32768 * one) + off 18 < below 18
column_products = lt_of_le_of_lt (line one one-is) (mul-lt-mul_of_pos_right (lit< tt) grain_pos)
  where
    line : (o : ℕ) → o ≡ 2 ^ 60 * grain → after 16 19 (32768 * o) + off 18 ≤ (2 ^ 77 + 2 ^ 40) * grain
    line o e = omega arith

column-sums : 8 * (after 16 19 (32768 * one) + 2 * off 18 + off 21) < below 21
column-sums = lt_of_le_of_lt (line one one-is) (mul-lt-mul_of_pos_right (lit< tt) grain_pos)
  where
    line : (o : ℕ) → o ≡ 2 ^ 60 * grain → 8 * (after 16 19 (32768 * o) + 2 * off 18 + off 21) ≤ (2 ^ 80 + 2 ^ 40) * grain
    line o e = omega arith

error_is : after 18 21 (after 16 19 0) ≤ transform_error
error_is = omega arith

size_is : after 18 21 (after 16 19 (32768 * one)) ≤ 1048576 * one
size_is = line one one-is
  where
    line : (o : ℕ) → o ≡ 2 ^ 60 * grain → after 18 21 (after 16 19 (32768 * o)) ≤ 1048576 * o
    line o e = omega arith

-- from units to the exact sum's own unit
unscale : (p n a b K T S o : ℕ) → o ≡ K * mesh → S ≡ T * mesh → p * o + b * mesh ≤ n * o + a * mesh + S → p * K + b ≤ n * K + a + T
unscale p n a b K T S o e g h = le_of_mul-le-mul_right (line (subst (λ (z : ℕ). p * z + b * mesh ≤ n * z + a * mesh + S) e h)) mesh_pos
  where
    line : p * (K * mesh) + b * mesh ≤ n * (K * mesh) + a * mesh + S → (p * K + b) * mesh ≤ (n * K + a + T) * mesh
    line k = omega arith

slack : (2 ^ 59 + 2 ^ 34) * grain ≡ (2 ^ 221 + 2 ^ 196) * mesh
slack = ap (λ (w : ℕ). (2 ^ 59 + 2 ^ 34) * w) grain_mesh ∙ sym (mul_assoc (2 ^ 59 + 2 ^ 34) (2 ^ 162) mesh)

-- from two bounds to a distance: of n * K from z, and of v from z * S
distance : (n z : ℤ) (K T : ℕ) → up n * K + dn z ≤ dn n * K + up z + T → dn n * K + up z ≤ up n * K + dn z + T → nat_abs (n *ℤ pos K -ℤ z) ≤ T
distance n z K T a b = omega (arith, halves (n *ℤ pos K -ℤ z), diff_is (n *ℤ pos K) z, times_up n K, times_dn n K)

apart : (v z : ℤ) (S e : ℕ) → up v + dn z * S ≤ dn v + up z * S + e → dn v + up z * S ≤ up v + dn z * S + e → nat_abs (v -ℤ z *ℤ pos S) ≤ e
apart v z S e a b = omega (arith, halves (v -ℤ z *ℤ pos S), diff_is v (z *ℤ pos S), times_up z S, times_dn z S)

module _ (l : List (List ℤ)) (modest : Modest l) (y x : ℕ) (ly : y < 8) (lx : x < 8) where
  -- the f64 transform is within 3 * 2 ^ -31 of the exact one
  pub transform_near : Approx (computed l y x) mesh (exact l y x) transform_error (1048576 * one)
  transform_near =
      approx_weaken (computed l y x) mesh (exact l y x) (after 18 21 (after 16 19 0)) (after 18 21 (after 16 19 (32768 * one))) transform_error (1048576 * one) error_is size_is
      (approx_block 16 19 18 21 mesh (2 ^ 55) 0 (32768 * one) c_f cos_f (λ v u. of_int binary64 (cell l v u)) c_z cos_z (cell l) (omega arith) (omega arith) (omega arith) (omega arith)
      (λ v u i j. subst (λ (S : ℕ). Approx (of_int binary64 (cell l v u)) S (cell l v u) 0 (32768 * one)) (sym one_factors) (approx_int (cell l v u) 32768 (modest v u i j) (lit≤ tt)))
      (λ u i. c_const u)
      (λ u w i j. cos_const u w)
      row_products
      row-sums
      column_products
      column-sums
      y
      x
      ly
      lx)

  -- the same as one distance: the value of the f64, in units, from the exact transform
  pub transform_error_lem : (v : ℤ) → Is (computed l y x) v → nat_abs (v -ℤ exact l y x *ℤ pos mesh) ≤ transform_error
  transform_error_lem v i = subst (λ (w : ℤ). nat_abs (w -ℤ exact l y x *ℤ pos mesh) ≤ transform_error) (is_unique (computed l y x) transform_near.v v transform_near.is i) (apart transform_near.v (exact l y x) mesh transform_error transform_near.over transform_near.under)

  pub bounded : Roundable (computed l y x)
  bounded = record { v = transform_near.v; is = transform_near.is; size = le_trans (le_of_eq (abs_is transform_near.v)) transform_near.size }

  -- what the rounded number is, from the rounding's own bound
  module _ (n : ℤ) (o : RoundOf (computed l y x) n) where
    same : o.v ≡ transform_near.v
    same = is_unique (computed l y x) o.v transform_near.v o.is transform_near.is

    over : up n * one + dn (exact l y x) * mesh ≤ dn n * one + up (exact l y x) * mesh + (2 ^ 59 + 2 ^ 34) * grain
    over = omega (arith, subst (λ (v : ℤ). up n * one + dn v ≤ dn n * one + up v + (2 ^ 59 + 12066085959) * grain) same o.over, transform_near.over)

    under : dn n * one + up (exact l y x) * mesh ≤ up n * one + dn (exact l y x) * mesh + (2 ^ 59 + 2 ^ 34) * grain
    under = omega (arith, subst (λ (v : ℤ). dn n * one + up v ≤ up n * one + dn v + (2 ^ 59 + 12066085959) * grain) same o.under, transform_near.under)

    within : Within n (exact l y x)
    within =
        distance n (exact l y x) (2 ^ 222) (2 ^ 221 + 2 ^ 196)
        (unscale (up n) (dn n) (up (exact l y x)) (dn (exact l y x)) (2 ^ 222) (2 ^ 221 + 2 ^ 196) ((2 ^ 59 + 2 ^ 34) * grain) one one_mesh slack over)
        (unscale (dn n) (up n) (dn (exact l y x)) (up (exact l y x)) (2 ^ 222) (2 ^ 221 + 2 ^ 196) ((2 ^ 59 + 2 ^ 34) * grain) one one_mesh slack under)

  -- each whole number is within 1/2 + 1/2 ^ 26 of the exact transform
  pub whole-within : (m : HalfIntegerRounding) → Within (whole m l y x) (exact l y x)
  unfolding whole
  whole-within m = within (whole_of m (computed l y x)) (rounded_near (computed l y x) bounded (floor_z (computed l y x)) refl m)

  -- and so within the bound of document 01
  pub whole-near : (m : HalfIntegerRounding) → Near (whole m l y x) (exact l y x)
  whole-near m = le_trans (whole-within m) (lit≤ tt)
