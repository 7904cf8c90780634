-- The floor, out of a whole number near to it: what the shift leaves, and one less where that is above. Assumes nothing.
use mathlib.Core.Bool.{true, false}
use mathlib.Core.Path.{◌≡◌, sym, ap, ◌∙◌, subst}
use Prim.Native.Nat.{◌≤◌}
use native.Mathlib.Nat.{le_trans, le_of_eq, lt_of_le_of_lt}
use native.Mathlib.Omega.{arith}
use lib.Dec.{T, lit<, lit≤}
use lib.Ieee.{Float, binary64, in_signed, lt, of_bits, of_int, to_signed}
use lib.Ieee.Back.{negative_back, positive_back}
use lib.IntN.{ℤ, pos, negsuc, ◌-ℤ◌, ◌*ℤ◌, nat_abs}
use mir.Facts.{to_z-of_z}
use mir.Syntax.{w32}
use mir.Val.{SFits, to_z, of_z}
use Rattle.numbers.proofs.Expressions.{Sx, loc, lit, ◌⊟◌, val_fits}
use Rattle.numbers.proofs.Integers.{abs_is}
use Rattle.f64_error.proofs.Binary64.{Part, lt-is, nlt_is, int_is}
use Rattle.f64_error.proofs.Floors.{part-size, floor_under, floor_at}
use Rattle.f64_error.proofs.FromIntegers.{times_up, times_dn, in_float_lem}
use Rattle.f64_error.proofs.Nearest.{floor_is}
use Rattle.f64_error.proofs.Shifted.{Shifted, shifted}
use Rattle.f64_error.specs.Units.{one, Is}
use Rattle.f64_error.specs.Wholes.{floor_z}
use Rattle.rounding.specs.Near.{Roundable, near_f, near_z}

cast_back : (t : ℤ) → nat_abs t ≤ 1048576 → T (in_signed binary64 31 (of_int binary64 t)) × (to_signed 31 (of_int binary64 t) ≡ t)
cast_back (pos n) l = positive_back binary64 31 n (in_float_lem (pos n) (le_trans l (lit≤ tt))) (lt_of_le_of_lt l (lit< tt))
cast_back (negsuc k) l = negative_back binary64 31 k (in_float_lem (negsuc k) (le_trans l (lit≤ tt))) (le_trans l (lit≤ tt))

-- near to x is t
module _ (x : Float) (h : Roundable x) (s : Shifted x h.v) (e : near_f x ≡ of_int binary64 s.t) where
  size : nat_abs s.t ≤ 1048576
  size = part-size h.v s.t 1048576 s.part (le_trans (le_of_eq (sym (abs_is h.v))) h.size)

  castable : T (in_signed binary64 31 (near_f x))
  castable = subst (λ (z : Float). T (in_signed binary64 31 z)) (sym e) (cast_back s.t size).0

  abbrev cut : Sx w32
  cut = loc s.t 1048576 size

  -- a local holds bits: what is read back from them is t
  read_back : to_z w32 (of_z w32 (to_signed 31 (near_f x))) ≡ s.t
  read_back = ap (λ (z : Float). to_z w32 (of_z w32 (to_signed 31 z))) e ∙ ap (λ (z : ℤ). to_z w32 (of_z w32 z)) (cast_back s.t size).1 ∙ to_z-of_z {w = w32} {z = s.t} (val_fits cut tt)

  exactly : Is (near_f x) (s.t *ℤ pos one)
  exactly = subst (λ (z : Float). Is z (s.t *ℤ pos one)) (sym e) (int_is s.t (in_float_lem s.t (le_trans size (lit≤ tt))))

  fits_less : SFits w32 (s.t -ℤ pos 1)
  fits_less = val_fits (cut ⊟ lit (pos 1)) tt

  less_floor : lt x (near_f x) ≡ true → s.t -ℤ pos 1 ≡ floor_z x
  less_floor g = floor_is x (s.t -ℤ pos 1) (floor_under x h.v s.t h.is s.part (omega (arith, lt-is x (near_f x) h.v (s.t *ℤ pos one) h.is exactly g, times_up s.t one, times_dn s.t one)))

  same_floor : lt x (near_f x) ≡ false → s.t ≡ floor_z x
  same_floor g = floor_is x s.t (floor_at x h.v s.t h.is s.part (omega (arith, nlt_is x (near_f x) h.v (s.t *ℤ pos one) h.is exactly g, times_up s.t one, times_dn s.t one)))

module _ (x : Float) (h : Roundable x) where
  found : Shifted x h.v
  found = shifted x h.v h.is h.size

  found-is : near_f x ≡ of_int binary64 found.t
  unfolding of_bits
  found-is = found.is

  pub cast_fine : T (in_signed binary64 31 (near_f x))
  cast_fine = castable x h found found-is

  pub less_fits : SFits w32 (to_z w32 (of_z w32 (to_signed 31 (near_f x))) -ℤ pos 1)
  less_fits = subst (λ (z : ℤ). SFits w32 (z -ℤ pos 1)) (sym (read_back x h found found-is)) (fits_less x h found found-is)

  pub floor_less : lt x (near_f x) ≡ true → to_z w32 (of_z w32 (to_z w32 (of_z w32 (to_signed 31 (near_f x))) -ℤ pos 1)) ≡ floor_z x
  floor_less g = to_z-of_z {w = w32} {z = to_z w32 (of_z w32 (to_signed 31 (near_f x))) -ℤ pos 1} less_fits ∙ ap (λ (z : ℤ). z -ℤ pos 1) (read_back x h found found-is) ∙ less_floor x h found found-is g

  pub floor_same : lt x (near_f x) ≡ false → to_z w32 (of_z w32 (to_signed 31 (near_f x))) ≡ floor_z x
  floor_same g = read_back x h found found-is ∙ same_floor x h found found-is g

  -- the whole number that the shift leaves, and the f64 that holds it
  near-is : near_z x ≡ found.t
  near-is = ap (to_signed 31) found-is ∙ (cast_back found.t (size x h found found-is)).1

  pub near-exactly : Is (near_f x) (near_z x *ℤ pos one)
  near-exactly = subst (λ (z : ℤ). Is (near_f x) (z *ℤ pos one)) (sym near-is) (exactly x h found found-is)

  pub near-size : nat_abs (near_z x) ≤ 1048576
  near-size = subst (λ (z : ℤ). nat_abs z ≤ 1048576) (sym near-is) (size x h found found-is)

  -- it is less than 1 from x
  pub near-part : Part h.v (near_z x)
  near-part = subst (λ (z : ℤ). Part h.v z) (sym near-is) found.part
