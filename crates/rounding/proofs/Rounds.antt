-- The whole number of an f64, by the tests that `round_to_integer` makes. Assumes nothing.
use mathlib.Core.Bool.{Bool, true, false, cond}
use mathlib.Core.Path.{◌≡◌, refl, sym, ap, ◌∙◌, subst}
use Prim.Native.Nat.{◌+◌, ◌*◌, ◌^◌, ◌≤◌, ◌<◌}
use native.Mathlib.Nat.{le_of_eq, le_trans}
use lib.Ieee.{Float, fin, binary64, lt, neg, sub, of_int, of_bits}
use lib.IntN.{ℤ, pos, nat_abs, ◌+ℤ◌}
use lib.Signed.{mag}
use mir.Facts.{to_z-of_z}
use mir.Syntax.{w32}
use mir.Val.{SFits, to_z, of_z}
use Rattle.numbers.proofs.Integers.{up, dn, abs_is}
use Rattle.f64_error.proofs.Binary64.{is_unique}
use Rattle.f64_error.proofs.Halves.{floor_size, down_nearest, up_nearest, half_down, half_up, nearest_near}
use Rattle.f64_error.proofs.Nearest.{floor_of_lem}
use Rattle.f64_error.specs.Units.{one}
use Rattle.f64_error.proofs.Distances.{FloorOf, RoundOf}
use Rattle.f64_error.specs.Wholes.{floor_z, nearest_z, mag_f, gap_of, at_half}
use Rattle.rounding.specs.Rounding.{tied, whole_of}
use Rattle.rounding.specs.Near.{Roundable}
use Rattle.rounding.specs.declared.HalfIntegerRounding.{HalfIntegerRounding}
use Rattle.rounding.proofs.Literals.{zero_bits, half-bits}
use Rattle.rounding.proofs.TieRules.{back, add_fits, next_back, tied_either}

pub mag_neg : (x : Float) → lt x (of_bits binary64 0) ≡ true → neg x ≡ mag_f x
mag_neg x h = sym (ap (λ (b : Bool). cond b (neg x) x) (ap (λ (z : Float). lt x z) (sym zero_bits) ∙ h))

pub mag_pos : (x : Float) → lt x (of_bits binary64 0) ≡ false → x ≡ mag_f x
mag_pos x h = sym (ap (λ (b : Bool). cond b (neg x) x) (ap (λ (z : Float). lt x z) (sym zero_bits) ∙ h))

-- r is what `floor_of` gave
module _ (x : Float) (h : Roundable x) (r : ℤ) (e : r ≡ floor_z x) where
  f : FloorOf x r
  f = subst (λ (z : ℤ). FloorOf x z) (sym e) (floor_of_lem x h.v h.is)

  size : up f.v + dn f.v ≤ 1048576 * one
  size = subst (λ (v : ℤ). up v + dn v ≤ 1048576 * one) (is_unique x h.v f.v h.is f.is) (le_trans (le_of_eq (sym (abs_is h.v))) h.size)

  small : nat_abs r ≤ 1048577
  small = floor_size x r f size

  pub tie_small : nat_abs (to_z w32 (of_z w32 r)) ≤ 1048577
  tie_small = subst (λ (z : ℤ). nat_abs z ≤ 1048577) (sym (back r small)) small

  pub next_fits : SFits w32 (to_z w32 (of_z w32 r) +ℤ pos 1)
  next_fits = add_fits r small

  -- d is `value - (below as f64) - 0.5`, as the machine reads `below` back
  abbrev seen : Float
  seen = sub binary64 (sub binary64 x (of_int binary64 (to_z w32 (of_z w32 r)))) (of_bits binary64 4602678819172646912)

  seen_is : seen ≡ gap_of x r
  seen_is =
      ap (λ (z : ℤ). sub binary64 (sub binary64 x (of_int binary64 z)) (of_bits binary64 4602678819172646912)) (back r small)
      ∙ ap (λ (z : Float). sub binary64 (sub binary64 x (of_int binary64 r)) z) half-bits

  zero_test : (b : Bool) → lt seen (of_bits binary64 0) ≡ b → lt (gap_of x r) (fin false 0 (pos 0)) ≡ b
  zero_test b t = ap (λ (z : Float). lt z (fin false 0 (pos 0))) (sym seen_is) ∙ ap (λ (z : Float). lt seen z) (sym zero_bits) ∙ t

  module _ (m : HalfIntegerRounding) where
    pub by_test : (b : Bool) → at_half x r ≡ b → cond b (tied m r) (nearest_z x) ≡ whole_of m x
    unfolding whole_of
    by_test b t =
        ap (λ (c : Bool). cond c (tied m r) (nearest_z x)) (sym t)
        ∙ ap (λ (z : ℤ). cond (lt (mag_f (gap_of x z)) (of_bits binary64 0x3e45798ee2308c3a)) (tied m z) (nearest_z x)) e

    pub rounded_near : RoundOf x (whole_of m x)
    rounded_near = go (at_half x r) refl
      where
        go : (b : Bool) → at_half x r ≡ b → RoundOf x (whole_of m x)
        go true t = subst (λ (y : ℤ). RoundOf x y) (by_test true t) (tied_either (λ (y : ℤ). RoundOf x y) m r (half_down x r f size t) (half_up x r f size t))
        go false t = subst (λ (y : ℤ). RoundOf x y) (by_test false t) (nearest_near x h.v h.is)

    module _ (g : Float) (i : g ≡ mag_f seen) where
      half_test : (b : Bool) → lt g (of_bits binary64 4487126258331716666) ≡ b → at_half x r ≡ b
      half_test b t = ap (λ (z : Float). lt z (of_bits binary64 0x3e45798ee2308c3a)) (sym (i ∙ ap mag_f seen_is)) ∙ t

      pub at_tie : lt g (of_bits binary64 4487126258331716666) ≡ true → (z : ℤ) → mag z < 2 ^ 31 → z ≡ tied m (to_z w32 (of_z w32 r)) → to_z w32 (of_z w32 z) ≡ whole_of m x
      at_tie t z k w = to_z-of_z {w = w32} {z = z} (record { sfits = k }) ∙ w ∙ ap (λ (b : ℤ). tied m b) (back r small) ∙ by_test true (half_test true t)

      pub plain_down : lt g (of_bits binary64 4487126258331716666) ≡ false → lt seen (of_bits binary64 0) ≡ true → to_z w32 (of_z w32 r) ≡ whole_of m x
      plain_down t u = back r small ∙ down_nearest x r f size (half_test false t) (zero_test true u) ∙ by_test false (half_test false t)

      pub plain-up : lt g (of_bits binary64 4487126258331716666) ≡ false → lt seen (of_bits binary64 0) ≡ false → to_z w32 (of_z w32 (to_z w32 (of_z w32 r) +ℤ pos 1)) ≡ whole_of m x
      plain-up t u = next_back r small ∙ up_nearest x r f size (half_test false t) (zero_test false u) ∙ by_test false (half_test false t)
