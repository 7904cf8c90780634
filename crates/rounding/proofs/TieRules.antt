-- What `tie` picks, case by case, as the machine reads its argument back. Assumes nothing.
use mathlib.Core.Bool.{Bool, true, false, cond}
use mathlib.Core.Path.{◌≡◌, refl, sym, ap, ◌∙◌, subst}
use Prim.Native.Nat.{ℕ, zero, suc, ◌%◌, ◌≤◌, ◌<◌}
use lib.Dec.{lit<, eqb, eqb-suc-zero}
use lib.IntN.{ℤ, pos, nat_abs, ◌+ℤ◌}
use lib.Signed.{lt_z, quot_z, rem_z}
use mir.Syntax.{w32}
use mir.Val.{SFits, to_z, of_z}
use Rattle.numbers.proofs.Expressions.{Sx, loc, lit, ◌⊞◌, ◌⊘◌, ◌⊖◌, fits, val_fits}
use Rattle.numbers.proofs.Expressions as X
use Rattle.numbers.proofs.Magnitudes.{rem-abs}
use Rattle.numbers.proofs.Words.{zero-abs, nonzero_abs}
use Rattle.rounding.specs.Rounding.{tied}
use Rattle.rounding.specs.declared.HalfIntegerRounding.{HalfIntegerRounding}
use Rattle.rounding.specs.declared.HalfIntegerRounding.TheVariants.{AwayFromZero, ToEven}

nonzero : (r : ℕ) → (r ≡ 0 → ⊥) → eqb r 0 ≡ false
nonzero zero h = absurd (h refl)
nonzero (suc k) h = eqb-suc-zero k

module _ (b : ℤ) (h : nat_abs b ≤ 1048577) where
  abbrev below : Sx w32
  below = loc b 1048577 h

  pub back : to_z w32 (of_z w32 b) ≡ b
  back = X.back below tt

  pub add_fits : SFits w32 (to_z w32 (of_z w32 b) +ℤ pos 1)
  add_fits = fits (below ⊞ lit (pos 1)) tt

  pub next_back : to_z w32 (of_z w32 (to_z w32 (of_z w32 b) +ℤ pos 1)) ≡ b +ℤ pos 1
  next_back = X.back (below ⊞ lit (pos 1)) tt

  pub rem_fits : (0 < 2) × SFits w32 (quot_z (to_z w32 (of_z w32 b)) (pos 2))
  rem_fits = (lit< tt, fits (below ⊘ lit (pos 2)) tt)

  module _ (m : HalfIntegerRounding) (e : m ≡ AwayFromZero) where
    away-is : (t : Bool) → lt_z (to_z w32 (of_z w32 b)) (pos 0) ≡ t → tied m b ≡ cond t b (b +ℤ pos 1)
    away-is t g = ap (λ (k : HalfIntegerRounding). tied k b) e ∙ ap (λ (s : Bool). cond s b (b +ℤ pos 1)) (ap (λ (z : ℤ). lt_z z (pos 0)) (sym back) ∙ g)

    pub away_down : lt_z (to_z w32 (of_z w32 b)) (pos 0) ≡ true → to_z w32 (of_z w32 b) ≡ tied m b
    away_down g = back ∙ sym (away-is true g)

    pub away-up : lt_z (to_z w32 (of_z w32 b)) (pos 0) ≡ false → to_z w32 (of_z w32 (to_z w32 (of_z w32 b) +ℤ pos 1)) ≡ tied m b
    away-up g = next_back ∙ sym (away-is false g)

  module _ (m : HalfIntegerRounding) (e : m ≡ ToEven) where
    even_is : (t : Bool) → eqb (nat_abs b % 2) 0 ≡ t → tied m b ≡ cond t b (b +ℤ pos 1)
    even_is t g = ap (λ (k : HalfIntegerRounding). tied k b) e ∙ ap (λ (s : Bool). cond s b (b +ℤ pos 1)) g

    -- the remainder, by its magnitude
    rest : nat_abs (rem_z (to_z w32 (of_z w32 b)) (pos 2)) ≡ nat_abs b % 2
    rest = rem-abs (to_z w32 (of_z w32 b)) (pos 2) ∙ ap (λ (z : ℤ). nat_abs z % 2) back

    pub even_down : of_z w32 (rem_z (to_z w32 (of_z w32 b)) (pos 2)) ≡ 0 → to_z w32 (of_z w32 b) ≡ tied m b
    even_down g = back ∙ sym (even_is true (ap (λ (n : ℕ). eqb n 0) (sym rest ∙ zero-abs {w = w32} (val_fits (loc (to_z w32 (of_z w32 b)) 1048577 (subst_size) ⊖ lit (pos 2)) tt) g)))
      where
        subst_size : nat_abs (to_z w32 (of_z w32 b)) ≤ 1048577
        subst_size = subst (λ (z : ℤ). nat_abs z ≤ 1048577) (sym back) h

    pub even_up : (of_z w32 (rem_z (to_z w32 (of_z w32 b)) (pos 2)) ≡ 0 → ⊥) → to_z w32 (of_z w32 (to_z w32 (of_z w32 b) +ℤ pos 1)) ≡ tied m b
    even_up g = next_back ∙ sym (even_is false (nonzero (nat_abs b % 2) (λ (k : nat_abs b % 2 ≡ 0). nonzero_abs w32 (rem_z (to_z w32 (of_z w32 b)) (pos 2)) g (rest ∙ k))))

-- either way a tie goes to one of the two
cond_either : (P : ℤ → Type 0) (t : Bool) (x y : ℤ) → P x → P y → P (cond t x y)
cond_either P true x y p q = p
cond_either P false x y p q = q

pub tied_either : (P : ℤ → Type 0) (m : HalfIntegerRounding) (b : ℤ) → P b → P (b +ℤ pos 1) → P (tied m b)
tied_either P AwayFromZero b p q = cond_either P (lt_z b (pos 0)) b (b +ℤ pos 1) p q
tied_either P ToEven b p q = cond_either P (eqb (nat_abs b % 2) 0) b (b +ℤ pos 1) p q
