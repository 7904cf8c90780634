-- The bounds of b bits as the program makes them: 1 shifted, its negative, and one less; each is an i32 where b is below 31. Assumes nothing.
use mathlib.Core.Path.{◌≡◌, ap, ◌∙◌, subst, sym}
use Prim.Native.Nat.{ℕ, ◌*◌, ◌%◌, ◌^◌, ◌<◌}
use native.Mathlib.Nat.{le_of_suc-le-suc}
use native.Mathlib.Omega.{arith}
use lib.IntN.{pos, ◌-ℤ◌, +ℤ_idl}
use lib.Pow.{pow_mono}
use mir.Facts.{to_z-of_z}
use mir.Syntax.{w32}
use mir.Val.{SFits, to_z, of_z}
use Rattle.numbers.proofs.Expressions.{Sx, loc, lit, ◌⊟◌, fits, back, val_fits}
use Rattle.numbers.proofs.Words.{one_shl}
use Rattle.ranges.specs.Range.{highest, lowest}

module _ (b : ℕ) (h : b < 31) where
  -- as the machine has 2 ^ b
  abbrev n : ℕ
  n = 1 * 2 ^ b % 4294967296

  n_is : n ≡ 2 ^ b
  n_is = one_shl w32 b (omega arith)

  abbrev top : Sx w32
  top = loc (pos (2 ^ b)) (2 ^ 30) (pow_mono (le_of_suc-le-suc h))

  pub cast_fits : SFits w32 (pos n)
  cast_fits = subst (λ (z : ℕ). SFits w32 (pos z)) (sym n_is) (fits top tt)

  pub low_fits : SFits w32 (pos 0 -ℤ to_z w32 n)
  low_fits = subst (λ (z : ℕ). SFits w32 (pos 0 -ℤ to_z w32 z)) (sym n_is) (fits (lit (pos 0) ⊟ top) tt)

  pub high_fits : SFits w32 (to_z w32 n -ℤ pos 1)
  high_fits = subst (λ (z : ℕ). SFits w32 (to_z w32 z -ℤ pos 1)) (sym n_is) (fits (top ⊟ lit (pos 1)) tt)

  pub low-is : to_z w32 (of_z w32 (pos 0 -ℤ to_z w32 n)) ≡ lowest b
  low-is = ap (λ (z : ℕ). to_z w32 (of_z w32 (pos 0 -ℤ to_z w32 z))) n_is ∙ back (lit (pos 0) ⊟ top) tt ∙ +ℤ_idl (lowest b)

  pub high_is : to_z w32 (of_z w32 (to_z w32 n -ℤ pos 1)) ≡ highest b
  high_is = ap (λ (z : ℕ). to_z w32 (of_z w32 (to_z w32 z -ℤ pos 1))) n_is ∙ back (top ⊟ lit (pos 1)) tt

  -- each is what is read back from its bits
  pub low_back : to_z w32 (of_z w32 (lowest b)) ≡ lowest b
  low_back = to_z-of_z {w = w32} {z = lowest b} (subst (SFits w32) (+ℤ_idl (lowest b)) (val_fits (lit (pos 0) ⊟ top) tt))

  pub high_back : to_z w32 (of_z w32 (highest b)) ≡ highest b
  high_back = to_z-of_z {w = w32} {z = highest b} (val_fits (top ⊟ lit (pos 1)) tt)
