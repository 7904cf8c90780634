-- Two numbers whose bits are or'd give zero only if each is zero. Assumes nothing.
use mathlib.Core.Bool.{Bool, true, false, ◌&&◌}
use mathlib.Core.Path.{◌≡◌, refl, ap, sym, ◌∙◌}
use Prim.Native.Nat.{ℕ}
use native.Mathlib.Omega.{arith}
use lib.Bits.{and_le_l, and_le_r, bit_or, or_add_and}
use lib.Dec.{eqb}
use lib.IntN.{ℤ, nat_abs}
use mir.Syntax.{w32}
use mir.Val.{SFits, of_z}
use borrow.Author.Tests.{eq-eqb, eqb-false, eqb-true, ne_eqb}
use Rattle.numbers.proofs.Words.{nonzero_abs, zero-abs}
use Rattle.exact_transform.specs.EvenOdd.{is_zero}

or-none : (a b : ℕ) → eqb (bit_or a b) 0 ≡ (eqb a 0 && eqb b 0)
or-none a b = go (eqb a 0) (eqb b 0) refl refl
  where
    go : (s t : Bool) → eqb a 0 ≡ s → eqb b 0 ≡ t → eqb (bit_or a b) 0 ≡ (s && t)
    go true true p q = let i = eqb-true a 0 p in let j = eqb-true b 0 q in eq-eqb (bit_or a b) 0 (omega (arith, or_add_and a b))
    go true false p q = ne_eqb (bit_or a b) 0 (λ (z : bit_or a b ≡ 0). eqb-false b 0 q (omega (arith, or_add_and a b, and_le_l a b, and_le_r a b)))
    go false t p q = ne_eqb (bit_or a b) 0 (λ (z : bit_or a b ≡ 0). eqb-false a 0 p (omega (arith, or_add_and a b, and_le_l a b, and_le_r a b)))

-- a number's bits are none only if it is zero
bits_none : (z : ℤ) → SFits w32 z → eqb (of_z w32 z) 0 ≡ is_zero z
bits_none z f = go (eqb (of_z w32 z) 0) refl
  where
    go : (t : Bool) → eqb (of_z w32 z) 0 ≡ t → t ≡ is_zero z
    go true e = sym (eq-eqb (nat_abs z) 0 (zero-abs {w = w32} {z = z} f (eqb-true (of_z w32 z) 0 e)))
    go false e = sym (ne_eqb (nat_abs z) 0 (nonzero_abs w32 z (eqb-false (of_z w32 z) 0 e)))

pub both_zero : (a : ℕ) (z : ℤ) → SFits w32 z → eqb (bit_or a (of_z w32 z)) 0 ≡ (eqb a 0 && is_zero z)
both_zero a z f = or-none a (of_z w32 z) ∙ ap (λ (t : Bool). eqb a 0 && t) (bits_none z f)
