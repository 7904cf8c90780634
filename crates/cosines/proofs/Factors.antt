-- The factor C by cases, as the program finds it. Assumes nothing.
use mathlib.Core.Bool.{Bool, true, false, not, cond}
use mathlib.Core.Path.{◌≡◌, refl, sym, subst}
use Prim.Native.Nat.{ℕ}
use lib.Dec.{T, eqb, eqb→eq, not_T}
use lib.Ieee.{binary64, of_bits}
use Rattle.cosines.specs.Cosines.{c_f}

yes : {X : Type 0} (b : Bool) (x y : X) → T b → cond b x y ≡ x
yes true x y t = refl
yes false x y t = absurd t

no : {X : Type 0} (b : Bool) (x y : X) → T (not b) → cond b x y ≡ y
no true x y t = absurd t
no false x y t = refl

pub c-zero : (u : ℕ) → u ≡ 0 → of_bits binary64 0x3fe6a09e667f3bcd ≡ c_f u
unfolding c_f
c-zero u h = sym (yes (eqb u 0) (of_bits binary64 0x3fe6a09e667f3bcd) (of_bits binary64 0x3ff0000000000000) (subst (λ (z : ℕ). T (eqb z 0)) (sym h) tt))

pub c_other : (u : ℕ) → (u ≡ 0 → ⊥) → of_bits binary64 0x3ff0000000000000 ≡ c_f u
unfolding c_f
c_other u h = sym (no (eqb u 0) (of_bits binary64 0x3fe6a09e667f3bcd) (of_bits binary64 0x3ff0000000000000) (not_T (eqb u 0) (λ (t : T (eqb u 0)). h (eqb→eq u 0 t))))
