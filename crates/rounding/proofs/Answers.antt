-- What is answered where a value is rounded and where it is refused, and that of a value within the limits an answer tells its whole number. Assumes nothing.
use mathlib.Core.Bool.{Bool, true, false, cond}
use mathlib.Core.List.{[], ◌∷◌}
use mathlib.Core.Path.{◌≡◌, ap, ◌∙◌, sym}
use Prim.Native.Nat.{ℕ}
use native.Mathlib.Omega.{arith}
use lib.Ieee.{Float}
use lib.IntN.{ℤ}
use Rattle.numbers.specs.Outcome.{Outcome, accepted, checked, refused}
use Rattle.rounding.specs.Near.{Roundable, roundable}
use Rattle.rounding.specs.Rounding.{rounded_outcome, whole_of}
use Rattle.rounding.specs.declared.HalfIntegerRounding.{HalfIntegerRounding}
use Rattle.rounding.proofs.Sizes.{roundable_shown}
use Rattle.std.specs.Prelude.{None, Option, Some}

module _ (m : HalfIntegerRounding) (x : Float) where
  abbrev pub due : Outcome ℤ
  due = checked ((roundable x, 13) ∷ []) (accepted (whole_of m x))

  pub refuses : roundable x ≡ false → rounded_outcome None ≡ due
  refuses e = simp e

  pub answers : (z : ℤ) → roundable x ≡ true → z ≡ whole_of m x → rounded_outcome (Some z) ≡ due
  answers z e h = ap accepted h ∙ sym (ap (λ (b : Bool). cond b (accepted (whole_of m x)) (refused 13 0)) e)

  -- ---- for callers

  module _ (r : Option ℤ) (e : rounded_outcome r ≡ due) (h : Roundable x) where
    told : rounded_outcome r ≡ accepted (whole_of m x)
    told = e ∙ ap (λ (b : Bool). cond b (accepted (whole_of m x)) (refused 13 0)) (roundable_shown x h)

    pub tells_whole : (z : ℤ) → r ≡ Some z → z ≡ whole_of m x
    tells_whole z g = let t : accepted z ≡ accepted (whole_of m x) = sym (ap rounded_outcome g) ∙ told in cc

    pub never_refused : r ≡ None → ⊥
    never_refused g =
        let t : ◌≡◌ {A = Outcome ℤ} (refused 13 0) (accepted (whole_of m x)) = sym (ap rounded_outcome g) ∙ told in
        let n : ◌≡◌ {A = ℕ} 0 1 = cc in
        omega arith
