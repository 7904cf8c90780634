-- What a test that holds, the `&&` and `||` of definitions and the `!` of the code tell. Assumes nothing.
use mathlib.Core.Bool.{Bool, true, false, ◌&&◌, ◌||◌}
use mathlib.Core.Path.{◌≡◌, refl, sym, subst, ◌∙◌}
use lib.Dec.{T}

pub T_true : (b : Bool) → T b → b ≡ true
T_true true t = refl
T_true false t = absurd t

pub true-T : (b : Bool) → b ≡ true → T b
true-T b e = subst T (sym e) tt

pub F-false : (b : Bool) → (T b → ⊥) → b ≡ false
F-false true n = absurd (n tt)
F-false false n = refl

pub and_left : (a b : Bool) → T (a && b) → T a
and_left true b t = tt
and_left false b t = t

pub and_right : (a b : Bool) → T (a && b) → T b
and_right true b t = t
and_right false b t = absurd t

pub or_left : (a b : Bool) → T a → T (a || b)
or_left true b t = tt
or_left false b t = absurd t

pub or_right : (a b : Bool) → T b → T (a || b)
or_right true b t = tt
or_right false b t = t

pub both_true : (a b : Bool) → (a && b) ≡ true → (a ≡ true) × (b ≡ true)
both_true a b e = let t = true-T (a && b) e in (T_true a (and_left a b t), T_true b (and_right a b t))

pub true_both : {a b : Bool} → a ≡ true → b ≡ true → (a && b) ≡ true
true_both {a} {b} e h = rw e h

pub and-false : (a : Bool) → (a && false) ≡ false
and-false true = refl
and-false false = refl

-- `if !r`, of a flag r that is the test t
pub flag_refuses : {r t : Bool} → r ≡ t → r ≡ false → t ≡ false
flag_refuses e h = sym e ∙ h

pub flag_passes : {r t : Bool} → r ≡ t → r ≡ true → t ≡ true
flag_passes e h = sym e ∙ h
