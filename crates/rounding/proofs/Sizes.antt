-- The test whether an f64 is rounded says that it is finite and at most 2 ^ 20 in size. Assumes nothing.
use mathlib.Core.Bool.{Bool, true, false, not, cond, true≢false}
use mathlib.Core.Path.{◌≡◌, refl, sym, ap, ◌∙◌, subst}
use Prim.Native.Nat.{◌*◌, ◌^◌}
use native.Mathlib.Omega.{arith}
use lib.Dec.{T}
use lib.Ieee.{Float, nan, inf, fin, binary64, eq, fits, le, lt, neg, of_bits}
use lib.IntN.{ℤ, pos, negsuc, neg_ℤ, nat_abs}
use Rattle.f64_error.proofs.Binary64.{lt-is, neg_is, nlt_is, zero_is}
use Rattle.f64_error.proofs.Order.{Le, Lt}
use Rattle.f64_error.proofs.Zeros.{whole_units}
use Rattle.f64_error.specs.Units.{Is, one, sgn}
use Rattle.f64_error.specs.Wholes.{mag_f}
use Rattle.rounding.specs.Near.{Roundable, roundable}
use Rattle.rounding.proofs.Orders.{le_not_lt}

-- ---- 2 ^ 20

abbrev limit : Float
limit = fin false 1 (pos 20)

limit_bits : of_bits binary64 0x4130000000000000 ≡ limit
unfolding of_bits
limit_bits = refl

limit_is : Is limit (pos (1048576 * one))
unfolding Is one
limit_is = (1048576 * 2 ^ 1074, refl, refl)

-- ---- the size of a finite float

below-zero : (v : ℤ) → Lt v (pos 0) → neg_ℤ v ≡ pos (nat_abs v)
below-zero (pos n) h = absurd (omega arith)
below-zero (negsuc n) h = refl

not-below-zero : (v : ℤ) → Le (pos 0) v → v ≡ pos (nat_abs v)
not-below-zero (pos n) h = refl
not-below-zero (negsuc n) h = absurd (omega arith)

size_is : (x : Float) (v : ℤ) → Is x v → Is (mag_f x) (pos (nat_abs v))
size_is x v i = go (lt x (fin false 0 (pos 0))) refl
  where
    go : (b : Bool) → lt x (fin false 0 (pos 0)) ≡ b → Is (cond b (neg x) x) (pos (nat_abs v))
    go true e = subst (λ (w : ℤ). Is (neg x) w) (below-zero v (lt-is x (fin false 0 (pos 0)) v (pos 0) i zero_is e)) (neg_is x v i)
    go false e = subst (λ (w : ℤ). Is x w) (not-below-zero v (nlt_is x (fin false 0 (pos 0)) v (pos 0) i zero_is e)) i

not-above : (y : Float) (v : ℤ) → Is y v → le y limit ≡ not (lt limit y)
unfolding Is
not-above nan v i = absurd i
not-above (inf s) v i = absurd i
not-above (fin s m e) v i = le_not_lt s m e 1 (pos 20)

-- ---- the test

test_is : (x : Float) (v : ℤ) → Is x v → roundable x ≡ not (lt limit (mag_f x))
unfolding roundable
test_is x v i = ap (le (mag_f x)) limit_bits ∙ not-above (mag_f x) (pos (nat_abs v)) (size_is x v i)

pub roundable_shown : (x : Float) → Roundable x → roundable x ≡ true
roundable_shown x h = test_is x h.v h.is ∙ ap not (go (lt limit (mag_f x)) refl)
  where
    go : (b : Bool) → lt limit (mag_f x) ≡ b → b ≡ false
    go true e =
        let l = lt-is limit (mag_f x) (pos (1048576 * one)) (pos (nat_abs h.v)) limit_is (size_is x h.v h.is) e in
        absurd (omega (arith, h.size))
    go false e = refl

finite_bounded : (x : Float) (v : ℤ) → Is x v → roundable x ≡ true → Roundable x
finite_bounded x v i t = go (lt limit (mag_f x)) refl (sym (test_is x v i) ∙ t)
  where
    go : (b : Bool) → lt limit (mag_f x) ≡ b → not b ≡ true → Roundable x
    go true e f = absurd (true≢false (sym f))
    go false e f =
        let l = nlt_is limit (mag_f x) (pos (1048576 * one)) (pos (nat_abs v)) limit_is (size_is x v i) e in
        record { v = v; is = i; size = omega arith }

-- an f64 that is not finite fails it
inf_fails : (s : Bool) → roundable (inf s) ≡ false
unfolding roundable lt le eq neg of_bits
inf_fails true = refl
inf_fails false = refl

nan_fails : roundable nan ≡ false
unfolding roundable lt le eq neg
nan_fails = refl

pub roundable_means : (x : Float) → fits binary64 x ≡ true → roundable x ≡ true → Roundable x
unfolding Is
roundable_means nan f t = absurd (true≢false (sym t ∙ nan_fails))
roundable_means (inf s) f t = absurd (true≢false (sym t ∙ inf_fails s))
roundable_means (fin s m e) f t =
    let w = (whole_units binary64 s m e (subst (λ (b : Bool). T b) (sym f) tt)).1 in
    finite_bounded (fin s m e) (sgn s (m * 2 ^ w.power)) (m * 2 ^ w.power, w.is, refl) t

-- the same, as the program asks: g is what `magnitude` gave
module _ (x g : Float) (e : g ≡ mag_f x) where
  asked : (b : Bool) → le g (of_bits binary64 4697254411347427328) ≡ b → roundable x ≡ b
  unfolding roundable
  asked b t = ap (λ (y : Float). le y (of_bits binary64 4697254411347427328)) (sym e) ∙ t

  pub too_large : le g (of_bits binary64 4697254411347427328) ≡ false → roundable x ≡ false
  too_large t = asked false t

  pub not_too_large : le g (of_bits binary64 4697254411347427328) ≡ true → roundable x ≡ true
  not_too_large t = asked true t
