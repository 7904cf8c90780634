-- A whole signed expression of the code, answered at once. `Sx w` is an expression at the width w, each of whose leaves has a bound.
--     mach x   what the code's local holds after x, as a need has it: at each step the number that the machine reads back from the bits
--     raw x    the same before the last step: what the operation's need says fits
--     val x    the plain integer, as a definition has it
--     top x    a bound on val x's magnitude, which computes where the leaves' bounds are numerals
--     ok x     that every step's bound is in the width's range, which then computes to true, so that `tt` proves it
-- So, with an `abbrev X : tie.Start → Sx w32` for each expression of the code, a need `SFits w32 ..` is `fits (X c) tt`, and a result is
-- `back (X c) tt ∙ law`. A leaf that is a cast from an unsigned type, `n as i32`, is `loc (pos n) B h`, and a literal is `lit z`.
-- Assumes nothing.
use mathlib.Core.Bool.{Bool, true, ◌&&◌}
use mathlib.Core.Path.{◌≡◌, refl, sym, ap, ◌∙◌, subst}
use Prim.Native.Nat.{ℕ, ◌+◌, ◌*◌, ◌/◌, ◌^◌, ◌≤◌, ◌<◌}
use native.Mathlib.Nat.{le_refl, le_trans, lt_of_le_of_lt}
use native.Mathlib.Omega.{arith}
use lib.Dec.{T, ltb, ltb→lt}
use lib.IntN.{ℤ, pos, nat_abs, ◌+ℤ◌, ◌-ℤ◌, ◌*ℤ◌}
use lib.Signed.{lt_z, le_z, non_neg, quot_z, rem_z, shr_z, ◌≤ℤ◌, ◌<ℤ◌, nat_abs-le}
use mir.Facts.{and_yes}
use mir.Syntax.{Width}
use mir.Val.{SFits, Fits, bits, hbits, to_z, of_z}
use Rattle.numbers.proofs.Magnitudes.{abs-add, abs-sub, abs-mul-le, abs-quot, div_mono, abs-shr-le, rem-abs}
use Rattle.numbers.proofs.Words.{fits_mag, cast_su, bits_pos}
use mir.ValLaws as L
use native.Mathlib.Nat as NatL

infixl 60 ◌⊞◌ ◌⊟◌
infixl 70 ◌⊠◌ ◌⊘◌ ◌⊖◌ ◌⊳◌
pub data Sx (w : Width) : Type 0 where
  any : (z : ℤ) → SFits w z → Sx w
  loc : (z : ℤ) (B : ℕ) → nat_abs z ≤ B → Sx w
  lit : ℤ → Sx w
  ◌⊞◌ : Sx w → Sx w → Sx w
  ◌⊟◌ : Sx w → Sx w → Sx w
  ◌⊠◌ : Sx w → Sx w → Sx w
  ◌⊘◌ : Sx w → Sx w → Sx w
  ◌⊖◌ : Sx w → Sx w → Sx w
  ◌⊳◌ : Sx w → ℕ → Sx w

abbrev pub val : {w : Width} → Sx w → ℤ
val (any z f) = z
val (loc z B h) = z
val (lit z) = z
val (x ⊞ y) = val x +ℤ val y
val (x ⊟ y) = val x -ℤ val y
val (x ⊠ y) = val x *ℤ val y
val (x ⊘ y) = quot_z (val x) (val y)
val (x ⊖ y) = rem_z (val x) (val y)
val (x ⊳ m) = shr_z (val x) (2 ^ m)

abbrev pub raw : {w : Width} → Sx w → ℤ
raw (any z f) = z
raw (loc z B h) = z
raw (lit z) = z
raw {w} (x ⊞ y) = to_z w (of_z w (raw x)) +ℤ to_z w (of_z w (raw y))
raw {w} (x ⊟ y) = to_z w (of_z w (raw x)) -ℤ to_z w (of_z w (raw y))
raw {w} (x ⊠ y) = to_z w (of_z w (raw x)) *ℤ to_z w (of_z w (raw y))
raw {w} (x ⊘ y) = quot_z (to_z w (of_z w (raw x))) (to_z w (of_z w (raw y)))
raw {w} (x ⊖ y) = rem_z (to_z w (of_z w (raw x))) (to_z w (of_z w (raw y)))
raw {w} (x ⊳ m) = shr_z (to_z w (of_z w (raw x))) (2 ^ m)

abbrev pub mach : {w : Width} → Sx w → ℤ
mach {w} x = to_z w (of_z w (raw x))

-- what a divisor is at least, where it is a literal
abbrev pub low : {w : Width} → Sx w → ℕ
low (any z f) = 1
low (loc z B h) = 1
low (lit z) = nat_abs z
low (x ⊞ y) = 1
low (x ⊟ y) = 1
low (x ⊠ y) = 1
low (x ⊘ y) = 1
low (x ⊖ y) = 1
low (x ⊳ m) = 1

abbrev pub top : {w : Width} → Sx w → ℕ
top {w} (any z f) = 2 ^ hbits w
top (loc z B h) = B
top (lit z) = nat_abs z
top (x ⊞ y) = top x + top y
top (x ⊟ y) = top x + top y
top (x ⊠ y) = top x * top y
top (x ⊘ y) = top x / low y
top (x ⊖ y) = top x
top (x ⊳ m) = top x

abbrev pub ok : {w : Width} → Sx w → Bool
ok (any z f) = true
ok {w} (loc z B h) = ltb B (2 ^ hbits w)
ok {w} (lit z) = ltb (nat_abs z) (2 ^ hbits w)
ok {w} (x ⊞ y) = ok x && (ok y && ltb (top x + top y) (2 ^ hbits w))
ok {w} (x ⊟ y) = ok x && (ok y && ltb (top x + top y) (2 ^ hbits w))
ok {w} (x ⊠ y) = ok x && (ok y && ltb (top x * top y) (2 ^ hbits w))
ok {w} (x ⊘ y) = ok x && (ok y && ltb (top x / low y) (2 ^ hbits w))
ok {w} (x ⊖ y) = ok x && (ok y && ltb (top x) (2 ^ hbits w))
ok {w} (x ⊳ m) = ok x && ltb (top x) (2 ^ hbits w)

over_one : (a b : ℕ) → a / b ≤ a / 1
over_one a b = rw NatL.div-one (NatL.div-le_self a b)

over : {w : Width} (a : ℕ) (y : Sx w) → a / nat_abs (val y) ≤ a / low y
over a (any z f) = over_one a (nat_abs z)
over a (loc z B h) = over_one a (nat_abs z)
over a (lit z) = le_refl (a / nat_abs z)
over a (x ⊞ y) = over_one a (nat_abs (val (x ⊞ y)))
over a (x ⊟ y) = over_one a (nat_abs (val (x ⊟ y)))
over a (x ⊠ y) = over_one a (nat_abs (val (x ⊠ y)))
over a (x ⊘ y) = over_one a (nat_abs (val (x ⊘ y)))
over a (x ⊖ y) = over_one a (nat_abs (val (x ⊖ y)))
over a (x ⊳ m) = over_one a (nat_abs (val (x ⊳ m)))

pub within : {w : Width} (x : Sx w) → nat_abs (val x) ≤ top x
within (any z f) = nat_abs-le z f.sfits
within (loc z B h) = h
within (lit z) = le_refl (nat_abs z)
within (x ⊞ y) = omega (arith, abs-add (val x) (val y), within x, within y)
within (x ⊟ y) = omega (arith, abs-sub (val x) (val y), within x, within y)
within (x ⊠ y) = abs-mul-le (val x) (val y) (top x) (top y) (within x) (within y)
within (x ⊘ y) = rw abs-quot (le_trans (over (nat_abs (val x)) y) (div_mono (low y) (within x)))
within (x ⊖ y) = omega (arith, rem-abs (val x) (val y), NatL.mod-le (nat_abs (val x)) (nat_abs (val y)), within x)
within (x ⊳ m) = omega (arith, abs-shr-le (val x) (2 ^ m), within x)

-- the parts of ok at an operation
parts : (a b c : Bool) → T (a && (b && c)) → T a × T b × T c
parts a b c t = ((and_yes a (b && c) t).0, (and_yes b c (and_yes a (b && c) t).1).0, (and_yes b c (and_yes a (b && c) t).1).1)

-- the plain integer fits
pub val_fits : {w : Width} (x : Sx w) → T (ok x) → SFits w (val x)
val_fits (any z f) t = f
val_fits {w} (loc z B h) t = fits_mag B t z h
val_fits {w} (lit z) t = fits_mag (nat_abs z) t z (le_refl (nat_abs z))
val_fits {w} (x ⊞ y) t = fits_mag (top x + top y) (parts (ok x) (ok y) _ t).2 _ (within (x ⊞ y))
val_fits {w} (x ⊟ y) t = fits_mag (top x + top y) (parts (ok x) (ok y) _ t).2 _ (within (x ⊟ y))
val_fits {w} (x ⊠ y) t = fits_mag (top x * top y) (parts (ok x) (ok y) _ t).2 _ (within (x ⊠ y))
val_fits {w} (x ⊘ y) t = fits_mag (top x / low y) (parts (ok x) (ok y) _ t).2 _ (within (x ⊘ y))
val_fits {w} (x ⊖ y) t = fits_mag (top x) (parts (ok x) (ok y) _ t).2 _ (within (x ⊖ y))
val_fits {w} (x ⊳ m) t = fits_mag (top x) (and_yes (ok x) _ t).1 _ (within (x ⊳ m))

both : (f : ℤ → ℤ → ℤ) {a b c d : ℤ} → a ≡ b → c ≡ d → f a c ≡ f b d
both f p q = λ i. f (p i) (q i)

step : {w : Width} (r z : ℤ) → r ≡ z → SFits w z → to_z w (of_z w r) ≡ z
step {w} r z e f = ap (λ (y : ℤ). to_z w (of_z w y)) e ∙ L.to_z-of_z w z f

-- what the machine has is the plain integer
pub raw_is : {w : Width} (x : Sx w) → T (ok x) → raw x ≡ val x
raw_is (any z f) t = refl
raw_is (loc z B h) t = refl
raw_is (lit z) t = refl
raw_is (x ⊞ y) t = let p = parts (ok x) (ok y) _ t in both ◌+ℤ◌ (step _ _ (raw_is x p.0) (val_fits x p.0)) (step _ _ (raw_is y p.1) (val_fits y p.1))
raw_is (x ⊟ y) t = let p = parts (ok x) (ok y) _ t in both ◌-ℤ◌ (step _ _ (raw_is x p.0) (val_fits x p.0)) (step _ _ (raw_is y p.1) (val_fits y p.1))
raw_is (x ⊠ y) t = let p = parts (ok x) (ok y) _ t in both ◌*ℤ◌ (step _ _ (raw_is x p.0) (val_fits x p.0)) (step _ _ (raw_is y p.1) (val_fits y p.1))
raw_is (x ⊘ y) t = let p = parts (ok x) (ok y) _ t in both quot_z (step _ _ (raw_is x p.0) (val_fits x p.0)) (step _ _ (raw_is y p.1) (val_fits y p.1))
raw_is (x ⊖ y) t = let p = parts (ok x) (ok y) _ t in both rem_z (step _ _ (raw_is x p.0) (val_fits x p.0)) (step _ _ (raw_is y p.1) (val_fits y p.1))
raw_is (x ⊳ m) t = let p = and_yes (ok x) _ t in ap (λ (z : ℤ). shr_z z (2 ^ m)) (step _ _ (raw_is x p.0) (val_fits x p.0))

-- what a result, or an argument of a call, is
pub back : {w : Width} (x : Sx w) → T (ok x) → mach x ≡ val x
back x t = step _ _ (raw_is x t) (val_fits x t)

-- what an operation's need asks (of a remainder `x % y` too it is the quotient: `fits (x ⊘ y) tt`)
pub fits : {w : Width} (x : Sx w) → T (ok x) → SFits w (raw x)
fits {w} x t = subst (SFits w) (sym (raw_is x t)) (val_fits x t)

-- a divisor is positive
pub divisor : {w : Width} (x : Sx w) → T (ok x) → pos 0 <ℤ val x → 0 < of_z w (raw x)
divisor {w} x t h = subst (λ (z : ℤ). 0 < of_z w z) (sym (raw_is x t)) (bits_pos w h)

-- a cast to an unsigned type
pub to_unsigned : {w : Width} (w' : Width) (x : Sx w) → T (ok x) → T (ltb (top x) (2 ^ bits w')) → pos 0 ≤ℤ val x → T (non_neg (mach x)) × Fits w' (nat_abs (mach x))
to_unsigned w' x t u h =
    subst (λ (z : ℤ). T (non_neg z) × Fits w' (nat_abs z)) (sym (back x t))
    (cast_su (val x) h (lt_of_le_of_lt (within x) (ltb→lt (top x) (2 ^ bits w') u)))

-- a cast to a signed type, wider or narrower
pub to_signed : {w : Width} (w' : Width) (x : Sx w) → T (ok x) → T (ltb (top x) (2 ^ hbits w')) → SFits w' (mach x)
to_signed w' x t u = subst (SFits w') (sym (back x t)) (fits_mag (top x) u (val x) (within x))

-- tests
pub test_lt : {w : Width} {b : Bool} (x y : Sx w) → T (ok x) → T (ok y) → lt_z (mach x) (mach y) ≡ b → lt_z (val x) (val y) ≡ b
test_lt x y s t e = (λ i. lt_z (sym (back x s) i) (sym (back y t) i)) ∙ e

pub test_le : {w : Width} {b : Bool} (x y : Sx w) → T (ok x) → T (ok y) → le_z (mach x) (mach y) ≡ b → le_z (val x) (val y) ≡ b
test_le x y s t e = (λ i. le_z (sym (back x s) i) (sym (back y t) i)) ∙ e

-- `==` and `!=` tell of the bits
pub test_eq : {w : Width} (x y : Sx w) → T (ok x) → T (ok y) → of_z w (raw x) ≡ of_z w (raw y) → val x ≡ val y
test_eq {w} x y s t e = sym (back x s) ∙ ap (to_z w) e ∙ back y t

pub test_ne : {w : Width} (x y : Sx w) → T (ok x) → T (ok y) → (of_z w (raw x) ≡ of_z w (raw y) → ⊥) → val x ≡ val y → ⊥
test_ne {w} x y s t f e = f (ap (of_z w) (raw_is x s ∙ e ∙ sym (raw_is y t)))
