-- Which integers a machine word holds, and what casts, tests and shifts of words say of integers. Assumes nothing.
use mathlib.Core.Path.{◌≡◌, ap, sym, refl, ◌∙◌}
use Prim.Native.Nat.{zero-le, ◌^◌, ◌≤◌, ◌<◌, ◌*◌, ◌%◌, ℕ}
use native.Mathlib.Nat.{mod-eq_of_lt, one-mul, lt_of_le_of_lt}
use native.Mathlib.Omega.{arith}
use lib.Dec.{ltb→lt, ltb, T}
use lib.IntN.{pos, negsuc, nat_abs, ℤ}
use lib.Pow.{pow-lt, pow_pos}
use lib.Signed.{non_neg, mag, ◌<ℤ◌, ◌≤ℤ◌}
use mir.Facts.{to_z-of_z}
use mir.Syntax.{Width, w32}
use mir.Val.{SFits, hbits, to_z, of_z, Fits, bits}
use Rattle.numbers.proofs.Integers.{dn, up}
use mir.ValLaws as L

-- ---- fits, from a magnitude; `fits_abs w32 z (omega (arith, abs-add a b))`

pub fits_abs : (w : Width) (z : ℤ) → nat_abs z < 2 ^ hbits w → SFits w z
fits_abs w (pos n) h = record { sfits = h }
fits_abs w (negsuc n) h = record { sfits = omega arith }

-- of a call's result: `fits_ok w32 c.f.result c.f.ok`
pub fits_ok : (w : Width) (z : ℤ) → mag z < 2 ^ hbits w → SFits w z
fits_ok w z h = record { sfits = h }

-- and it reads back as itself: `held c.f.result c.f.ok`
pub held : (z : ℤ) → mag z < 2 ^ hbits w32 → to_z w32 (of_z w32 z) ≡ z
held z h = to_z-of_z (fits_ok w32 z h)

-- below a bound that is a number: `fits_mag 1000 tt z h`
pub fits_mag : {w : Width} (B : ℕ) → T (ltb B (2 ^ hbits w)) → (z : ℤ) → nat_abs z ≤ B → SFits w z
fits_mag {w} B t z h = fits_abs w z (lt_of_le_of_lt h (ltb→lt B (2 ^ hbits w) t))

-- from the two halves, for a range whose low end is the type's
pub fits_half : (w : Width) (z : ℤ) → up z < 2 ^ hbits w → dn z ≤ 2 ^ hbits w → SFits w z
fits_half w (pos n) h l = record { sfits = h }
fits_half w (negsuc n) h l = record { sfits = l }

-- what a fit tells
pub fits_up : {w : Width} {z : ℤ} → SFits w z → up z < 2 ^ hbits w
fits_up {w} {z = pos n} f = f.sfits
fits_up {w} {z = negsuc n} f = omega (arith, f.sfits)

pub fits_dn : {w : Width} {z : ℤ} → SFits w z → dn z ≤ 2 ^ hbits w
fits_dn {w} {z = pos n} f = zero-le
fits_dn {w} {z = negsuc n} f = f.sfits

-- ---- casts

-- `z as u32`, of a z that is not negative
pub cast_su : {w : Width} (z : ℤ) → pos 0 ≤ℤ z → nat_abs z < 2 ^ bits w → T (non_neg z) × Fits w (nat_abs z)
cast_su (pos n) h l = (tt, record { fits = l })
cast_su (negsuc n) h l = absurd h.le

-- `n as i32`: `cast_us (omega arith)`
pub cast_us : {w : Width} {n : ℕ} → n < 2 ^ hbits w → SFits w (pos n)
cast_us h = record { sfits = h }

-- its bits are itself: what a signed division asks of its divisor
pub bits_pos : (w : Width) {z : ℤ} → pos 0 <ℤ z → 0 < of_z w z
bits_pos w {z = pos n} h = ltb→lt 0 n h.lt
bits_pos w {z = negsuc n} h = absurd h.lt

pub of_z-pos : (w : Width) {z : ℤ} → pos 0 ≤ℤ z → of_z w z ≡ nat_abs z
of_z-pos w {z = pos n} h = refl
of_z-pos w {z = negsuc n} h = absurd h.le

-- ---- a test `a == b` of signed numbers tells of their bits

pub bits-eq : {w : Width} {a b : ℤ} → SFits w a → SFits w b → of_z w a ≡ of_z w b → a ≡ b
bits-eq {w} {a} {b} fa fb e = sym (L.to_z-of_z w a fa) ∙ ap (to_z w) e ∙ L.to_z-of_z w b fb

-- `z == 0` and `z != 0`, of the magnitude
pub zero-abs : {w : Width} {z : ℤ} → SFits w z → of_z w z ≡ 0 → nat_abs z ≡ 0
zero-abs {w} {z} f e = ap nat_abs (sym (L.to_z-of_z w z f) ∙ ap (to_z w) e ∙ L.to_z_pos w 0 (pow_pos (hbits w)))

pub nonzero_abs : (w : Width) (z : ℤ) → (of_z w z ≡ 0 → ⊥) → nat_abs z ≡ 0 → ⊥
nonzero_abs w (pos n) f e = f e
nonzero_abs w (negsuc n) f e = omega arith

-- ---- a shift of 1, below the width

pub one_shl : (w : Width) (n : ℕ) → n < bits w → (1 * 2 ^ n) % 2 ^ bits w ≡ 2 ^ n
one_shl w n h = rw one-mul (mod-eq_of_lt (pow-lt h))
