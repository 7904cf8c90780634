-- A number below 2 ^ n and n bits are one thing, and how many bits bytes have. Assumes nothing.
use mathlib.Core.Bool.{Bool, true, false}
use mathlib.Core.List.{List, [], ◌∷◌, ◌++◌}
use mathlib.Core.Path.{◌≡◌, refl, sym, ap, ap₂, subst, ◌∙◌}
use Prim.Native.Nat.{ℕ, zero, suc, ◌+◌, ◌-◌, ◌*◌, ◌/◌, ◌%◌, ◌^◌, ◌≤◌, ◌<◌}
use native.Mathlib.Nat.{div-lt_iff_lt-mul, pow-succ', two-pow-succ, zero-mul, one-mul, zero-add, add_assoc, add-mul, mul_assoc, mod-lt, lt_of_lt_of_le}
use native.Mathlib.Omega.{arith}
use lib.Dec.{eqb, lit<}
use lib.ListN.{length-take, length, length-append, take, length-drop}
use lib.Pow.{pow_mono, pow_pos, pow-add, split, high, low}
use borrow.Author.Tests.{eqb-true, eqb-false}
use Rattle.bits.specs.Bits.{Bits, num, val, bin, bits_of, bits_from}

pub num-lt : (b : Bool) → num b < 2
num-lt true = lit< tt
num-lt false = lit< tt

pub val-lt : (b : Bits) → val b < 2 ^ length b
unfolding val
val-lt [] = lit< tt
val-lt (true ∷ bs) = rw (two-pow-succ (length bs), one-mul) (omega (arith, val-lt bs))
val-lt (false ∷ bs) = rw (two-pow-succ (length bs), zero-mul) (omega (arith, val-lt bs))

-- the first k bits of a list
pub val-take : (k : ℕ) (b : Bits) → val (take k b) < 2 ^ k
val-take k b =
    let le : length (take k b) ≤ k = subst (λ (n : ℕ). n ≤ k) (sym (length-take k b)) (omega arith) in
    lt_of_lt_of_le (val-lt (take k b)) (pow_mono le)

pub val-append : (a b : Bits) → val (a ++ b) ≡ val a * 2 ^ length b + val b
unfolding val
val-append [] b = sym (ap (λ (z : ℕ). z + val b) (zero-mul (2 ^ length b)) ∙ zero-add (val b))
val-append (x ∷ a) b =
    rw (val-append a b, length-append a b, pow-add 2 (length a) (length b), add-mul, mul_assoc, add_assoc) refl

pub length-bin : (n v : ℕ) → length (bin n v) ≡ n
unfolding bin
length-bin zero v = refl
length-bin (suc n) v = ap suc (length-bin n _)

below_two : (x : ℕ) → x < 2 → (x ≡ 1 → ⊥) → 0 ≡ x
below_two zero h n = refl
below_two (suc zero) h n = absurd (n refl)
below_two (suc (suc x)) h n = absurd (omega arith)

-- a bit that is read as a test is the number again
pub num-eqb : (x : ℕ) → x < 2 → num (eqb x 1) ≡ x
num-eqb x h = go (eqb x 1) refl
  where
    go : (t : Bool) → eqb x 1 ≡ t → num t ≡ x
    go true e = sym (eqb-true x 1 e)
    go false e = below_two x h (eqb-false x 1 e)

pub eqb-num : (b : Bool) → eqb (num b) 1 ≡ b
eqb-num true = refl
eqb-num false = refl

pub val-bin : (n v : ℕ) → v < 2 ^ n → val (bin n v) ≡ v
unfolding val bin
val-bin zero v h = omega arith
val-bin (suc n) v h =
    let top : v / 2 ^ n < 2 = (div-lt_iff_lt-mul {x = v} {y = 2} (pow_pos n)).1 (subst (λ (k : ℕ). v < k) (pow-succ' 2 n) h) in
    rw (length-bin n (v % 2 ^ n), val-bin n (v % 2 ^ n) (mod-lt v (pow_pos n)), num-eqb (v / 2 ^ n) top) (split v n)

pub bin-val : (b : Bits) → bin (length b) (val b) ≡ b
unfolding val bin
bin-val [] = refl
bin-val (x ∷ b) =
    ap₂ {A = Bool} {B = Bits} {C = Bits} (λ y ys. y ∷ ys) (ap (λ (k : ℕ). eqb k 1) (high (num x) (length b) (val-lt b)) ∙ eqb-num x)
    (ap (bin (length b)) (low (num x) (length b) (val-lt b)) ∙ bin-val b)

-- eight bits a byte
pub length-bits_of : (d : List ℕ) → length (bits_of d) ≡ 8 * length d
unfolding bits_of
length-bits_of [] = refl
length-bits_of (x ∷ d) =
    let e = length-append (bin 8 x) (bits_of d) in
    let l = length-bin 8 x in
    let r = length-bits_of d in
    omega arith

-- how many bits are left
pub length-bits_from : (d : List ℕ) (at : ℕ) → length (bits_from d at) ≡ 8 * length d - at
length-bits_from d at = length-drop at (bits_of d) ∙ ap (λ (n : ℕ). n - at) (length-bits_of d)
