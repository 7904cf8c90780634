-- A ring of 2 w records: writing one keeps the 2 w - 1 written before it. Assumes nothing.
use mathlib.Core.List.{List}
use mathlib.Core.Logic.{inl, inr, ⊎_elim}
use mathlib.Core.Path.{◌≡◌, ap, sym, ◌∙◌}
use Prim.Native.Nat.{ℕ, ◌%◌, ◌*◌, ◌+◌, ◌-◌, ◌/◌, ◌<◌, ◌≤◌}
use native.Mathlib.Nat.{add-mod_right, add-mul, div-add-mod', eq-or-lt_of_le, mod-eq_of_lt, mod-lt, mul-add-mod_self_right, mul_assoc, mul-le-mul_right, one-mul}
use native.Mathlib.Omega.{arith}
use lib.IntN.{ℤ}
use lib.ListN.{length}
use Rattle.numbers.proofs.Fill.{lt-or-le}
use Rattle.record.proofs.RecordLaws.{kept-apart}
use Rattle.record.specs.Record.{record_at, stored_at}
use Rattle.picture_state.specs.Ring.{offset}
use Rattle.picture_state.specs.Sizes.{slot_length, store_for}

-- the slot of macroblock j
abbrev pub slot : ℕ → ℕ → ℕ
slot w j = j % (2 * w)

-- the offset that a call works out is the slot of the macroblock that came `back` before
pub offset-is : (w n back : ℕ) → back ≤ n → offset w n back ≡ slot w (n - back) * slot_length
offset-is w n back h =
    let e : n + 2 * w - back ≡ n - back + 2 * w = omega arith in
    ap (λ (k : ℕ). k % (2 * w) * slot_length) e ∙ ap (λ (k : ℕ). k * slot_length) (add-mod_right (n - back) (2 * w))

-- a macroblock `on` further on that looks back `on + rest` looks where this one does that looks back `rest`
pub offset_on : (w n on back rest : ℕ) → back ≡ on + rest → offset w (n + on) back ≡ offset w n rest
offset_on w n on back rest h = let e : n + on + 2 * w - back ≡ n + 2 * w - rest = omega arith in ap (λ (k : ℕ). k % (2 * w) * slot_length) e

pub slot_in : (w j n : ℕ) → 1 ≤ w → store_for w ≤ n → slot w j * slot_length + slot_length ≤ n
slot_in w j n h k = let m = mod-lt j {m = 2 * w} (omega arith) in omega arith

-- fewer than m apart, and not the same: not the same remainder
apart : (m a b r : ℕ) → a * m + r < b * m + r → b * m + r < a * m + r + m → ⊥
apart m a b r p q =
    ⊎_elim
    (λ (h : a < b). let k = mul-le-mul_right {m = a + 1} {n = b} m (omega arith) in let l = add-mul a 1 m in omega (arith, one-mul m))
    (λ (h : b ≤ a). let k = mul-le-mul_right {m = b} {n = a} m h in omega arith)
    (lt-or-le a b)

pub slots_apart : (w j n : ℕ) → j < n → n < j + 2 * w → slot w j ≡ slot w n → ⊥
slots_apart w j n p q e =
    let m = 2 * w in
    let a : j / m * m + j % m ≡ j = div-add-mod' j m in
    let b : n / m * m + n % m ≡ n = div-add-mod' n m in
    apart m (j / m) (n / m) (j % m) (omega arith) (omega arith)

-- what a write at one slot does to another
pub other_slot : (w j n : ℕ) (s r : List ℤ) → 1 ≤ w → store_for w ≤ length s → length r ≡ 91 → (slot w j ≡ slot w n → ⊥)
    → record_at (stored_at s (slot w n * slot_length) r) (slot w j * slot_length) ≡ record_at s (slot w j * slot_length)
other_slot w j n s r h k l ne =
    let a = slot_in w n (length s) h k in
    kept-apart s (slot w n * slot_length) (slot w j * slot_length) r (omega arith) l
    (⊎_elim
    (λ (c : slot w j < slot w n). inl (omega arith))
    (λ (c : slot w n ≤ slot w j). ⊎_elim (λ (e : slot w n ≡ slot w j). absurd (ne (sym e))) (λ (d : slot w n < slot w j). inr (omega arith)) (eq-or-lt_of_le c))
    (lt-or-le (slot w j) (slot w n)))

-- of the macroblocks that came up to 2 w - 1 before, and of those that come after
pub ring_kept : (w j n : ℕ) (s r : List ℤ) → 1 ≤ w → store_for w ≤ length s → length r ≡ 91 → j < n → n < j + 2 * w
    → record_at (stored_at s (slot w n * slot_length) r) (slot w j * slot_length) ≡ record_at s (slot w j * slot_length)
ring_kept w j n s r h k l p q = other_slot w j n s r h k l (slots_apart w j n p q)

pub earlier-kept : (w n back : ℕ) (s r : List ℤ) → 1 ≤ w → store_for w ≤ length s → length r ≡ 91 → 1 ≤ back → back < 2 * w
    → record_at (stored_at s (offset w n 0) r) (offset w n back) ≡ record_at s (offset w n back)
earlier-kept w n back s r h k l p q = ring_kept w (n + 2 * w - back) (n + 2 * w - 0) s r h k l (omega arith) (omega arith)

-- the slot is the row's parity and the column: two rows of w records
pub parity : (w j : ℕ) → 1 ≤ w → slot w j ≡ j / w % 2 * w + j % w
parity w j h =
    let q = j / w in
    let a : q / 2 * 2 + q % 2 ≡ q = div-add-mod' q 2 in
    let b : q * w + j % w ≡ j = div-add-mod' j w in
    let c : (q / 2 * 2 + q % 2) * w ≡ q / 2 * 2 * w + q % 2 * w = add-mul (q / 2 * 2) (q % 2) w in
    let d : q / 2 * 2 * w ≡ q / 2 * (2 * w) = mul_assoc (q / 2) 2 w in
    let e : (q / 2 * 2 + q % 2) * w ≡ q * w = ap (λ (k : ℕ). k * w) a in
    let f : j ≡ q / 2 * (2 * w) + (q % 2 * w + j % w) = omega arith in
    let m = mod-lt j {m = w} h in
    let n : q % 2 * w ≤ 1 * w = mul-le-mul_right {m = q % 2} {n = 1} w (omega arith) in
    ap (λ (k : ℕ). k % (2 * w)) f ∙ mul-add-mod_self_right (q / 2) (2 * w) (q % 2 * w + j % w) ∙ mod-eq_of_lt (omega (arith, one-mul w))
