-- Digits, the bytes that pairs of digits write, and a word that is data. Assumes nothing.
use mathlib.Core.Bool.{Bool, true, false, true≢false, ◌&&◌, ◌||◌, cond}
use mathlib.Core.List.{List, [], ◌∷◌}
use mathlib.Core.Logic.{⊎_elim}
use Rattle.std.specs.Char.{is_ascii_hexdigit}
use Rattle.std.specs.List.{list_all}
use Rattle.std.specs.Prelude.{None, Some}
use mathlib.Core.Path.{◌≡◌, refl, ap, ap₂, sym, ◌∙◌}
use Prim.Native.Nat.{ℕ, zero, suc, ◌+◌, ◌*◌, ◌-◌, ◌/◌, ◌%◌, ◌<◌, ◌≤◌}
use native.Mathlib.Nat.{not-suc-le-zero, le_of_suc-le-suc}
use native.Mathlib.Numerals.{add-one}
use native.Mathlib.Omega.{arith}
use lib.Dec.{eqb, leb}
use lib.ListN.{length, get_or, set}
use lib.Seq.{paste, paste-suc}
use borrow.Author.Tests.{le-leb, lt-leb, leb-true, eqb-true}
use Rattle.numbers.specs.Every.{every}
use Rattle.numbers.proofs.Fill.{lt-or-le}
use Rattle.numbers.proofs.Tests.{both_true}
use Rattle.forms.proofs.PartLaws.{part_at, part_length}
use Rattle.forms.specs.Forms.{longest}
use Rattle.forms.specs.Reading.{part, room_for_data, there}
use Rattle.forms.specs.Words.{byte_of, bytes_of, hex_in, hex_of, is_hex}

-- ---- a digit

or_or : (a b c : Bool) → (a || b) || c ≡ a || (b || c)
or_or true b c = refl
or_or false b c = refl

-- as std tests it
hex_is : (b : ℕ) → is_ascii_hexdigit b ≡ is_hex b
hex_is b = or_or (leb 48 b && leb b 57) (leb 65 b && leb b 70) (leb 97 b && leb b 102)

pub hex_all : (xs : List ℕ) → list_all is_ascii_hexdigit xs ≡ every is_hex xs
hex_all [] = refl
hex_all (x ∷ xs) = ap₂ ◌&&◌ (hex_is x) (hex_all xs)

module _ (b : ℕ) where
  pub not_hex_low : b < 48 → is_hex b ≡ false
  not_hex_low h = rw (lt-leb 48 b h, lt-leb 65 b (omega arith), lt-leb 97 b (omega arith))

  pub not_hex_lower : 70 < b → b < 97 → is_hex b ≡ false
  not_hex_lower l h = rw (le-leb 48 b (omega arith), lt-leb b 57 (omega arith), le-leb 65 b (omega arith), lt-leb b 70 l, lt-leb 97 b h)

  pub hex_lower : 97 ≤ b → is_hex b ≡ leb b 102
  hex_lower l = rw (le-leb 48 b (omega arith), lt-leb b 57 (omega arith), le-leb 65 b (omega arith), lt-leb b 70 (omega arith), le-leb 97 b l)

  -- what a digit tells of itself
  module _ (e : is_hex b ≡ true) where
    never : {A : Type 0} → is_hex b ≡ false → A
    never f = absurd (true≢false (sym e ∙ f))

    pub hex_low : 48 ≤ b
    hex_low = ⊎_elim (λ (h : b < 48). never (not_hex_low h)) (λ (h : 48 ≤ b). h) (lt-or-le b 48)

    pub hex_past_upper : 70 < b → 97 ≤ b
    hex_past_upper l = ⊎_elim (λ (h : b < 97). never (not_hex_lower l h)) (λ (h : 97 ≤ b). h) (lt-or-le b 97)

    pub hex_past_lower : 70 < b → b ≤ 102
    hex_past_lower l = leb-true b 102 (sym (hex_lower (hex_past_upper l)) ∙ e)

  pub hex_of_digit : b ≤ 57 → b - 48 ≡ hex_of b
  hex_of_digit h = rw (le-leb b 57 h)

  pub hex_of_upper : 57 < b → b ≤ 70 → b - 55 ≡ hex_of b
  hex_of_upper l h = rw (lt-leb b 57 l, le-leb b 70 h)

  pub hex_of_lower : 57 < b → 70 < b → b - 87 ≡ hex_of b
  hex_of_lower l h = rw (lt-leb b 57 l, lt-leb b 70 h)

-- ---- bytes from a place up to another

module _ (p : ℕ → Bool) where
  every-below : (xs : List ℕ) → every p xs ≡ true → (i : ℕ) → i < length xs → p (get_or xs i 0) ≡ true
  every-below [] t i l = absurd (not-suc-le-zero l)
  every-below (x ∷ xs) t zero l = (both_true (p x) (every p xs) t).0
  every-below (x ∷ xs) t (suc i) l = every-below xs (both_true (p x) (every p xs) t).1 i (le_of_suc-le-suc l)

  module _ (l : List ℕ) (from to : ℕ) (h : to ≤ length l) where
    pub part_each : every p (part l from to) ≡ true → (i : ℕ) → from ≤ i → i < to → p (get_or l i 0) ≡ true
    part_each t i m k =
        let e : from + (i - from) ≡ i = omega arith in
        ap (λ (j : ℕ). p (get_or l j 0)) (sym e)
        ∙ ap p (sym (part_at l from to (i - from) (omega arith)))
        ∙ every-below (part l from to) t (i - from) (omega (arith, part_length l from to h))

-- ---- bytes of pairs of digits

bytes-length : (xs : List ℕ) → length (bytes_of xs) ≡ length xs / 2
unfolding bytes_of
bytes-length [] = refl
bytes-length (a ∷ []) = refl
bytes-length (a ∷ b ∷ bs) = let e : length (bytes_of bs) ≡ length bs / 2 = bytes-length bs in omega arith

bytes_at : (xs : List ℕ) (k : ℕ) → 2 * k + 1 < length xs → get_or (bytes_of xs) k 0 ≡ byte_of (get_or xs (2 * k) 0) (get_or xs (suc (2 * k)) 0)
unfolding bytes_of
bytes_at [] k h = absurd (not-suc-le-zero h)
bytes_at (a ∷ []) k h = absurd (omega arith)
bytes_at (a ∷ b ∷ bs) zero h = refl
bytes_at (a ∷ b ∷ bs) (suc k) h =
    let e : suc (suc (2 * k)) ≡ 2 * suc k = omega arith in
    bytes_at bs k (omega arith) ∙ ap (λ (i : ℕ). byte_of (get_or (a ∷ b ∷ bs) i 0) (get_or (a ∷ b ∷ bs) (suc i) 0)) e

-- the byte that pair k writes
pub byte_at : (l : List ℕ) (from n k : ℕ) → from + 2 * n ≤ length l → k < n → (high low : ℕ) → high ≡ hex_of (get_or l (from + 2 * k) 0) → low ≡ hex_of (get_or l (from + 2 * k + 1) 0)
    → 16 * high + low ≡ get_or (bytes_of (part l from (from + 2 * n))) k 0
byte_at l from n k h p high low e f =
    let w = part l from (from + 2 * n) in
    let m : length w ≡ from + 2 * n - from = part_length l from (from + 2 * n) h in
    let z : from + 2 * k + 1 ≡ from + suc (2 * k) = omega arith in
    ap (λ (a : ℕ). 16 * a + low) (e ∙ ap hex_of (sym (part_at l from (from + 2 * n) (2 * k) (omega arith))))
    ∙ ap (λ (b : ℕ). 16 * hex_of (get_or w (2 * k) 0) + b) (f ∙ ap (λ (i : ℕ). hex_of (get_or l i 0)) z ∙ ap hex_of (sym (part_at l from (from + 2 * n) (suc (2 * k)) (omega arith))))
    ∙ sym (bytes_at w k (omega arith))

pub bytes_count : (l : List ℕ) (from to : ℕ) → to ≤ length l → length (bytes_of (part l from to)) ≡ (to - from) / 2
bytes_count l from to h = bytes-length (part l from to) ∙ ap (λ (n : ℕ). n / 2) (part_length l from to h)

-- one store of a loop that copies to the front
pub paste_more : (d s : List ℕ) (k x : ℕ) (l : List ℕ) → l ≡ paste d 0 s k → k < length d → k < length s → x ≡ get_or s k 0 → set l k x ≡ paste d 0 s (k + 1)
paste_more d s k x l e p q f =
    let z : 0 + k ≡ k = omega arith in
    ap (λ (j : ℕ). set l j x) (sym z)
    ∙ ap (λ (t : List ℕ). set t (0 + k) x) e
    ∙ ap (λ (y : ℕ). set (paste d 0 s k) (0 + k) y) f
    ∙ paste-suc d 0 s k 0 (omega arith) q
    ∙ ap (λ (j : ℕ). paste d 0 s j) (sym (add-one k))

-- ---- a word that is data

there-cond : {A : Type 0} (t : Bool) (a : A) → there (cond t (Some a) None) ≡ t
there-cond true a = refl
there-cond false a = refl

module _ (w : List ℕ) where
  data_tests : there (hex_in w) ≡ (leb 2 (length w) && (eqb (length w % 2) 0 && every is_hex w))
  unfolding hex_in
  data_tests = there-cond (leb 2 (length w) && (eqb (length w % 2) 0 && every is_hex w)) (bytes_of w)

module _ (l : List ℕ) (from to : ℕ) (in-l : to ≤ length l) where
  -- the tests of a part, by its length
  pub part_tests : there (hex_in (part l from to)) ≡ (leb 2 (to - from) && (eqb ((to - from) % 2) 0 && every is_hex (part l from to)))
  part_tests =
      data_tests (part l from to)
      ∙ ap (λ (n : ℕ). leb 2 n && (eqb (n % 2) 0 && every is_hex (part l from to))) (part_length l from to in-l)

  -- the data of a word in a line that is not too long fits into the room for data
  pub data_fits : length l ≤ longest → (room : ℕ) → room_for_data ≤ room → (to - from) / 2 ≤ room
  data_fits short room h = omega arith

  -- what a word that is data tells of itself
  module _ (up : from ≤ to) (e : there (hex_in (part l from to)) ≡ true) where
    told : ((to - from) % 2 ≡ 0) × (every is_hex (part l from to) ≡ true)
    told =
        let even = eqb ((to - from) % 2) 0 in
        let digits = every is_hex (part l from to) in
        let a = both_true even digits (both_true (leb 2 (to - from)) (even && digits) (sym part_tests ∙ e)).1 in
        (eqb-true ((to - from) % 2) 0 a.0, a.1)

    pub data_even : from + 2 * ((to - from) / 2) ≡ to
    data_even = omega (arith, told)

    pub data_digits : every is_hex (part l from (from + 2 * ((to - from) / 2))) ≡ true
    data_digits = ap (λ (i : ℕ). every is_hex (part l from i)) data_even ∙ told.1

    pub data_pasted : (d : List ℕ) → paste d 0 (bytes_of (part l from (from + 2 * ((to - from) / 2)))) ((to - from) / 2) ≡ paste d 0 (bytes_of (part l from to)) (length (bytes_of (part l from to)))
    data_pasted d =
        ap (λ (i : ℕ). paste d 0 (bytes_of (part l from i)) ((to - from) / 2)) data_even
        ∙ ap (λ (n : ℕ). paste d 0 (bytes_of (part l from to)) n) (sym (bytes_count l from to in-l))
