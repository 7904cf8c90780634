-- The next 32 bits, where all of them are in the data and where not; and the fields that stand in them. Assumes nothing.
use mathlib.Core.Bool.{false}
use mathlib.Core.List.{List, [], ◌∷◌, ◌++◌, append_assoc}
use mathlib.Core.Path.{◌≡◌, refl, sym, ap, ap₂, ◌∙◌}
use Prim.Native.Nat.{ℕ, zero, suc, ◌+◌, ◌-◌, ◌*◌, ◌/◌, ◌%◌, ◌^◌, ◌<◌, ◌≤◌}
use native.Mathlib.Nat.{add-zero, mul-div_cancel, mul-mod_left, zero-mul}
use native.Mathlib.Omega.{arith}
use lib.ListN.{drop, get_or, length, length-append, length-drop, length-replicate, replicate, take, take-append-drop}
use lib.Pow.{low, mod-pow-add, pow_pos}
use lib.Seq.{drop-drop, ext_get_or, get_or-drop, get_or-take, length-take-le, take-add, take_all, take-append-le, take-take}
use Rattle.bits.proofs.BitLaws.{bin-val, length-bits_from, val-append, val-lt}
use Rattle.bits.proofs.CutLaws.{val-field}
use Rattle.bits.specs.Ahead.{window}
use Rattle.bits.specs.Bits.{Bits, bin, bits_from, bits_of, val}

bits-append : (d e : List ℕ) → bits_of (d ++ e) ≡ bits_of d ++ bits_of e
unfolding bits_of
bits-append [] e = refl
bits-append (x ∷ d) e = ap (λ (b : Bits). bin 8 x ++ b) (bits-append d e) ∙ sym (append_assoc (bin 8 x) (bits_of d) (bits_of e))

pub window_full : (d : List ℕ) (at : ℕ) → at + 32 ≤ 8 * length d → take 32 (bits_from d at) ≡ window d at
unfolding window
window_full d at h = sym (take-append-le 32 (bits_from d at) (replicate 32 false) (omega (arith, length-bits_from d at)))

-- ---- the data with bytes 0 behind it

abbrev pub followed : ℕ → List ℕ → List ℕ
followed n d = d ++ replicate n 0

-- a byte of it is one of the data, 0 past its end
pub followed_at : (n : ℕ) (d : List ℕ) (i : ℕ) → get_or (followed n d) i 0 ≡ get_or d i 0
followed_at zero [] i = refl
followed_at (suc n) [] zero = refl
followed_at (suc n) [] (suc i) = followed_at n [] i
followed_at n (x ∷ d) zero = refl
followed_at n (x ∷ d) (suc i) = followed_at n d i

-- a list of bits 0
abbrev None : Bits → Type 0
None z = (j : ℕ) → get_or z j false ≡ false

none_more : (z : Bits) → None z → None (false ∷ z)
none_more z h zero = refl
none_more z h (suc j) = h j

none-bits : (n : ℕ) → None (replicate n false)
none-bits zero = λ j. refl
none-bits (suc n) = none_more (replicate n false) (none-bits n)

-- behind a list they are what is read past its end
padded : (b z : Bits) → None z → (j : ℕ) → get_or (b ++ z) j false ≡ get_or b j false
padded [] z h j = h j
padded (x ∷ b) z h zero = refl
padded (x ∷ b) z h (suc j) = padded b z h j

none-bytes : (n : ℕ) → None (bits_of (replicate n 0))
unfolding bits_of bin
none-bytes zero = λ j. refl
none-bytes (suc n) = λ j. padded (bin 8 0) (bits_of (replicate n 0)) (none-bytes n) j ∙ none-bits 8 j

pub window_followed : (d : List ℕ) (at n : ℕ) → at + 32 ≤ 8 * (length d + n) → take 32 (bits_from (followed n d) at) ≡ window d at
unfolding window
window_followed d at n h =
    let l : List ℕ = followed n d in
    let len : length l ≡ length d + n = length-append d (replicate n 0) ∙ ap (λ (m : ℕ). length d + m) (length-replicate n 0) in
    let left : length (take 32 (bits_from l at)) ≡ 32 = length-take-le 32 (bits_from l at) (omega (arith, length-bits_from l at)) in
    let right : length (take 32 (bits_from d at ++ replicate 32 false)) ≡ 32 =
    length-take-le 32 (bits_from d at ++ replicate 32 false) (omega (arith, length-append (bits_from d at) (replicate 32 false), length-replicate 32 false)) in
    ext_get_or false (take 32 (bits_from l at)) (take 32 (bits_from d at ++ replicate 32 false)) (left ∙ sym right)
    (λ (k : ℕ) (p : k < length (take 32 (bits_from l at))).
    let below : k < 32 = omega arith in
    get_or-take 32 (bits_from l at) k false below ∙ get_or-drop at (bits_of l) k false
    ∙ ap (λ (b : Bits). get_or b (at + k) false) (bits-append d (replicate n 0)) ∙ padded (bits_of d) (bits_of (replicate n 0)) (none-bytes n) (at + k)
    ∙ sym (get_or-drop at (bits_of d) k false) ∙ sym (padded (bits_from d at) (replicate 32 false) (none-bits 32) k)
    ∙ sym (get_or-take 32 (bits_from d at ++ replicate 32 false) k false below))

-- ---- fields of a window

pub window-length : (d : List ℕ) (at : ℕ) → length (window d at) ≡ 32
unfolding window
window-length d at = length-take-le 32 (bits_from d at ++ replicate 32 false) (omega (arith, length-append (bits_from d at) (replicate 32 false), length-replicate 32 false))

-- bits that are in the data stand at the front of the window
pub window-begins : (d : List ℕ) (at n : ℕ) → n ≤ 32 → at + n ≤ 8 * length d → bits_from d at ≡ take n (window d at) ++ bits_from d (at + n)
unfolding window
window-begins d at n h l =
    let b : Bits = bits_from d at in
    let front : take n b ≡ take n (take 32 (b ++ replicate 32 false)) =
    sym (take-take n 32 (b ++ replicate 32 false) h ∙ take-append-le n b (replicate 32 false) (omega (arith, length-bits_from d at))) in
    sym (take-append-drop n b) ∙ ap₂ (λ (x y : Bits). x ++ y) front (drop-drop n at (bits_of d))

-- n bits, with `skip` before and `under` behind them, as a number
pub field-bits : (b : Bits) (skip n under : ℕ) → length b ≡ skip + n + under → take n (drop skip b) ≡ bin n (val b / 2 ^ under % 2 ^ n)
field-bits b skip n under l =
    let f : Bits = take n (drop skip b) in
    let f-len : length f ≡ n = length-take-le n (drop skip b) (omega (arith, length-drop skip b)) in
    let all : take (skip + n + under) b ≡ b = take_all (skip + n + under) b (omega arith) in
    sym (bin-val f) ∙ ap₂ bin f-len (val-field b skip n under (omega arith) ∙ ap (λ (x : Bits). val x / 2 ^ under % 2 ^ n) all)

-- two fields in a row
pub two_fields : (b : Bits) (skip n m : ℕ) → take (n + m) (drop skip b) ≡ take n (drop skip b) ++ take m (drop (skip + n) b)
two_fields b skip n m = take-add n m (drop skip b) ∙ ap (λ (x : Bits). take n (drop skip b) ++ take m x) (drop-drop n skip b)

val-zeros : (n : ℕ) → val (replicate n false) ≡ 0
unfolding val
val-zeros zero = refl
val-zeros (suc n) = ap₂ (λ (x y : ℕ). x + y) (zero-mul (2 ^ length (replicate n false))) (val-zeros n)

-- a window moved on by `skip` bits, with zeros behind it
pub moved_val : (b : Bits) (skip rest : ℕ) → length b ≡ skip + rest → val (drop skip b ++ replicate skip false) ≡ val b % 2 ^ rest * 2 ^ skip
moved_val b skip rest l =
    let d : Bits = drop skip b in
    let d-len : length d ≡ rest = length-drop skip b ∙ (let e : length b - skip ≡ rest = omega arith in e) in
    let low-is : val b % 2 ^ rest ≡ val d =
    ap (λ (x : Bits). val x % 2 ^ rest) (sym (take-append-drop skip b)) ∙ ap (λ (x : ℕ). x % 2 ^ rest) (val-append (take skip b) d)
    ∙ ap (λ (x : ℕ). (val (take skip b) * 2 ^ length d + val d) % 2 ^ x) (sym d-len) ∙ low (val (take skip b)) (length d) (val-lt d) in
    val-append d (replicate skip false)
    ∙ ap₂ (λ (x y : ℕ). val d * 2 ^ x + y) (length-replicate skip false) (val-zeros skip)
    ∙ add-zero (val d * 2 ^ skip) ∙ ap (λ (x : ℕ). x * 2 ^ skip) (sym low-is)

-- the same as a number of 32 bits shifted
pub moved_shift : (b : Bits) (skip : ℕ) → length b ≡ 32 → skip ≤ 32 → val b * 2 ^ skip % 4294967296 ≡ val (drop skip b ++ replicate skip false)
moved_shift b skip l h =
    let rest : ℕ = 32 - skip in
    let n : ℕ = val b * 2 ^ skip in
    let all : rest + skip ≡ 32 = omega arith in
    ap (λ (x : ℕ). n % 2 ^ x) (sym all) ∙ mod-pow-add n rest skip
    ∙ ap₂ (λ (x y : ℕ). x % 2 ^ rest * 2 ^ skip + y) (mul-div_cancel (val b) (pow_pos skip)) (mul-mod_left (val b) (2 ^ skip))
    ∙ add-zero (val b % 2 ^ rest * 2 ^ skip) ∙ sym (moved_val b skip rest (l ∙ (let e : 32 ≡ skip + rest = omega arith in e)))
