-- The number of bits that are gathered byte by byte. Assumes nothing.
use mathlib.Core.List.{List, [], ◌∷◌, ◌++◌}
use mathlib.Core.Path.{◌≡◌, refl, sym, ap, ◌∙◌}
use Prim.Native.Nat.{ℕ, zero, suc, ◌+◌, ◌*◌, ◌<◌}
use native.Mathlib.Omega.{arith}
use lib.ListN.{get_or, length, take, drop}
use lib.Seq.{drop-append-add, drop-cons, drop-drop, drop-nil, take-add, take_at}
use Rattle.bits.proofs.BitLaws.{length-bin, val-append, val-bin}
use Rattle.bits.specs.Bits.{Bits, val, bin, bits_of, bits_from}

-- from the first bit of a byte on
from_byte : (d : List ℕ) (i : ℕ) → bits_from d (8 * i) ≡ bits_of (drop i d)
unfolding bits_of
from_byte d zero = refl
from_byte [] (suc i) = drop-nil (8 * suc i)
from_byte (x ∷ d) (suc i) =
    let e : 8 * suc i ≡ 8 + 8 * i = omega arith in
    ap (λ (k : ℕ). drop k (bin 8 x ++ bits_of d)) (e ∙ ap (λ (k : ℕ). k + 8 * i) (sym (length-bin 8 x)))
    ∙ drop-append-add (bin 8 x) (bits_of d) (8 * i)
    ∙ from_byte d i

-- the eight bits of a byte
next_byte : (d : List ℕ) (first k : ℕ) → first + k < length d → take 8 (drop (8 * k) (bits_from d (8 * first))) ≡ bin 8 (get_or d (first + k) 0)
unfolding bits_of
next_byte d first k l =
    let i : ℕ = first + k in
    let at : 8 * first + 8 * k ≡ 8 * i = omega arith in
    ap (take 8) (drop-drop (8 * k) (8 * first) (bits_of d) ∙ ap (bits_from d) at ∙ from_byte d i ∙ ap bits_of (drop-cons d i 0 l))
    ∙ take_at (bin 8 (get_or d i 0)) (bits_of (drop (suc i) d)) 8 (length-bin 8 (get_or d i 0))

-- one more byte
pub val_byte : (d : List ℕ) (first k : ℕ) → get_or d (first + k) 0 < 256 → first + k < length d
    → val (take (8 * (k + 1)) (bits_from d (8 * first))) ≡ val (take (8 * k) (bits_from d (8 * first))) * 256 + get_or d (first + k) 0
val_byte d first k h l =
    let b : Bits = bits_from d (8 * first) in
    let x : ℕ = get_or d (first + k) 0 in
    let e : 8 * (k + 1) ≡ 8 * k + 8 = omega arith in
    ap (λ (m : ℕ). val (take m b)) e
    ∙ ap val (take-add (8 * k) 8 b ∙ ap (λ (z : Bits). take (8 * k) b ++ z) (next_byte d first k l))
    ∙ val-append (take (8 * k) b) (bin 8 x)
    ∙ rw (length-bin 8 x, val-bin 8 x h) refl
