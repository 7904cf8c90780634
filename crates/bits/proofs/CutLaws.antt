-- The number of bits that stand in the middle of others. Assumes nothing.
use mathlib.Core.List.{List, ◌++◌}
use mathlib.Core.Path.{◌≡◌, refl, sym, ap, ◌∙◌}
use Prim.Native.Nat.{ℕ, ◌+◌, ◌*◌, ◌/◌, ◌%◌, ◌^◌, ◌≤◌}
use native.Mathlib.Omega.{arith}
use lib.ListN.{length, length-drop, take, drop}
use lib.Pow.{high, low}
use lib.Seq.{drop-drop, length-take-le, take-add}
use Rattle.bits.proofs.BitLaws.{length-bits_from, val-append, val-lt}
use Rattle.bits.specs.Bits.{Bits, val, bits_of, bits_from}

-- of three runs of bits the middle one
val_middle : (a m z : Bits) → val m ≡ val (a ++ m ++ z) / 2 ^ length z % 2 ^ length m
val_middle a m z =
    sym (ap (λ (v : ℕ). v / 2 ^ length z % 2 ^ length m) (val-append (a ++ m) z)
    ∙ ap (λ (v : ℕ). v % 2 ^ length m) (high (val (a ++ m)) (length z) (val-lt z))
    ∙ ap (λ (v : ℕ). v % 2 ^ length m) (val-append a m)
    ∙ low (val a) (length m) (val-lt m))

-- n bits, with `skip` before and `under` behind them
pub val-field : (b : Bits) (skip n under : ℕ) → skip + n + under ≤ length b
    → val (take n (drop skip b)) ≡ val (take (skip + n + under) b) / 2 ^ under % 2 ^ n
val-field b skip n under l =
    let m : Bits = take n (drop skip b) in
    let z : Bits = take under (drop (skip + n) b) in
    let parts : take (skip + n + under) b ≡ take skip b ++ m ++ z = take-add (skip + n) under b ∙ ap (λ (f : Bits). f ++ z) (take-add skip n b) in
    let m-len : length m ≡ n = length-take-le n (drop skip b) (omega (arith, length-drop skip b)) in
    let z-len : length z ≡ under = length-take-le under (drop (skip + n) b) (omega (arith, length-drop (skip + n) b)) in
    val_middle (take skip b) m z ∙ rw (parts, m-len, z-len) refl

-- n bits from a position on, out of the number of m bits from its byte on
pub val-cut : (d : List ℕ) (at n under m : ℕ) → at % 8 + n + under ≡ m → 8 * (at / 8) + m ≤ 8 * length d
    → val (take n (bits_from d at)) ≡ val (take m (bits_from d (8 * (at / 8)))) / 2 ^ under % 2 ^ n
val-cut d at n under m e l =
    let b : Bits = bits_from d (8 * (at / 8)) in
    let place : at ≡ 8 * (at / 8) + at % 8 = omega arith in
    let same : bits_from d at ≡ drop (at % 8) b = ap (bits_from d) place ∙ sym (drop-drop (at % 8) (8 * (at / 8)) (bits_of d)) in
    ap (λ (z : Bits). val (take n z)) same
    ∙ val-field b (at % 8) n under (omega (arith, length-bits_from d (8 * (at / 8))))
    ∙ ap (λ (k : ℕ). val (take k b) / 2 ^ under % 2 ^ n) e
