-- `bits::gather` meets its contract: after k bytes it holds the number of the first k. Assumes nothing.
use Rattle.std.proofs.Common.{ap, arith, get_or, length, refl, sym, take, ℕ, List, ◌*◌, ◌+◌, ◌-◌, ◌<◌, ◌≤◌, ◌≡◌, ◌∙◌}
use native.Mathlib.Nat.{lt_of_lt_of_le}
use lib.ListN.{drop, length-drop, length-take}
use lib.Pow.{pow_mono}
use lib.Seq.{get_or-drop, get_or-take}
use Rattle.bits.proofs.BitLaws.{val-take}
use Rattle.bits.proofs.ByteLaws.{val_byte}
use Rattle.bits.specs.Bits.{val, bits_from}
use Rattle.bits.proofs.cursor.gather.Goals as goal

-- a byte of the part that is read is one of the data
record Inside (d : List ℕ) (first count k : ℕ) : Type 0 where
  pub turn : k < count
  pub place : first + k < length d
  pub byte : get_or (take (first + count - first) (drop first d)) k 0 ≡ get_or d (first + k) 0

inside : (d : List ℕ) (first count k : ℕ) → k < length (take (first + count - first) (drop first d)) → Inside d first count k
inside d first count k h =
    let n : ℕ = first + count - first in
    let l = length-take n (drop first d) in
    let m = length-drop first d in
    let t : k < n = omega arith in
    record { turn = omega arith; place = omega arith; byte = get_or-take n (drop first d) k 0 t ∙ get_or-drop first d k 0 }

-- what is read so far fits with one byte more
small : (d : List ℕ) (first k v : ℕ) → v ≡ val (take (8 * k) (bits_from d (8 * first))) → k < 8 → v < 72057594037927936
small d first k v e h =
    let l : 8 * k ≤ 56 = omega arith in
    rw e (lt_of_lt_of_le (val-take (8 * k) (bits_from d (8 * first))) (pow_mono l))

pub loop-b-init : goal.loop-b-init
unfolding val
loop-b-init c = refl

pub overflow_mul-v : goal.overflow_mul-v
overflow_mul-v c =
    let a = c.args in
    let i = inside a.«data».now a.first a.count c.loop-b.b-index c.loop-b-test.true in
    omega (arith, i.turn, small a.«data».now a.first c.loop-b.b-index c.loop-b.v c.loop-b.invariant (omega (arith, i.turn)))

pub overflow_add-v : goal.overflow_add-v
overflow_add-v c =
    let a = c.args in
    let i = inside a.«data».now a.first a.count c.loop-b.b-index c.loop-b-test.true in
    omega (arith, c.from.ensures, i.byte, c.type_inv.«data» (a.first + c.loop-b.b-index), small a.«data».now a.first c.loop-b.b-index c.loop-b.v c.loop-b.invariant (omega (arith, i.turn)))

pub loop-b-preserved : goal.loop-b-preserved
loop-b-preserved c =
    let a = c.args in
    let d = a.«data».now in
    let k = c.loop-b.b-index in
    let i = inside d a.first a.count k c.loop-b-test.true in
    ap (λ (x : ℕ). x * 256 + c.from.result) c.loop-b.invariant
    ∙ ap (λ (x : ℕ). val (take (8 * k) (bits_from d (8 * a.first))) * 256 + x) (c.from.ensures ∙ i.byte)
    ∙ sym (val_byte d a.first k (c.type_inv.«data» (a.first + k)).fits i.place)
