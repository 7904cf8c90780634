-- `bits::window::ahead` meets its contract: the bits stand inside eight bytes of the data, or inside five with zeros behind it. Assumes nothing.
use mathlib.Core.Path.{◌≡◌, refl, sym, ap, ◌∙◌}
use Prim.Native.Nat.{ℕ, ◌+◌, ◌-◌, ◌*◌, ◌/◌, ◌%◌, ◌^◌, ◌≤◌, ◌<◌}
use native.Mathlib.Nat.{lt_of_lt_of_le}
use native.Mathlib.Omega.{arith}
use lib.ListN.{length-append, length-replicate, replicate, take}
use lib.Pow.{pow_mono}
use borrow.Author.Rules.{rules}
use Rattle.bits.proofs.AheadLaws.{followed, followed_at, window_followed, window_full}
use Rattle.bits.proofs.BitLaws.{val-take}
use Rattle.bits.proofs.ByteLaws.{val_byte}
use Rattle.bits.proofs.CutLaws.{val-cut}
use Rattle.bits.proofs.window.ahead.Statement.{statement}
use Rattle.bits.specs.Bits.{val, bits_from}
use Rattle.bits.proofs.window.ahead.Tie as tie

abbrev invariant-loop-k : tie.invariant-loop-k
invariant-loop-k «data» at first skip v₀ k₀ v k = (k ≤ 5) × (v ≡ val (take (8 * k) (bits_from (followed (first + 5) «data») (8 * first))))

abbrev decreases-loop-k : tie.decreases-loop-k
decreases-loop-k «data» at first skip v₀ k₀ v k = 5 - k

overflow_cast-skip : tie.Need-overflow_cast-skip invariant-loop-k decreases-loop-k
overflow_cast-skip c = omega arith

overflow_add-first : tie.Need-overflow_add-first invariant-loop-k decreases-loop-k
overflow_add-first c = omega arith

gather-v-requires : tie.Need-gather-v-requires invariant-loop-k decreases-loop-k
gather-v-requires c κs = (omega arith, c.if-first-data.true)

overflow_sub-result : tie.Need-overflow_sub-result invariant-loop-k decreases-loop-k
overflow_sub-result c = omega arith

overflow_cast-result : tie.Need-overflow_cast-result invariant-loop-k decreases-loop-k
overflow_cast-result c = omega arith

overflow_shr-result : tie.Need-overflow_shr-result invariant-loop-k decreases-loop-k
overflow_shr-result c = omega arith

overflow_cast-result-then-first-data : tie.Need-overflow_cast-result-then-first-data invariant-loop-k decreases-loop-k
overflow_cast-result-then-first-data c = omega arith

returns-then-first-data : tie.Need-returns-then-first-data invariant-loop-k decreases-loop-k
returns-then-first-data c =
    let a = c.args in
    let d = a.«data».now in
    let under : ℕ = 32 - a.at % 8 in
    ap (λ (v : ℕ). v / 2 ^ under % 4294967296) c.gather-v.ensures
    ∙ sym (val-cut d a.at 32 under 64 (omega arith) (omega (arith, c.if-first-data.true)))
    ∙ ap val (window_full d a.at (omega (arith, c.if-first-data.true)))

loop-k-init : tie.Need-loop-k-init invariant-loop-k decreases-loop-k
unfolding val
loop-k-init c = (omega arith, refl)

-- what is read so far fits with one byte more
small : (c : tie.In-loop-k invariant-loop-k decreases-loop-k) → c.loop-k.v < 4294967296
small c =
    let l = c.loop-k in
    let a = c.args in
    let k : 8 * l.k ≤ 32 = omega arith in
    rw l.invariant.1 (lt_of_lt_of_le (val-take (8 * l.k) (bits_from (followed (a.at / 8 + 5) a.«data».now) (8 * (a.at / 8)))) (pow_mono k))

overflow_mul-v : tie.Need-overflow_mul-v invariant-loop-k decreases-loop-k
overflow_mul-v c = omega (arith, small c)

overflow_add-first-in-loop-k : tie.Need-overflow_add-first-in-loop-k invariant-loop-k decreases-loop-k
overflow_add-first-in-loop-k c = omega arith

byte_at-requires : tie.Need-byte_at-requires invariant-loop-k decreases-loop-k
byte_at-requires c κs = search rules

overflow_add-v : tie.Need-overflow_add-v invariant-loop-k decreases-loop-k
overflow_add-v c = omega (arith, small c.before, c.byte_at.ensures.1)

overflow_step-k : tie.Need-overflow_step-k invariant-loop-k decreases-loop-k
overflow_step-k c = omega arith

loop-k-smaller : tie.Need-loop-k-smaller invariant-loop-k decreases-loop-k
loop-k-smaller c = omega arith

loop-k-preserved : tie.Need-loop-k-preserved invariant-loop-k decreases-loop-k
loop-k-preserved c =
    let l = c.loop-k in
    let a = c.args in
    let d = a.«data».now in
    let first : ℕ = a.at / 8 in
    let n : ℕ = first + 5 in
    let e = c.byte_at.ensures in
    let len = length-append d (replicate n 0) in
    let len' = length-replicate {A = ℕ} n 0 in
    let same = followed_at n d (first + l.k) in (
      omega arith,
      ap (λ (x : ℕ). x * 256 + c.byte_at.result) l.invariant.1
          ∙ ap (λ (x : ℕ). val (take (8 * l.k) (bits_from (followed n d) (8 * first))) * 256 + x) (e.0 ∙ sym same)
          ∙ sym (val_byte (followed n d) first l.k (omega arith) (omega arith)),
    )

overflow_sub-result-2 : tie.Need-overflow_sub-result-2 invariant-loop-k decreases-loop-k
overflow_sub-result-2 c = omega arith

overflow_cast-result-2 : tie.Need-overflow_cast-result-2 invariant-loop-k decreases-loop-k
overflow_cast-result-2 c = omega arith

overflow_shr-result-2 : tie.Need-overflow_shr-result-2 invariant-loop-k decreases-loop-k
overflow_shr-result-2 c = omega arith

overflow_cast-result-3 : tie.Need-overflow_cast-result-3 invariant-loop-k decreases-loop-k
overflow_cast-result-3 c = omega arith

returns : tie.Need-returns invariant-loop-k decreases-loop-k
returns c =
    let l = c.loop-k in
    let a = c.args in
    let d = a.«data».now in
    let first : ℕ = a.at / 8 in
    let n : ℕ = first + 5 in
    let len = length-append d (replicate n 0) in
    let len' = length-replicate {A = ℕ} n 0 in
    let e : l.k ≡ 5 = omega arith in
    let under : ℕ = 8 - a.at % 8 in
    ap (λ (v : ℕ). v / 2 ^ under % 4294967296) (l.invariant.1 ∙ ap (λ (k : ℕ). val (take (8 * k) (bits_from (followed n d) (8 * first)))) e)
    ∙ sym (val-cut (followed n d) a.at 32 under 40 (omega arith) (omega arith))
    ∙ ap val (window_followed d a.at n (omega arith))

pub ahead_spec : {M : Type 1} → statement M
ahead_spec =
    tie.close
    (tie.spec
    invariant-loop-k
    decreases-loop-k
    overflow_cast-skip
    overflow_add-first
    gather-v-requires
    overflow_sub-result
    overflow_cast-result
    overflow_shr-result
    overflow_cast-result-then-first-data
    returns-then-first-data
    loop-k-init
    overflow_mul-v
    overflow_add-first-in-loop-k
    byte_at-requires
    overflow_add-v
    overflow_step-k
    loop-k-smaller
    loop-k-preserved
    overflow_sub-result-2
    overflow_cast-result-2
    overflow_shr-result-2
    overflow_cast-result-3
    returns)
