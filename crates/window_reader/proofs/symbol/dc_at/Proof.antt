-- `window_reader::symbol::dc_at` meets its contract: the fields of the window are the code of a size and its bits. Assumes nothing.
use mathlib.Core.Path.{◌≡◌, refl, ap, ap₂, ◌∙◌}
use Prim.Native.Nat.{ℕ, ◌-◌, ◌*◌, ◌/◌, ◌%◌, ◌^◌}
use native.Mathlib.Nat.{mod-lt}
use native.Mathlib.Omega.{arith}
use lib.Pow.{pow_pos}
use mir.Syntax.{w32}
use borrow.Author.Rules.{rules}
use Rattle.bits.specs.Ahead.{ahead_of}
use Rattle.codes.specs.FirstBits.{size_plain}
use Rattle.numbers.proofs.Words.{one_shl}
use Rattle.dc_parts.specs.Dc.{differential_of}
use Rattle.window_reader.proofs.DcLaws.{SizeBounds, dc-told, size_bounds}
use Rattle.window_reader.proofs.symbol.dc_at.Statement.{statement}
use Rattle.window_reader.proofs.symbol.dc_at.Tie as tie

-- what was looked up
packed-is : (k : tie.Else-e-eq0) → let s = k.before.before.before.before in k.dc_plain-e.result ≡ size_plain s.args.component (ahead_of s.args.«data».now s.args.at)
packed-is k = k.dc_plain-e.ensures ∙ ap (size_plain k.args.component) k.ahead-w.ensures

bounds : (k : tie.Else-e-eq0) → SizeBounds k.dc_plain-e.result
bounds k =
    let s = k.before.before.before.before in
    size_bounds s.args.«data».now s.args.at s.args.component k.dc_plain-e.result (packed-is k) k.if-e-eq0.false

power : (k : tie.Else-e-eq0) → (1 * 2 ^ (k.dc_plain-e.result / 16)) % 4294967296 ≡ 2 ^ (k.dc_plain-e.result / 16)
power k = one_shl w32 (k.dc_plain-e.result / 16) (omega (arith, (bounds k).size-le))

ahead-w-requires : tie.Need-ahead-w-requires
ahead-w-requires c κs = search rules

dc_plain-e-requires : tie.Need-dc_plain-e-requires
dc_plain-e-requires c κs = search rules

returns-then-e-eq0 : tie.Need-returns-then-e-eq0
returns-then-e-eq0 c = λ z. absurd (z refl)

overflow_sub-additional : tie.Need-overflow_sub-additional
overflow_sub-additional c = search rules

overflow_sub-additional-2 : tie.Need-overflow_sub-additional-2
overflow_sub-additional-2 c = let b = bounds c in omega (arith, b.len_le, b.size-le)

overflow_shr-additional : tie.Need-overflow_shr-additional
overflow_shr-additional c = search rules

overflow_shl-additional : tie.Need-overflow_shl-additional
overflow_shl-additional c = omega (arith, (bounds c).size-le)

nonzero_rem-additional : tie.Need-nonzero_rem-additional
nonzero_rem-additional c = rw (power c) (pow_pos (c.dc_plain-e.result / 16))

difference_of-difference-requires : tie.Need-difference_of-difference-requires
difference_of-difference-requires c κs = ((bounds c).size-le, rw (power c) (mod-lt _ (pow_pos (c.dc_plain-e.result / 16))))

overflow_add-len : tie.Need-overflow_add-len
overflow_add-len c = search rules

overflow_cast-len : tie.Need-overflow_cast-len
overflow_cast-len c = search rules

overflow_add-at : tie.Need-overflow_add-at
overflow_add-at c = search rules

within-requires : tie.Need-within-requires
within-requires c κs = search rules

returns : tie.Need-returns
returns c =
    let k = c.before.before in
    let s = k.before.before.before.before in
    let e : ℕ = k.dc_plain-e.result in
    let under : ℕ = 32 - e % 16 - e / 16 in
    let w = k.ahead-w in
    let additional : (w.result / 2 ^ under) % ((1 * 2 ^ (e / 16)) % 4294967296) ≡ ahead_of s.args.«data».now s.args.at / 2 ^ under % 2 ^ (e / 16) =
    ap₂ (λ (x y : ℕ). x / 2 ^ under % y) w.ensures (power k) in
    dc-told s.args.«data».now s.args.at s.args.component e (packed-is k) k.if-e-eq0.false _ c.within.ensures c.difference_of-difference.result
    (c.difference_of-difference.ensures ∙ ap (differential_of (e / 16)) additional) refl

pub dc_at_spec : {M : Type 1} → statement M
dc_at_spec =
    tie.close
    (tie.spec
    ahead-w-requires
    dc_plain-e-requires
    returns-then-e-eq0
    overflow_sub-additional
    overflow_sub-additional-2
    overflow_shr-additional
    overflow_shl-additional
    nonzero_rem-additional
    difference_of-difference-requires
    overflow_add-len
    overflow_cast-len
    overflow_add-at
    within-requires
    returns)
