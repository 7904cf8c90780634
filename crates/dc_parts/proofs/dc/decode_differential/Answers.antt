-- `dc_parts::dc::decode_differential` meets its contract below the half of the range. `1 << (size - 1)` is `2 ^ (size - 1)`, which is at most 4096. Assumes nothing.
use mathlib.Core.Path.{◌≡◌, ◌∙◌}
use Prim.Native.Nat.{◌<◌, ◌^◌, ◌%◌, ◌*◌, ◌-◌, ◌≤◌, ℕ}
use native.Mathlib.Omega.{arith}
use lib.IntN.{pos, ◌+ℤ◌, ◌-ℤ◌, ◌*ℤ◌}
use lib.Pow.{pow_mono}
use mir.Syntax.{w32}
use borrow.Author.Tests.{lt-leb, ne_eqb}
use Rattle.dc_parts.specs.Dc.{differential_of}
use Rattle.numbers.proofs.Expressions.{Sx, loc, lit, ◌⊞◌, ◌⊟◌, ◌⊠◌, back}
use Rattle.numbers.proofs.Words.{one_shl}
use Rattle.dc_parts.proofs.dc.decode_differential.Goals as goal

module _ (size additional : ℕ) (l : size ≤ 12) where
  -- the shift, as the code has it and as the definition does
  abbrev h : ℕ
  h = (1 * 2 ^ (size - 1)) % 4294967296

  shifted : h ≡ 2 ^ (size - 1)
  shifted = one_shl w32 (size - 1) (omega arith)

  h_bound : h ≤ 4096
  h_bound = omega (arith, shifted, pow_mono {i = size - 1} {j = 12} (omega arith))

  abbrev twice : Sx w32
  twice = lit (pos 2) ⊠ loc (pos h) 4096 h_bound

  -- below the half, with the shift as the code has it
  low : (size ≡ 0 → ⊥) → additional < h → pos additional +ℤ pos 1 -ℤ pos 2 *ℤ pos h ≡ differential_of size additional
  low n k = simp (ne_eqb _ _ n, shifted, lt-leb _ _ (rw shifted at k))

  module _ (k : additional < 2 ^ size) where
    a_bound : additional ≤ 4096
    a_bound = omega (arith, pow_mono l, k)

    abbrev a : Sx w32
    a = loc (pos additional) 4096 a_bound

pub returns-else-half_range-additional : goal.returns-else-half_range-additional
returns-else-half_range-additional c =
    let s = c.args.size in
    let n = c.args.additional in
    let l = c.requires.0 in
    back (a s n l c.requires.1 ⊞ lit (pos 1) ⊟ twice s n l) tt ∙ low s n l c.if-size-eq0.false c.if-half_range-additional.false
