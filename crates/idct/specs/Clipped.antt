-- The samples of a block: its whole numbers saturated to a depth (7.4.5), or limited to 0 .. 2 ^ depth - 1; and blocks of one value or two. Definitions only.
use Rattle.std.specs.Prelude.{cond, ◌&&◌, List, ℕ, eqb, ℤ, pos}
use Rattle.numbers.specs.Grid.{block}
use Rattle.numbers.specs.Limit.{clamp_z}
use Rattle.ranges.specs.Range.{highest}
use Rattle.rounding.specs.declared.HalfIntegerRounding.{HalfIntegerRounding}
use Rattle.exact_transform.specs.Transform.{whole}
use Rattle.idct.specs.Limits.{saturated}

-- the whole numbers of a block, saturated to a depth
abbrev pub idct8x8 : HalfIntegerRounding → ℕ → List (List ℤ) → List (List ℤ)
idct8x8 m depth l = block (λ (y x : ℕ). saturated depth (whole m l y x))

-- the same, limited to the samples of a depth
abbrev pub clipped : HalfIntegerRounding → ℕ → List (List ℤ) → List (List ℤ)
clipped m depth l = block (λ (y x : ℕ). clamp_z (whole m l y x) (pos 0) (highest depth))

-- a DC alone
unfoldable pub dc_block : ℤ → List (List ℤ)
dc_block dc = block (λ (v u : ℕ). cond (eqb v 0 && eqb u 0) dc (pos 0))

-- a DC and 1 at (7, 7), which mismatch control puts beside an even DC (7.4.4.5)
unfoldable pub dc_and_last : ℤ → List (List ℤ)
dc_and_last dc = block (λ (v u : ℕ). cond (eqb v 0 && eqb u 0) dc (cond (eqb v 7 && eqb u 7) (pos 1) (pos 0)))
