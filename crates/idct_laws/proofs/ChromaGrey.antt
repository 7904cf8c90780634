-- A DC of 1020 alone gives 128 everywhere at depth 8, a half away from zero. Assumes nothing.
use mathlib.Core.Bool.{Bool, cond}
use mathlib.Core.Path.{◌≡◌, refl, ap, ◌∙◌}
use Prim.Native.Nat.{ℕ, ◌+◌}
use native.Mathlib.Omega.{arith}
use lib.Dec.{eqb}
use lib.IntN.{pos}
use borrow.Author.Tests.{ne_eqb}
use Rattle.numbers.proofs.Fill.{block-eq, cell-block}
use Rattle.numbers.specs.Grid.{block, build}
use Rattle.idct.specs.Limits.{saturated}
use Rattle.idct.specs.Clipped.{idct8x8}
use Rattle.rounding.specs.declared.HalfIntegerRounding.TheVariants.{AwayFromZero}
use Rattle.idct_laws.specs.Ties.{DcAlone, grey_chroma}
use Rattle.idct_laws.proofs.DcHalves.{dc-half}

alone : DcAlone grey_chroma
alone v u i j p = cell-block (λ (v u : ℕ). cond (eqb (v + u) 0) (pos 1020) (pos 0)) v u i j ∙ ap (λ (b : Bool). cond b (pos 1020) (pos 0)) (ne_eqb (v + u) 0 (λ e. omega arith))

pub chroma_grey : idct8x8 AwayFromZero 8 grey_chroma ≡ block (λ (y x : ℕ). pos 128)
unfolding build saturated
chroma_grey = block-eq _ _ (λ y x ly lx. ap (saturated 8) (dc-half 8 grey_chroma refl refl alone (pos 127) refl AwayFromZero y x ly lx))
