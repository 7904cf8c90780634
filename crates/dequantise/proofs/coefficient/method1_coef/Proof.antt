-- `dequantise::coefficient::method1_coef` meets its contract: the products are at most 2048 * 255 * 511 * 2 and 4097 * 255 * 511. Assumes nothing.
use mathlib.Core.Path.{◌≡◌, ap, ◌∙◌}
use Prim.Native.Nat.{◌≤◌}
use native.Mathlib.Omega.{arith}
use lib.Dec.{lit<}
use lib.IntN.{ℤ, nat_abs, pos, ◌+ℤ◌, ◌*ℤ◌}
use lib.Signed.{quot_z}
use mir.Syntax.{w32}
use borrow.Author.Rules.{rules}
use Rattle.numbers.proofs.Expressions.{Sx, loc, lit, ◌⊞◌, ◌⊠◌, ◌⊘◌, back, fits}
use Rattle.dequantise.specs.Methods.{signum}
use Rattle.std.specs.Int.{int_signum}
use Rattle.dequantise.proofs.MethodLaws.{method1_inter_lem, method1_intra_lem, sign-abs, signum_is}
use Rattle.dequantise.proofs.coefficient.method1_coef.Statement.{statement}
use Rattle.dequantise.proofs.coefficient.method1_coef.Tie as tie

module _ (s : tie.Start) where
  abbrev qf : Sx w32
  qf = loc s.args.qf 2048 s.requires.0

  abbrev weight : Sx w32
  weight = loc (pos s.args.w) 255 (omega arith)

  abbrev scale : Sx w32
  scale = loc (pos s.args.quantiser_scale) 511 s.requires.1

  -- intra
  abbrev x₁ : Sx w32
  x₁ = qf ⊠ weight

  abbrev x₂ : Sx w32
  x₂ = x₁ ⊠ scale

  abbrev x₃ : Sx w32
  x₃ = x₂ ⊠ lit (pos 2)

  abbrev x₄ : Sx w32
  x₄ = x₃ ⊘ lit (pos 16)

-- and not intra
module _ (c : tie.After-signum-sign) where
  abbrev s : tie.Start
  s = c.before.before

  sign-is : c.signum-sign.result ≡ signum s.args.qf
  sign-is = c.signum-sign.ensures.0 ∙ ap int_signum (back (qf s) tt) ∙ signum_is s.args.qf

  sign_small : nat_abs c.signum-sign.result ≤ 1
  sign_small = rw sign-is (sign-abs s.args.qf)

  abbrev y₁ : Sx w32
  y₁ = lit (pos 2) ⊠ qf s

  abbrev y₂ : Sx w32
  y₂ = y₁ ⊞ loc c.signum-sign.result 1 sign_small

  abbrev y₃ : Sx w32
  y₃ = y₂ ⊠ weight s

  abbrev y₄ : Sx w32
  y₄ = y₃ ⊠ scale s

  abbrev y₅ : Sx w32
  y₅ = y₄ ⊘ lit (pos 16)

overflow_cast-result : tie.Need-overflow_cast-result
overflow_cast-result c = search rules

overflow_mul-result : tie.Need-overflow_mul-result
overflow_mul-result c = fits (x₁ c.before) tt

overflow_cast-result-then-macroblock_intra : tie.Need-overflow_cast-result-then-macroblock_intra
overflow_cast-result-then-macroblock_intra c = search rules

overflow_mul-result-then-macroblock_intra : tie.Need-overflow_mul-result-then-macroblock_intra
overflow_mul-result-then-macroblock_intra c = fits (x₂ c.before) tt

overflow_mul-result-then-macroblock_intra-2 : tie.Need-overflow_mul-result-then-macroblock_intra-2
overflow_mul-result-then-macroblock_intra-2 c = fits (x₃ c.before) tt

nonzero_div-result : tie.Need-nonzero_div-result
nonzero_div-result c = (lit< tt, fits (x₄ c.before) tt)

returns-then-macroblock_intra : tie.Need-returns-then-macroblock_intra
returns-then-macroblock_intra c =
    let s = c.before in
    rw c.if-macroblock_intra.true (back (x₄ s) tt ∙ method1_intra_lem s.args.qf s.args.w s.args.quantiser_scale)

signum-sign-requires : tie.Need-signum-sign-requires
signum-sign-requires c κs = search rules

overflow_mul-result-2 : tie.Need-overflow_mul-result-2
overflow_mul-result-2 c = fits (y₁ c) tt

overflow_add-result : tie.Need-overflow_add-result
overflow_add-result c = fits (y₂ c) tt

overflow_cast-result-2 : tie.Need-overflow_cast-result-2
overflow_cast-result-2 c = search rules

overflow_mul-result-3 : tie.Need-overflow_mul-result-3
overflow_mul-result-3 c = fits (y₃ c) tt

overflow_cast-result-3 : tie.Need-overflow_cast-result-3
overflow_cast-result-3 c = search rules

overflow_mul-result-4 : tie.Need-overflow_mul-result-4
overflow_mul-result-4 c = fits (y₄ c) tt

nonzero_div-result-2 : tie.Need-nonzero_div-result-2
nonzero_div-result-2 c = (lit< tt, fits (y₅ c) tt)

returns : tie.Need-returns
returns c =
    let a = (s c).args in
    rw c.if-macroblock_intra.false
    (back (y₅ c) tt ∙ ap (λ (z : ℤ). quot_z ((pos 2 *ℤ a.qf +ℤ z) *ℤ pos a.w *ℤ pos a.quantiser_scale) (pos 16)) (sign-is c)
    ∙ method1_inter_lem a.qf a.w a.quantiser_scale)

pub method1_coef_spec : {M : Type 1} → statement M
method1_coef_spec =
    tie.close
    (tie.spec
    overflow_cast-result
    overflow_mul-result
    overflow_cast-result-then-macroblock_intra
    overflow_mul-result-then-macroblock_intra
    overflow_mul-result-then-macroblock_intra-2
    nonzero_div-result
    returns-then-macroblock_intra
    signum-sign-requires
    overflow_mul-result-2
    overflow_add-result
    overflow_cast-result-2
    overflow_mul-result-3
    overflow_cast-result-3
    overflow_mul-result-4
    nonzero_div-result-2
    returns)
