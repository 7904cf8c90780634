-- `inverse_quant::value::other1` meets its contract: method 1's formula, whose product is at most 4127 * 255 * 31, limited. Assumes nothing.
use mathlib.Core.Path.{◌≡◌, ap, ◌∙◌}
use native.Mathlib.Omega.{arith}
use lib.Dec.{lit<}
use lib.IntN.{ℤ, pos, ◌+ℤ◌, ◌*ℤ◌}
use lib.Signed.{quot_z}
use mir.Syntax.{w32}
use borrow.Author.Rules.{rules}
use Rattle.numbers.proofs.Expressions.{Sx, lit, loc, ◌⊘◌, ◌⊞◌, ◌⊠◌, back, fits}
use Rattle.numbers.proofs.Integers.{nat, ring, var, ◌⊗◌}
use Rattle.numbers.proofs.Words.{held}
use Rattle.dequantise.specs.Methods.{limited_f, signum}
use Rattle.dequantise.proofs.MethodLaws.{method1_inter_lem}
use Rattle.inverse_quant.proofs.value.other1.Statement.{statement}
use Rattle.inverse_quant.proofs.value.other1.Tie as tie

module _ (c : tie.After-signed_as-sign) where
  abbrev s : tie.Start
  s = c.before

  abbrev level : Sx w32
  level = loc s.args.level 2048 s.requires.0

  sign-is : c.signed_as-sign.result ≡ signum s.args.level
  sign-is =
      let z = signum s.args.level in
      c.signed_as-sign.ensures.0 ∙ ap (λ (x : ℤ). signum x *ℤ pos 1) (back level tt) ∙ ring (var z ⊗ nat 1) (var z) (omega arith)

  abbrev x₁ : Sx w32
  x₁ = lit (pos 2) ⊠ level

  abbrev x₂ : Sx w32
  x₂ = x₁ ⊞ loc c.signed_as-sign.result 31 c.signed_as-sign.ensures.1

  abbrev x₃ : Sx w32
  x₃ = x₂ ⊠ loc (pos s.args.weight) 255 (omega arith)

  abbrev x₄ : Sx w32
  x₄ = x₃ ⊠ loc (pos s.args.ctx.quantiser_scale) 31 s.requires.1.quantiser

  abbrev x₅ : Sx w32
  x₅ = x₄ ⊘ lit (pos 16)

signed_as-sign-requires : tie.Need-signed_as-sign-requires
signed_as-sign-requires c κs = search rules

overflow_mul-f : tie.Need-overflow_mul-f
overflow_mul-f c = fits (x₁ c) tt

overflow_add-f : tie.Need-overflow_add-f
overflow_add-f c = fits (x₂ c) tt

overflow_cast-f : tie.Need-overflow_cast-f
overflow_cast-f c = search rules

overflow_mul-f-2 : tie.Need-overflow_mul-f-2
overflow_mul-f-2 c = fits (x₃ c) tt

overflow_cast-f-2 : tie.Need-overflow_cast-f-2
overflow_cast-f-2 c = search rules

overflow_mul-f-3 : tie.Need-overflow_mul-f-3
overflow_mul-f-3 c = fits (x₄ c.before) tt

nonzero_div-f : tie.Need-nonzero_div-f
nonzero_div-f c = (lit< tt, fits (x₅ c.before) tt)

saturate_fprime-requires : tie.Need-saturate_fprime-requires
saturate_fprime-requires c κs = search rules

returns : tie.Need-returns
returns c =
    let n = c.before.before in
    let a = (s n).args in
    let f =
    back (x₅ n) tt ∙ ap (λ (z : ℤ). quot_z ((pos 2 *ℤ a.level +ℤ z) *ℤ pos a.weight *ℤ pos a.ctx.quantiser_scale) (pos 16)) (sign-is n)
    ∙ method1_inter_lem a.level a.weight a.ctx.quantiser_scale in
    held c.saturate_fprime.result c.saturate_fprime.type_inv ∙ c.saturate_fprime.ensures ∙ ap (limited_f a.ctx.bits_per_pixel) f

pub other1_spec : {M : Type 1} → statement M
other1_spec =
    tie.close
    (tie.spec
    signed_as-sign-requires
    overflow_mul-f
    overflow_add-f
    overflow_cast-f
    overflow_mul-f-2
    overflow_cast-f-2
    overflow_mul-f-3
    nonzero_div-f
    saturate_fprime-requires
    returns)
