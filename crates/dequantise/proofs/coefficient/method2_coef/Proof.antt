-- `dequantise::coefficient::method2_coef` meets its contract: the product is at most 4097 * 511, and the formula is the definition's. Assumes nothing.
use mathlib.Core.Path.{◌≡◌, ap, ◌∙◌}
use Prim.Native.Nat.{◌%◌, ◌≤◌}
use native.Mathlib.Omega.{arith}
use lib.IntN.{ℤ, nat_abs, pos, ◌+ℤ◌, ◌-ℤ◌, ◌*ℤ◌}
use mir.Syntax.{w32}
use borrow.Author.Rules.{rules}
use Rattle.numbers.proofs.Expressions.{Sx, loc, lit, ◌⊞◌, ◌⊟◌, ◌⊠◌, back, fits}
use Rattle.dequantise.specs.Methods.{signum}
use Rattle.std.specs.Int.{int_signum}
use Rattle.dequantise.proofs.MethodLaws.{method2-is, sign-abs, signum_is}
use Rattle.dequantise.proofs.coefficient.method2_coef.Statement.{statement}
use Rattle.dequantise.proofs.coefficient.method2_coef.Tie as tie

module _ (c : tie.After-signum-sign) where
  abbrev s : tie.Start
  s = c.before

  abbrev qf : Sx w32
  qf = loc s.args.qf 2048 s.requires.0

  abbrev scale : Sx w32
  scale = loc (pos s.args.quantiser_scale) 511 s.requires.2

  sign-is : c.signum-sign.result ≡ signum s.args.qf
  sign-is = c.signum-sign.ensures.0 ∙ ap int_signum (back qf tt) ∙ signum_is s.args.qf

  sign_small : nat_abs c.signum-sign.result ≤ 1
  sign_small = rw sign-is (sign-abs s.args.qf)

  abbrev sign : Sx w32
  sign = loc c.signum-sign.result 1 sign_small

  abbrev even : Sx w32
  even = lit (pos 1) ⊟ loc (pos (s.args.quantiser_scale % 2)) 1 (omega arith)

  abbrev x₁ : Sx w32
  x₁ = lit (pos 2) ⊠ qf

  abbrev x₂ : Sx w32
  x₂ = x₁ ⊞ sign

  abbrev x₃ : Sx w32
  x₃ = x₂ ⊠ scale

  abbrev less : Sx w32
  less = sign ⊠ even

  abbrev x₄ : Sx w32
  x₄ = x₃ ⊟ less

signum-sign-requires : tie.Need-signum-sign-requires
signum-sign-requires c κs = search rules

overflow_cast-even : tie.Need-overflow_cast-even
overflow_cast-even c = search rules

overflow_sub-even : tie.Need-overflow_sub-even
overflow_sub-even c = fits (even c) tt

overflow_mul-result : tie.Need-overflow_mul-result
overflow_mul-result c = fits (x₁ c) tt

overflow_add-result : tie.Need-overflow_add-result
overflow_add-result c = fits (x₂ c) tt

overflow_cast-result : tie.Need-overflow_cast-result
overflow_cast-result c = search rules

overflow_mul-result-2 : tie.Need-overflow_mul-result-2
overflow_mul-result-2 c = fits (x₃ c) tt

overflow_mul-result-3 : tie.Need-overflow_mul-result-3
overflow_mul-result-3 c = fits (less c) tt

overflow_sub-result : tie.Need-overflow_sub-result
overflow_sub-result c = fits (x₄ c) tt

returns : tie.Need-returns
returns c =
    let z = (s c).args.qf in
    let q = (s c).args.quantiser_scale in
    back (x₄ c) tt
    ∙ ap (λ (t : ℤ). (pos 2 *ℤ z +ℤ t) *ℤ pos q -ℤ t *ℤ (pos 1 -ℤ pos (q % 2))) (sign-is c)
    ∙ method2-is z q (s c).requires.1

pub method2_coef_spec : {M : Type 1} → statement M
method2_coef_spec =
    tie.close (tie.spec signum-sign-requires overflow_cast-even overflow_sub-even overflow_mul-result overflow_add-result overflow_cast-result overflow_mul-result-2 overflow_mul-result-3 overflow_sub-result returns)
