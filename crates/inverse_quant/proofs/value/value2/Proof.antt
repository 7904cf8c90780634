-- `inverse_quant::value::value2` meets its contract: the product and the signed odd number are method 2's value, limited. Assumes nothing.
use mathlib.Core.Path.{◌≡◌, ap, ◌∙◌}
use Prim.Native.Nat.{◌+◌, ◌-◌, ◌%◌, ◌≤◌}
use native.Mathlib.Omega.{arith}
use lib.IntN.{ℤ, nat_abs, pos, ◌+ℤ◌, ◌*ℤ◌}
use mir.Facts.{to_z-of_z}
use mir.Syntax.{w32}
use mir.Val.{of_z, to_z}
use borrow.Author.Rules.{rules}
use Rattle.numbers.proofs.Expressions.{Sx, loc, ◌⊞◌, back, fits}
use Rattle.numbers.proofs.Words.{held}
use Rattle.dequantise.specs.Methods.{limited_f, signum}
use Rattle.dequantise.proofs.MethodLaws.{method2-odd}
use Rattle.inverse_quant.proofs.Products.{product_small}
use Rattle.inverse_quant.proofs.value.value2.Statement.{statement}
use Rattle.inverse_quant.proofs.value.value2.Tie as tie

-- the level, as the calls have it
level_back : (s : tie.Start) → to_z w32 (of_z w32 s.args.level) ≡ s.args.level
level_back s = to_z-of_z s.ranges.level

-- the greatest odd number up to the quantiser
abbrev odd : tie.Start → Sx w32
odd s =
    let q = s.args.ctx.quantiser_scale in
    loc (pos (q - 1 + q % 2)) 31 (omega arith)

product_is : (c : tie.After-product) → let a = c.args in c.product.result ≡ a.level *ℤ pos 2 *ℤ pos a.ctx.quantiser_scale
product_is c = let a = c.args in c.product.ensures ∙ ap (λ (z : ℤ). z *ℤ pos 2 *ℤ pos a.ctx.quantiser_scale) (level_back c.before)

product_abs : (c : tie.After-product) → nat_abs c.product.result ≤ 16189440
product_abs c =
    let s = c.before in
    rw (product_is c) (product_small s.args.level 2 s.args.ctx.quantiser_scale s.requires.0 (omega arith) s.requires.1.quantiser)

signed_is : (c : tie.After-signed_as) → let a = c.args in let q = a.ctx.quantiser_scale in c.signed_as.result ≡ signum a.level *ℤ pos (q - 1 + q % 2)
signed_is c = let s = c.before.before in c.signed_as.ensures.0 ∙ (λ i. signum (level_back s i) *ℤ back (odd s) tt i)

abbrev sum : tie.After-signed_as → Sx w32
sum c = loc c.product.result 16189440 (product_abs c.before) ⊞ loc c.signed_as.result 31 c.signed_as.ensures.1

overflow_sub-odd : tie.Need-overflow_sub-odd
overflow_sub-odd c = search rules

overflow_add-odd : tie.Need-overflow_add-odd
overflow_add-odd c = search rules

overflow_cast-odd : tie.Need-overflow_cast-odd
overflow_cast-odd c = search rules

product-requires : tie.Need-product-requires
product-requires c κs = search rules

signed_as-requires : tie.Need-signed_as-requires
signed_as-requires c κs = let s = c.before in rw (back (odd s) tt) (omega arith)

overflow_add-f : tie.Need-overflow_add-f
overflow_add-f c = fits (sum c) tt

saturate_fprime-requires : tie.Need-saturate_fprime-requires
saturate_fprime-requires c κs = search rules

returns : tie.Need-returns
returns c =
    let n = c.before in
    let p = n.before in
    let s = p.before in
    let a = s.args in
    held c.saturate_fprime.result c.saturate_fprime.type_inv ∙ c.saturate_fprime.ensures
    ∙ ap (limited_f a.ctx.bits_per_pixel)
    (back (sum n) tt ∙ (λ i. product_is p i +ℤ signed_is n i) ∙ method2-odd a.level a.ctx.quantiser_scale s.requires.1.positive)

pub value2_spec : {M : Type 1} → statement M
value2_spec =
    tie.close
    (tie.spec
    overflow_sub-odd
    overflow_add-odd
    overflow_cast-odd
    product-requires
    signed_as-requires
    overflow_add-f
    saturate_fprime-requires
    returns)
