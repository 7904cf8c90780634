-- `inverse_quant::value::value1` meets its contract: an eighth of the product, limited, or `other1`. Assumes nothing.
use mathlib.Core.Bool.{Bool, false}
use mathlib.Core.Path.{◌≡◌, ap, sym, ◌∙◌}
use lib.Dec.{lit<}
use lib.IntN.{ℤ, pos, ◌*ℤ◌}
use lib.Signed.{quot_z}
use mir.Facts.{to_z-of_z}
use mir.Syntax.{w32}
use mir.Val.{of_z, to_z}
use borrow.Author.Rules.{rules}
use borrow.Author.Tests.{not-false, not-true}
use Rattle.numbers.proofs.Expressions.{Sx, any, lit, ◌⊘◌, back, fits}
use Rattle.numbers.proofs.Words.{fits_ok, held}
use Rattle.dequantise.specs.Methods.{limited_f, method1}
use Rattle.dequantise.proofs.MethodLaws.{method1_eighth}
use Rattle.inverse_quant.proofs.value.value1.Statement.{statement}
use Rattle.inverse_quant.proofs.value.value1.Tie as tie

-- the level, as the calls have it
level_back : (s : tie.Start) → to_z w32 (of_z w32 s.args.level) ≡ s.args.level
level_back s = to_z-of_z s.ranges.level

-- an eighth of the product
abbrev part : tie.After-product-f → Sx w32
part c = any c.product-f.result (fits_ok w32 c.product-f.result c.product-f.type_inv) ⊘ lit (pos 8)

other1-requires : tie.Need-other1-requires
other1-requires c κs = search rules

returns-then-not-ctx : tie.Need-returns-then-not-ctx
returns-then-not-ctx c =
    let e = c.before in
    let s = e.before.before in
    let a = s.args in
    rw (not-true _ e.if-not-ctx.true)
    (held c.other1.result c.other1.type_inv ∙ c.other1.ensures
    ∙ ap (λ (z : ℤ). limited_f a.ctx.bits_per_pixel (method1 false z a.weight a.ctx.quantiser_scale)) (level_back s))

product-f-requires : tie.Need-product-f-requires
product-f-requires c κs = search rules

nonzero_div-f : tie.Need-nonzero_div-f
nonzero_div-f c = (lit< tt, fits (part c) tt)

saturate_fprime-requires : tie.Need-saturate_fprime-requires
saturate_fprime-requires c κs = search rules

returns : tie.Need-returns
returns c =
    let m = c.before in
    let e = m.before in
    let s = e.before.before in
    let a = s.args in
    held c.saturate_fprime.result c.saturate_fprime.type_inv ∙ c.saturate_fprime.ensures
    ∙ ap (limited_f a.ctx.bits_per_pixel)
    (back (part m) tt
    ∙ ap (λ (z : ℤ). quot_z z (pos 8)) (m.product-f.ensures ∙ ap (λ (z : ℤ). z *ℤ pos a.weight *ℤ pos a.ctx.quantiser_scale) (level_back s))
    ∙ method1_eighth a.level a.weight a.ctx.quantiser_scale
    ∙ ap (λ (t : Bool). method1 t a.level a.weight a.ctx.quantiser_scale) (sym (not-false _ e.if-not-ctx.false)))

pub value1_spec : {M : Type 1} → statement M
value1_spec =
    tie.close
    (tie.spec other1-requires returns-then-not-ctx product-f-requires nonzero_div-f saturate_fprime-requires returns)
