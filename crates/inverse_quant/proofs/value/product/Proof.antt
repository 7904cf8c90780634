-- `inverse_quant::value::product` meets its contract: each product is below 2 ^ 24, so it is exact. Assumes nothing.
use mathlib.Core.Path.{◌≡◌, ap, ◌∙◌}
use Prim.Native.Nat.{◌≤◌}
use native.Mathlib.Nat.{le_trans}
use native.Mathlib.Omega.{arith}
use lib.Dec.{lit≤}
use lib.Ieee.{to_signed}
use lib.IntN.{ℤ, pos, ◌*ℤ◌}
use mir.Facts.{to_z-of_z}
use mir.Syntax.{w32}
use mir.Val.{of_z, to_z}
use borrow.Author.Rules.{rules}
use Rattle.numbers.proofs.Words.{fits_mag}
use Rattle.inverse_quant.proofs.Products.{in_float_lem, product_cast, product_casts, product_small, product_f}
use Rattle.inverse_quant.proofs.value.product.Statement.{statement}
use Rattle.inverse_quant.proofs.value.product.Tie as tie

-- the level, as the casts have it, and the weight
level_back : (s : tie.Start) → to_z w32 (of_z w32 s.args.level) ≡ s.args.level
level_back s = to_z-of_z s.ranges.level

weight_small : (s : tie.Start) → s.args.weight ≤ 255
weight_small s = omega arith

int_to_float-p : tie.Need-int_to_float-p
int_to_float-p c = let s = c.before in rw (level_back s) (in_float_lem s.args.level (le_trans s.requires.0 (lit≤ tt)))

int_to_float-p-2 : tie.Need-int_to_float-p-2
int_to_float-p-2 c = search rules

int_to_float-p-3 : tie.Need-int_to_float-p-3
int_to_float-p-3 c = let s = c.before.before.before in in_float_lem (pos s.args.quantiser_scale) (le_trans s.requires.1 (lit≤ tt))

float_to_int-result : tie.Need-float_to_int-result
float_to_int-result c =
    let s = c.before.before.before.before in
    rw (level_back s) (product_casts s.args.level s.args.weight s.args.quantiser_scale s.requires.0 (weight_small s) s.requires.1)

returns : tie.Need-returns
returns c =
    let s = c.before.before.before.before in
    let z = s.args.level in
    let w = s.args.weight in
    let q = s.args.quantiser_scale in
    ap (λ (x : ℤ). to_z w32 (of_z w32 (to_signed 31 (product_f x w q)))) (level_back s)
    ∙ ap (λ (x : ℤ). to_z w32 (of_z w32 x)) (product_cast z w q s.requires.0 (weight_small s) s.requires.1)
    ∙ to_z-of_z {w = w32} {z = z *ℤ pos w *ℤ pos q} (fits_mag 16189440 tt (z *ℤ pos w *ℤ pos q) (product_small z w q s.requires.0 (weight_small s) s.requires.1))

pub product_spec : {M : Type 1} → statement M
product_spec = tie.close (tie.spec int_to_float-p int_to_float-p-2 int_to_float-p-3 float_to_int-result returns)
