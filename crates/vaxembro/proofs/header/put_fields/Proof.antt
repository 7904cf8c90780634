-- `vaxembro::header::put_fields` meets its contract: six stores. Assumes nothing.
use mathlib.Core.List.{[], ◌∷◌}
use mathlib.Core.Path.{◌≡◌, ◌∙◌}
use native.Mathlib.Omega.{arith}
use borrow.Author.Rules.{rules}
use lib.IntN.{pos}
use lib.ListN.{length-set, set}
use lib.Seq.{sets-eq}
use mir.Facts.{to_z_pos}
use mir.Syntax.{w32}
use mir.Val.{of_z, to_z}
use Rattle.numbers.proofs.Words.{held}
use Rattle.vaxembro.specs.Fields.{bit_of, fields_after, scale_of, type_number}
use Rattle.vaxembro.proofs.header.put_fields.Statement.{statement}
use Rattle.vaxembro.proofs.header.put_fields.Tie as tie

type_number-mb_type-requires : tie.Need-type_number-mb_type-requires
type_number-mb_type-requires c κs = search rules

overflow_cast-cbpc : tie.Need-overflow_cast-cbpc
overflow_cast-cbpc c = search rules

bit_of-ac_pred_flag-requires : tie.Need-bit_of-ac_pred_flag-requires
bit_of-ac_pred_flag-requires c κs = search rules

overflow_cast-cbpy : tie.Need-overflow_cast-cbpy
overflow_cast-cbpy c = search rules

scale_of-quantiser_scale-requires : tie.Need-scale_of-quantiser_scale-requires
scale_of-quantiser_scale-requires c κs = search rules

bounds-header-0 : tie.Need-bounds-header-0
bounds-header-0 c = search rules

bounds-header-1 : tie.Need-bounds-header-1
bounds-header-1 c = simp length-set (omega arith)

bounds-header-2 : tie.Need-bounds-header-2
bounds-header-2 c = simp length-set (omega arith)

bounds-header-3 : tie.Need-bounds-header-3
bounds-header-3 c = simp length-set (omega arith)

bounds-header-4 : tie.Need-bounds-header-4
bounds-header-4 c = simp length-set (omega arith)

bounds-header-5 : tie.Need-bounds-header-5
bounds-header-5 c = search rules

shape_of-header : tie.Need-shape_of-header
shape_of-header c = simp length-set

returns : tie.Need-returns
unfolding fields_after
returns c =
    let t = c.before in
    let y = t.before in
    let b = y.before in
    let x = b.before in
    let n = x.before in
    let a = n.args in
    let f = a.f in
    let h = a.header.now in
    let g = t.struct_told-1.given in
    let kind = held n.type_number-mb_type.result n.type_number-mb_type.type_inv ∙ n.type_number-mb_type.ensures in
    let flag = held b.bit_of-ac_pred_flag.result b.bit_of-ac_pred_flag.type_inv ∙ b.bit_of-ac_pred_flag.ensures in
    let scale = held c.scale_of-quantiser_scale.result c.scale_of-quantiser_scale.type_inv ∙ c.scale_of-quantiser_scale.ensures in
    let cbpc : to_z w32 f.header.cbpc ≡ pos f.header.cbpc = to_z_pos w32 (overflow_cast-cbpc x).sfits in
    let cbpy : to_z w32 f.header.cbpy ≡ pos f.header.cbpy = to_z_pos w32 (overflow_cast-cbpy y).sfits in
    let delta : to_z w32 (of_z w32 f.dquant_delta) ≡ f.dquant_delta = search rules in
    (λ i. set (set (set (set (set (set h 0 (kind i)) 1 (cbpc i)) 2 (flag i)) 3 (cbpy i)) 4 (delta i)) 5 (scale i))
    ∙ sets-eq (type_number f.header.mb_type ∷ pos f.header.cbpc ∷ bit_of f.header.ac_pred_flag ∷ pos f.header.cbpy ∷ f.dquant_delta ∷ scale_of f.quantiser_scale ∷ []) h 0 (omega arith)

pub put_fields_spec : {M : Type 1} → statement M
put_fields_spec =
    tie.close
    (tie.spec
    type_number-mb_type-requires
    overflow_cast-cbpc
    bit_of-ac_pred_flag-requires
    overflow_cast-cbpy
    scale_of-quantiser_scale-requires
    bounds-header-0
    bounds-header-1
    bounds-header-2
    bounds-header-3
    bounds-header-4
    bounds-header-5
    shape_of-header
    returns)
