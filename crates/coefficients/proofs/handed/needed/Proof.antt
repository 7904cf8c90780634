-- `coefficients::handed::needed` meets its contract: the DCs alone, or with the side that they choose. Assumes nothing.
use mathlib.Core.Path.{◌≡◌, sym, ◌∙◌}
use mir.Syntax.{w32}
use mir.Val.{of_z, to_z}
use borrow.Author.Rules.{rules}
use Rattle.prediction.specs.Stages.{direction_answer}
use Rattle.coefficients.proofs.HandedLaws.{needed_dcs, needed_none, needed_side}
use Rattle.coefficients.proofs.handed.needed.Statement.{statement}
use Rattle.coefficients.proofs.handed.needed.Tie as tie

put_dcs-requires : tie.Need-put_dcs-requires
put_dcs-requires c κs = search rules

returns-then-not-ac_pred : tie.Need-returns-then-not-ac_pred
returns-then-not-ac_pred c =
    let a = c.args in
    c.put_dcs.ensures ∙ sym (needed_dcs a.q a.p c.if-not-ac_pred.true)

-- the direction is of the three DCs
chosen : (c : tie.After-select_dc_direction) → let p = c.args.p in c.select_dc_direction.result ≡ direction_answer p.fa_dc p.fb_dc p.fc_dc
chosen c =
    let t = c.before in
    let p = t.args.p in
    let g = t.struct_told-1.given in
    let h = t.struct_told-2-1.given in
    let k = t.struct_told-3-1.given in
    let fa : to_z w32 (of_z w32 p.fa_dc) ≡ p.fa_dc = search rules in
    let fb : to_z w32 (of_z w32 p.fb_dc) ≡ p.fb_dc = search rules in
    let fc : to_z w32 (of_z w32 p.fc_dc) ≡ p.fc_dc = search rules in
    c.select_dc_direction.ensures.0 ∙ (λ i. direction_answer (fa i) (fb i) (fc i))

select_dc_direction-requires : tie.Need-select_dc_direction-requires
select_dc_direction-requires c κs = search rules

enum_told-1 : tie.Need-enum_told-1
enum_told-1 c = search rules

put_dcs-requires-in-Err : tie.Need-put_dcs-requires-in-Err
put_dcs-requires-in-Err c κs = search rules

enum_known-direction : tie.Need-enum_known-direction
enum_known-direction c = search rules

put_side-requires : tie.Need-put_side-requires
put_side-requires c κs = search rules

returns-in-Err : tie.Need-returns-in-Err
returns-in-Err c =
    let e = c.before.before in
    let k = e.before in
    let x = k.before.before.before.before in
    let a = x.args in
    c.put_dcs-in-Err.ensures ∙ sym (needed_none a.q a.p _ x.if-not-ac_pred.false (sym (chosen k) ∙ e.in-Err.is))

returns-in-Ok : tie.Need-returns-in-Ok
returns-in-Ok c =
    let d = c.before.before in
    let k = d.before in
    let x = k.before.before.before.before in
    let a = x.args in
    c.put_side.ensures ∙ sym (needed_side a.q a.p _ x.if-not-ac_pred.false (sym (chosen k) ∙ d.in-Ok.is))

pub needed_spec : {M : Type 1} → statement M
needed_spec =
    tie.close
    (tie.spec
    put_dcs-requires
    returns-then-not-ac_pred
    select_dc_direction-requires
    enum_told-1
    put_dcs-requires-in-Err
    enum_known-direction
    put_side-requires
    returns-in-Err
    returns-in-Ok)
