-- `coefficients::handed::put_side` meets its contract: the side of the direction, where it is there. Assumes nothing.
use mathlib.Core.Bool.{false, true}
use mathlib.Core.Path.{◌≡◌, ◌∙◌}
use mir.Syntax.{w32}
use mir.Val.{of_z, to_z}
use borrow.Author.Rules.{rules}
use borrow.Author.Tests.{not-false, not-true}
use Rattle.coefficients.specs.Needed.{numbers_of}
use Rattle.coefficients.proofs.handed.put_side.Statement.{statement}
use Rattle.coefficients.proofs.handed.put_side.Tie as tie

enum_told-1 : tie.Need-enum_told-1
enum_told-1 c = search rules

put_dcs-requires : tie.Need-put_dcs-requires
put_dcs-requires c κs = search rules

returns-then-not-p : tie.Need-returns-then-not-p
returns-then-not-p c =
    let e = c.before.before.before.before in
    let a = e.args in
    let u : a.p.a_has_column ≡ false = not-true _ c.if-not-p.true in
    c.put_dcs.ensures ∙ (rw (e.in-FromLeft.is, u))

put_numbers-requires : tie.Need-put_numbers-requires
put_numbers-requires c κs = search rules

enum_told-in-FromAbove : tie.Need-enum_told-in-FromAbove
enum_told-in-FromAbove c = search rules

put_dcs-requires-then-not-p-2 : tie.Need-put_dcs-requires-then-not-p-2
put_dcs-requires-then-not-p-2 c κs = search rules

returns-then-not-p-2 : tie.Need-returns-then-not-p-2
returns-then-not-p-2 c =
    let e = c.before.before.before.before in
    let a = e.args in
    let u : a.p.c_has_row ≡ false = not-true _ c.if-not-p-2.true in
    c.put_dcs-then-not-p-2.ensures ∙ (rw (e.in-FromAbove.is, u))

put_numbers-requires-in-FromAbove : tie.Need-put_numbers-requires-in-FromAbove
put_numbers-requires-in-FromAbove c κs = search rules

returns-else-not-p : tie.Need-returns-else-not-p
returns-else-not-p c =
    let t = c.before in
    let l = t.before.before.before.before.before in
    let e = l.before.before in
    let a = e.args in
    let p = a.p in
    let g = t.struct_told-1.given in
    let h = t.struct_told-in-FromLeft-1.given in
    let k = t.struct_told-in-FromLeft-2-1.given in
    let fa : to_z w32 (of_z w32 p.fa_dc) ≡ p.fa_dc = search rules in
    let fb : to_z w32 (of_z w32 p.fb_dc) ≡ p.fb_dc = search rules in
    let fc : to_z w32 (of_z w32 p.fc_dc) ≡ p.fc_dc = search rules in
    let left : p.a_has_column ≡ true = not-false _ l.if-not-p.false in
    c.put_numbers.ensures
    ∙ (λ i. numbers_of (fa i) (fb i) (fc i) p.qp_a p.a_first_column)
    ∙ (rw (e.in-FromLeft.is, left))

returns-else-not-p-2 : tie.Need-returns-else-not-p-2
returns-else-not-p-2 c =
    let t = c.before in
    let l = t.before.before.before.before.before in
    let e = l.before.before in
    let a = e.args in
    let p = a.p in
    let g = t.struct_told-in-FromAbove-1.given in
    let h = t.struct_told-in-FromAbove-2-1.given in
    let k = t.struct_told-in-FromAbove-3-1.given in
    let fa : to_z w32 (of_z w32 p.fa_dc) ≡ p.fa_dc = search rules in
    let fb : to_z w32 (of_z w32 p.fb_dc) ≡ p.fb_dc = search rules in
    let fc : to_z w32 (of_z w32 p.fc_dc) ≡ p.fc_dc = search rules in
    let above : p.c_has_row ≡ true = not-false _ l.if-not-p-2.false in
    c.put_numbers-in-FromAbove.ensures
    ∙ (λ i. numbers_of (fa i) (fb i) (fc i) p.qp_c p.c_first_row)
    ∙ (rw (e.in-FromAbove.is, above))

pub put_side_spec : {M : Type 1} → statement M
put_side_spec =
    tie.close
    (tie.spec
    enum_told-1
    put_dcs-requires
    returns-then-not-p
    put_numbers-requires
    enum_told-in-FromAbove
    put_dcs-requires-then-not-p-2
    returns-then-not-p-2
    put_numbers-requires-in-FromAbove
    returns-else-not-p
    returns-else-not-p-2)
