-- `coefficients::handed::put_dcs` meets its contract: the numbers of the DCs, with zeros. Assumes nothing.
use mathlib.Core.Path.{◌≡◌, ◌∙◌}
use lib.IntN.{pos}
use lib.ListN.{replicate}
use mir.Syntax.{w32}
use mir.Val.{of_z, to_z}
use borrow.Author.Rules.{rules}
use Rattle.coefficients.specs.Needed.{numbers_of}
use Rattle.coefficients.proofs.handed.put_dcs.Statement.{statement}
use Rattle.coefficients.proofs.handed.put_dcs.Tie as tie

put_numbers-requires : tie.Need-put_numbers-requires
put_numbers-requires c κs = search rules

returns : tie.Need-returns
returns c =
    let t = c.before in
    let a = t.args in
    let p = a.p in
    let g = t.struct_told-1.given in
    let h = t.struct_told-2-1.given in
    let k = t.struct_told-3-1.given in
    let fa : to_z w32 (of_z w32 p.fa_dc) ≡ p.fa_dc = search rules in
    let fb : to_z w32 (of_z w32 p.fb_dc) ≡ p.fb_dc = search rules in
    let fc : to_z w32 (of_z w32 p.fc_dc) ≡ p.fc_dc = search rules in
    c.put_numbers.ensures ∙ (λ i. numbers_of (fa i) (fb i) (fc i) a.q (replicate 7 (pos 0)))

pub put_dcs_spec : {M : Type 1} → statement M
put_dcs_spec = tie.close (tie.spec put_numbers-requires returns)
