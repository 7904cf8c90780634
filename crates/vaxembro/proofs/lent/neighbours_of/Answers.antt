-- `vaxembro::lent::neighbours_of` meets its contract. Assumes nothing.
use Rattle.std.proofs.Common.{◌≡◌, ◌∙◌, ap, get_or, pos, rules, ℕ, ℤ}
use mir.Facts.{to_z-of_z}
use mir.Syntax.{w32}
use mir.Val.{of_z, to_z}
use Rattle.record.specs.Record.{quantiser_of}
use Rattle.vaxembro.specs.Lent.{neighbours_of, there}
use Rattle.vaxembro.proofs.lent.neighbours_of.Goals as goal

-- a number that is read is the number
abbrev Reads : ℤ → Type 0
Reads z = to_z w32 (of_z w32 z) ≡ z

pub returns : goal.returns
unfolding neighbours_of
returns c =
    let l = c.args.lent.now in
    let fa : Reads (get_or l 0 (pos 0)) = to_z-of_z {w = w32} (search rules) in
    let fb : Reads (get_or l 1 (pos 0)) = to_z-of_z {w = w32} (search rules) in
    let fc : Reads (get_or l 2 (pos 0)) = to_z-of_z {w = w32} (search rules) in
    let a : Reads (get_or l 3 (pos 0)) = to_z-of_z {w = w32} (search rules) in
    let b : Reads (get_or l 4 (pos 0)) = to_z-of_z {w = w32} (search rules) in
    let d : Reads (get_or l 5 (pos 0)) = to_z-of_z {w = w32} (search rules) in
    let e : Reads (get_or l 6 (pos 0)) = to_z-of_z {w = w32} (search rules) in
    let qa = c.quantiser_of.ensures ∙ ap quantiser_of a in
    let qc = c.quantiser_of-2.ensures ∙ ap quantiser_of b in
    let column = c.is_there.ensures ∙ ap there d in
    let row = c.is_there-2.ensures ∙ ap there e in
    let left = c.seven-column.ensures in
    let above = c.seven-row.ensures in
    λ i. record {
      fa_dc = fa i;
      fb_dc = fb i;
      fc_dc = fc i;
      qp_a = qa i;
      qp_c = qc i;
      a_has_column = column i;
      a_first_column = left i;
      c_has_row = row i;
      c_first_row = above i;
    }
