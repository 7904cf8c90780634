-- `vaxembro::lent::texture_context_of` meets its contract. Assumes nothing.
use borrow.Author.Rules.{rules}
use Rattle.vaxembro.specs.Lent.{texture_context_by}
use Rattle.vaxembro.proofs.lent.texture_context_of.Statement.{statement}
use Rattle.vaxembro.proofs.lent.texture_context_of.Tie as tie

rounding_of-idct_rounding-requires : tie.Need-rounding_of-idct_rounding-requires
rounding_of-idct_rounding-requires c κs = search rules

method_one-requires : tie.Need-method_one-requires
method_one-requires c κs = search rules

ac_pred_flag-requires : tie.Need-ac_pred_flag-requires
ac_pred_flag-requires c κs = search rules

alternate_vertical_scan-requires : tie.Need-alternate_vertical_scan-requires
alternate_vertical_scan-requires c κs = search rules

intra_mismatch_exempt-requires : tie.Need-intra_mismatch_exempt-requires
intra_mismatch_exempt-requires c κs = search rules

returns : tie.Need-returns
unfolding texture_context_by
returns c = rw (c.intra_mismatch_exempt.ensures, c.alternate_vertical_scan.ensures, c.ac_pred_flag.ensures, c.method_one.ensures, c.rounding_of-idct_rounding.ensures)

pub texture_context_of_spec : {M : Type 1} → statement M
texture_context_of_spec =
    tie.close
    (tie.spec
    rounding_of-idct_rounding-requires
    method_one-requires
    ac_pred_flag-requires
    alternate_vertical_scan-requires
    intra_mismatch_exempt-requires
    returns)
