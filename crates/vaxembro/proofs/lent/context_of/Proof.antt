-- `vaxembro::lent::context_of` meets its contract. Assumes nothing.
use borrow.Author.Rules.{rules}
use Rattle.vaxembro.specs.Lent.{context_by}
use Rattle.vaxembro.proofs.lent.context_of.Statement.{statement}
use Rattle.vaxembro.proofs.lent.context_of.Tie as tie

rounding_of-idct_rounding-requires : tie.Need-rounding_of-idct_rounding-requires
rounding_of-idct_rounding-requires c κs = search rules

ac_pred_flag-requires : tie.Need-ac_pred_flag-requires
ac_pred_flag-requires c κs = search rules

alternate_vertical_scan-requires : tie.Need-alternate_vertical_scan-requires
alternate_vertical_scan-requires c κs = search rules

intra_mismatch_exempt-requires : tie.Need-intra_mismatch_exempt-requires
intra_mismatch_exempt-requires c κs = search rules

use_intra_dc_vlc-requires : tie.Need-use_intra_dc_vlc-requires
use_intra_dc_vlc-requires c κs = search rules

reversible_vlc-requires : tie.Need-reversible_vlc-requires
reversible_vlc-requires c κs = search rules

returns : tie.Need-returns
unfolding context_by
returns c = rw (c.reversible_vlc.ensures, c.use_intra_dc_vlc.ensures, c.intra_mismatch_exempt.ensures, c.alternate_vertical_scan.ensures, c.ac_pred_flag.ensures, c.rounding_of-idct_rounding.ensures)

pub context_of_spec : {M : Type 1} → statement M
context_of_spec =
    tie.close
    (tie.spec
    rounding_of-idct_rounding-requires
    ac_pred_flag-requires
    alternate_vertical_scan-requires
    intra_mismatch_exempt-requires
    use_intra_dc_vlc-requires
    reversible_vlc-requires
    returns)
