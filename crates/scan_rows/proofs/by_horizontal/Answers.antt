-- `scan_rows::by_horizontal` meets its contract: each row names the places that the grid of the alternate horizontal scan has there. Assumes nothing.
use mir.Facts.{to_z-of_z}
use Rattle.scan.specs.Scan.{alt_horizontal}
use Rattle.scan.specs.declared.ScanType.TheVariants.{AlternateHorizontal}
use Rattle.scan_rows.proofs.RowLaws.{rows_stored}
use Rattle.scan_rows.proofs.by_horizontal.Goals as goal

pub returns : goal.returns
unfolding alt_horizontal
returns c =
    rows_stored c.args.level c.args.qfs.now AlternateHorizontal c.requires.0 c.requires.1 (to_z-of_z c.ranges.level)
    c.row_of-first.ensures
    c.row_of.ensures
    c.row_of-2.ensures
    c.row_of-3.ensures
    c.row_of-4.ensures
    c.row_of-5.ensures
    c.row_of-6.ensures
    c.row_of-7.ensures
