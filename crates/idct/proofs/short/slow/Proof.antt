-- `idct::short::slow` meets its contract: the samples by the rule. Assumes nothing.
use mir.Facts.{to_z-of_z}
use mir.Syntax.{w32}
use borrow.Author.Rules.{rules}
use Rattle.idct.proofs.KeptLaws.{halves_bounded, ruled_are}
use Rattle.idct.proofs.short.slow.Statement.{statement}
use Rattle.idct.proofs.short.slow.Tie as tie

cos_table-table-requires : tie.Need-cos_table-table-requires
cos_table-table-requires c κs = search rules

kept_rows-n-requires : tie.Need-kept_rows-n-requires
kept_rows-n-requires c κs = search rules

ruled-requires : tie.Need-ruled-requires
ruled-requires c κs =
    let e = c.kept_rows-n.ensures in
    (c.cos_table-table.ensures, e.few, e.below, halves_bounded c.args.f.now _ _ _ e c.requires.1)

returns : tie.Need-returns
returns c =
    ruled_are c.args.f.now _ _ _ c.kept_rows-n.ensures c.args.rounding _ _ c.args.lo c.args.hi _ (to_z-of_z {w = w32} {z = c.args.lo} c.ranges.lo) (to_z-of_z {w = w32} {z = c.args.hi} c.ranges.hi) c.ruled.ensures

pub slow_spec : {M : Type 1} → statement M
slow_spec = tie.close (tie.spec cos_table-table-requires kept_rows-n-requires ruled-requires returns)
