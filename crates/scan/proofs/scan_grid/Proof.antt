-- `scan::scan_grid` meets its contract: each arm's constant is the definition's grid. Assumes nothing.
use mathlib.Core.Path.{ap, sym}
use borrow.Author.Rules.{rules}
use Rattle.scan.specs.Scan.{grid_of, alt_horizontal, alt_vertical, zigzag}
use Rattle.scan.proofs.scan_grid.Statement.{statement}
use Rattle.scan.proofs.scan_grid.Tie as tie

enum_told-1 : tie.Need-enum_told-1
enum_told-1 c = search rules

enum_told-in-AlternateVertical : tie.Need-enum_told-in-AlternateVertical
enum_told-in-AlternateVertical c = search rules

enum_told-in-Zigzag : tie.Need-enum_told-in-Zigzag
enum_told-in-Zigzag c = search rules

returns-in-AlternateHorizontal : tie.Need-returns-in-AlternateHorizontal
unfolding alt_horizontal
returns-in-AlternateHorizontal c = ap grid_of (sym c.in-AlternateHorizontal.is)

returns-in-AlternateVertical : tie.Need-returns-in-AlternateVertical
unfolding alt_vertical
returns-in-AlternateVertical c = ap grid_of (sym c.in-AlternateVertical.is)

returns-in-Zigzag : tie.Need-returns-in-Zigzag
unfolding zigzag
returns-in-Zigzag c = ap grid_of (sym c.in-Zigzag.is)

pub scan_grid_spec : {M : Type 1} → statement M
scan_grid_spec = tie.close (tie.spec enum_told-1 enum_told-in-AlternateVertical enum_told-in-Zigzag returns-in-AlternateHorizontal returns-in-AlternateVertical returns-in-Zigzag)
