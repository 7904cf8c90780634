-- `codes::dc_size_codes` meets its contract: the constants are the definition computed. Assumes nothing.
use mathlib.Core.Path.{ap, sym}
use borrow.Author.Rules.{rules}
use Rattle.codes.proofs.dc_size.dc_size_codes.Statement.{statement}
use Rattle.codes.specs.DcSize.{dc_codes, size_chrominance, size_luminance}
use Rattle.codes.proofs.dc_size.dc_size_codes.Tie as tie

enum_told-1 : tie.Need-enum_told-1
enum_told-1 c = search rules

enum_told-in-Chrominance : tie.Need-enum_told-in-Chrominance
enum_told-in-Chrominance c = search rules

returns-in-Luminance : tie.Need-returns-in-Luminance
unfolding dc_codes size_luminance size_chrominance
returns-in-Luminance c = ap dc_codes (sym c.in-Luminance.is)

returns-in-Chrominance : tie.Need-returns-in-Chrominance
unfolding dc_codes size_luminance size_chrominance
returns-in-Chrominance c = ap dc_codes (sym c.in-Chrominance.is)

pub dc_size_codes_spec : {M : Type 1} → statement M
dc_size_codes_spec = tie.close (tie.spec enum_told-1 enum_told-in-Chrominance returns-in-Luminance returns-in-Chrominance)
