-- `codes::rvlc_events` meets its contract: the constants are the definition computed. Assumes nothing.
use mathlib.Core.Path.{ap, sym}
use borrow.Author.Rules.{rules}
use Rattle.codes.proofs.rvlc_tables.rvlc_events.Statement.{statement}
use Rattle.codes.specs.Rvlc.{rvlc_columns, rvlc_tcoef, rvlc_of}
use Rattle.codes.specs.declared.tcoef_tables.TcoefTable.{TcoefTable}
use Rattle.codes.proofs.rvlc_tables.rvlc_events.Tie as tie

enum_told-1 : tie.Need-enum_told-1
enum_told-1 c = search rules

enum_told-in-Inter : tie.Need-enum_told-in-Inter
enum_told-in-Inter c = search rules

returns-in-Intra : tie.Need-returns-in-Intra
unfolding rvlc_columns rvlc_tcoef
returns-in-Intra c = ap (λ (t : TcoefTable). rvlc_columns (rvlc_of t)) (sym c.in-Intra.is)

returns-in-Inter : tie.Need-returns-in-Inter
unfolding rvlc_columns rvlc_tcoef
returns-in-Inter c = ap (λ (t : TcoefTable). rvlc_columns (rvlc_of t)) (sym c.in-Inter.is)

pub rvlc_events_spec : {M : Type 1} → statement M
rvlc_events_spec = tie.close (tie.spec enum_told-1 enum_told-in-Inter returns-in-Intra returns-in-Inter)
