-- The event of a row of lent columns and a sign, and the columns of the tables. Definitions only.
use Rattle.std.specs.Prelude.{List, ℕ, ◌+◌, ◌*◌, ◌<◌, eqb, get_or}
use Rattle.codes.specs.Rvlc.{rvlc_of, rvlc_columns}
use Rattle.codes.specs.Tcoef.{tcoef_of, event_columns}
use Rattle.codes.specs.declared.tcoef_tables.TcoefTable.{TcoefTable}
use Rattle.events.specs.Event.{signed_by}
use Rattle.events.specs.declared.event.AcEvent.{AcEvent}
use Rattle.events.specs.declared.event.RowForm.{RowForm}
use Rattle.events.specs.declared.event.RowForm.TheVariants.{Plain, Type1, Type2, Reversible}
use Rattle.events.specs.declared.spelling.Spelling.{Spelling}
use Rattle.events.specs.declared.spelling.Spelling.TheVariants as S

-- the event of a row in columns of `rows` numbers, its magnitude and its run raised
abbrev pub row_event : List ℕ → ℕ → ℕ → ℕ → ℕ → ℕ → Spelling → AcEvent
row_event es rows i s moreLevel moreRun spelling =
    record { last = eqb (get_or es i 0) 1; run = get_or es (rows + i) 0 + moreRun; level = signed_by s (get_or es (2 * rows + i) 0 + moreLevel); spelling = spelling }

-- as it is spelled: type 1 raises the magnitude by LMAX, type 2 the run by RMAX + 1
abbrev pub row_of : List ℕ → RowForm → ℕ → ℕ → AcEvent
row_of es Plain i s = row_event es 102 i s 0 0 S.Plain
row_of es Type1 i s = row_event es 102 i s (get_or es (306 + i) 0) 0 S.Type1
row_of es Type2 i s = row_event es 102 i s 0 (get_or es (408 + i) 0 + 1) S.Type2
row_of es Reversible i s = row_event es 169 i s 0 0 S.Plain

-- ---- the tables

-- the columns that a row is looked up in, and the rows there are
abbrev pub columns : RowForm → TcoefTable → List ℕ
columns Plain t = event_columns (tcoef_of t)
columns Type1 t = event_columns (tcoef_of t)
columns Type2 t = event_columns (tcoef_of t)
columns Reversible t = rvlc_columns (rvlc_of t)

abbrev pub RowIn : RowForm → ℕ → Type 0
RowIn Plain i = i < 102
RowIn Type1 i = i < 102
RowIn Type2 i = i < 102
RowIn Reversible i = i < 169

-- a row of the plain tables
abbrev pub PlainForm : RowForm → Type 0
PlainForm Plain = Unit {0}
PlainForm Type1 = Unit {0}
PlainForm Type2 = Unit {0}
PlainForm Reversible = ⊥
