-- Inside the crate: the lent tables, the state of the loop over a list, and what functions that are not public answer. Definitions only.
use Rattle.std.specs.Prelude.{◌≡◌, Bool, true, false, cond, List, ℕ, ◌+◌, eqb, ltb, set, ℤ, Err, Ok, Result}
use Rattle.bits.specs.Bits.{Bits}
use Rattle.bits.specs.declared.cursor.Cursor.{Cursor}
use Rattle.codes.specs.Rvlc.{rvlc_codes, rvlc_lens, rvlc_of, rvlc_columns}
use Rattle.codes.specs.Tcoef.{vlc_codes, vlc_lens, tcoef_of, event_columns}
use Rattle.codes.specs.declared.tcoef_tables.TcoefTable.{TcoefTable}
use Rattle.events.specs.Spellings.{one_more, spellings_of}
use Rattle.events.specs.declared.event.AcEvent.{AcEvent}
use Rattle.events.specs.declared.spelling.Spellings.{Spellings}
use Rattle.fields.specs.Answer.{after}
use Rattle.fields.specs.Reader.{Res, ok, no, mapped}
use Rattle.fields.specs.declared.error.TextureParseError.{TextureParseError}
use Rattle.fields.specs.declared.error.TextureParseError.TheVariants.{Overflow}
use Rattle.texture.specs.Events.{Events, listed}
use Rattle.texture.specs.EventsReader.{list}
use Rattle.texture.specs.Places.{zeros, places_of}
use Rattle.texture.specs.declared.list.Landing.{Landing}
use Rattle.texture.specs.declared.list.ListRead.{ListRead}

-- the lent tables of the coding in use
abbrev pub TablesOf : Bool → TcoefTable → List ℕ → List ℕ → List ℕ → Type 0
TablesOf false t cs ls es = (cs ≡ vlc_codes) × (ls ≡ vlc_lens) × (es ≡ event_columns (tcoef_of t))
TablesOf true t cs ls es = (cs ≡ rvlc_codes) × (ls ≡ rvlc_lens) × (es ≡ rvlc_columns (rvlc_of t))

-- ---- the loop over a list

-- where a list stands, with the places filled and the events counted so far
pub record State : Type 0 where
  pub place : ℕ
  pub bad : ℕ
  pub spellings : Spellings
  pub qfs : List ℤ

abbrev pub state_of : Landing → List ℤ → State
state_of l xs = record { place = l.place; bad = l.bad; spellings = l.spellings; qfs = xs }

-- what an event does to them
abbrev pub put_of : State → AcEvent → State
put_of s v =
    cond (eqb s.bad 0)
    (cond (ltb (s.place + v.run) 64)
    (record { place = s.place + v.run + 1; bad = 0; spellings = one_more v.spelling s.spellings; qfs = set s.qfs (s.place + v.run) v.level })
    (record { place = s.place; bad = s.place + v.run; spellings = s.spellings; qfs = s.qfs }))
    s

abbrev pub refused_by : TextureParseError → ListRead
refused_by e = record { answer = Err e; qfs = zeros }

abbrev pub closed : State → Cursor → ListRead
closed s next = cond (eqb s.bad 0) (record { answer = Ok (next, s.spellings); qfs = s.qfs }) (refused_by (Overflow s.bad))

-- the places of a list and the number of its events of each spelling
abbrev pub gives : TcoefTable → ℕ → Events → List ℤ × Spellings
gives t place es = (places_of t place es, spellings_of (listed es))

abbrev pub listed_of : List ℕ → Res (List ℤ × Spellings) → ListRead
listed_of d (ok x r) = record { answer = Ok (after d r, x.1); qfs = x.0 }
listed_of d (no e) = refused_by e

abbrev pub listed_by : List ℕ → Bool → TcoefTable → ℕ → Bits → ListRead
listed_by d rev t place b = listed_of d (mapped (gives t place) (list rev t place b))

-- what is kept of a list
abbrev pub kept_by : Result (Cursor × Spellings) TextureParseError → List ℤ → List ℤ → List ℤ
kept_by (Ok (c, n)) new old = new
kept_by (Err e) new old = old

abbrev pub kept_of : ListRead → List ℤ → List ℤ
kept_of one old = kept_by one.answer one.qfs old
