-- Inside the crate: what is said of the bits by a symbol, a list, a block and six blocks that windows settle. A next position 0 says nothing. Definitions only.
use Rattle.std.specs.Prelude.{Bool, false, true, List, ◌++◌, ◌≡◌, ℕ, ◌+◌, ◌*◌, ◌≤◌, ◌<◌, ℤ, drop, length, replicate}
use Rattle.bits.specs.Ahead.{window}
use Rattle.bits.specs.Bits.{Bits, bin, bits_from}
use Rattle.block_reader.specs.Rows.{read_rows, read_spellings, row_of}
use Rattle.codes.specs.FirstBits.{long_rows, short_rows}
use Rattle.codes.specs.Tcoef as T
use Rattle.codes.specs.declared.dc_size.DcComponent.{DcComponent}
use Rattle.codes.specs.declared.tcoef_tables.TcoefTable.TheVariants.{Intra}
use Rattle.dc_parts.specs.Dc.{Dc, GoodDc, dc_bits, difference_of}
use Rattle.events.specs.Event.{Event, GoodEvent, ◌▸◌, event_bits, spelling_of, tcoef_row, value_of, vlc_bits}
use Rattle.events.specs.Spellings.{spellings_of}
use Rattle.sentences.specs.Macroblock.{Parts, events_of}
use Rattle.sentences.specs.MacroblockReader.{read_block}
use Rattle.texture.specs.Events.{Events, listed}
use Rattle.texture.specs.EventsReader.{list}
use Rattle.texture.specs.Places.{places_of}
use Rattle.fields.specs.Reader.{ok}
use Rattle.events.specs.declared.event.AcEvent.{AcEvent}
use Rattle.events.specs.declared.spelling.Spelling.{Spelling}
use Rattle.window_reader.specs.Ends.{end_of, ends_of}
use Rattle.window_reader.specs.Packed.{Packs, apart, weight_of}
use Rattle.window_reader.specs.declared.list.ListAt.{ListAt}
use Rattle.window_reader.specs.declared.six.SixAt.{SixAt}
use Rattle.window_reader.specs.declared.symbol.DcAt.{DcAt}
use Rattle.window_reader.specs.declared.symbol.EventAt.{EventAt}
use Rattle.window_reader.specs.declared.symbol.RowAt.{RowAt}

abbrev pub Readable : List ℕ → ℕ → Type 0
Readable d at = (at ≤ 8 * length d) × (length d ≤ 1048576)

-- the lent tables
abbrev pub Tables : List ℕ → List ℕ → Type 0
Tables short long = (short ≡ short_rows) × (long ≡ long_rows)

-- a window moved on by some bits, with zeros behind it
abbrev pub moved : List ℕ → ℕ → ℕ → Bits
moved d at skip = drop skip (window d at) ++ replicate skip false

-- a DC part
pub record DcTold (d : List ℕ) (at : ℕ) (c : DcComponent) (r : DcAt) : Type 0 where
  pub part : Dc
  pub good : GoodDc c part
  pub bits : bits_from d at ≡ dc_bits c part ++ bits_from d r.next
  pub inside : r.next ≤ 8 * length d
  pub says : r.difference ≡ difference_of c part

abbrev pub DcSettled : List ℕ → ℕ → DcComponent → DcAt → Type 0
DcSettled d at c r = (r.next ≡ 0 → ⊥) → DcTold d at c r

-- a row of Table B.16 and its sign, `skip` bits after a position
pub record RowTold (d : List ℕ) (at skip : ℕ) (r : RowAt) : Type 0 where
  pub row : ℕ
  pub below : row < 102
  pub bits : bits_from d (at + skip) ≡ vlc_bits row ▸ bin 1 r.sign ▸ bits_from d r.next
  pub inside : r.next ≤ 8 * length d
  pub sign_lt : r.sign < 2
  pub last_is : r.last ≡ T.last_of (tcoef_row Intra row)
  pub run_is : r.run ≡ T.run_of (tcoef_row Intra row)
  pub size_is : r.size ≡ T.level_of (tcoef_row Intra row)

abbrev pub RowSettled : List ℕ → ℕ → ℕ → RowAt → Type 0
RowSettled d at skip r = (r.next ≡ 0 → ⊥) → RowTold d at skip r

-- an event
abbrev pub event_of : Spelling → EventAt → AcEvent
event_of k r = record { last = r.last; run = r.run; level = r.level; spelling = k }

pub record EventTold (d : List ℕ) (at : ℕ) (r : EventAt) : Type 0 where
  pub event : Event
  pub good : GoodEvent false event
  pub bits : bits_from d at ≡ event_bits event ▸ bits_from d r.next
  pub inside : r.next ≤ 8 * length d
  pub says : value_of Intra event ≡ event_of (spelling_of event) r
  pub weighs : r.spelled ≡ weight_of (spelling_of event)

abbrev pub EventSettled : List ℕ → ℕ → EventAt → Type 0
EventSettled d at r = (r.next ≡ 0 → ⊥) → EventTold d at r

-- a list with an event at least, up to a position
abbrev pub up_to : ℕ → ℕ → ListAt
up_to next spelled = record { next = next; end = 64; spelled = spelled }

-- a list from place 1 on, into its places
pub record ListTold (d : List ℕ) (at : ℕ) (r : ListAt) (qfs : List ℤ) : Type 0 where
  pub events : Events
  pub read : list false Intra 1 (bits_from d at) ≡ ok events (bits_from d r.next)
  pub places_are : qfs ≡ places_of Intra 1 events
  pub packs : Packs r.spelled (spellings_of (listed events)) 64
  pub inside : r.next ≤ 8 * length d
  pub ends : r.end ≡ end_of qfs

abbrev pub ListSettled : List ℕ → ℕ → ListAt → List ℤ → Type 0
ListSettled d at r qfs = (r.next ≡ 0 → ⊥) → ListTold d at r qfs

-- a block
pub record BlockTold (d : List ℕ) (at : ℕ) (c : DcComponent) (coded : Bool) (r : ListAt) (qfs : List ℤ) : Type 0 where
  pub parts : Parts
  pub read : read_block true false (c, coded) (bits_from d at) ≡ ok parts (bits_from d r.next)
  pub row_is : qfs ≡ row_of true (c, coded) parts
  pub packs : Packs r.spelled (spellings_of (events_of parts.1)) 64
  pub inside : r.next ≤ 8 * length d
  pub ends : r.end ≡ end_of qfs

abbrev pub BlockSettled : List ℕ → ℕ → DcComponent → Bool → ListAt → List ℤ → Type 0
BlockSettled d at c coded r qfs = (r.next ≡ 0 → ⊥) → BlockTold d at c coded r qfs

-- six blocks
pub record SixTold (d : List ℕ) (at : ℕ) (pattern : List Bool) (r : SixAt) (rows : List (List ℤ)) (ends : List ℕ) : Type 0 where
  pub read : read_rows true false pattern (bits_from d at) ≡ ok rows (bits_from d r.next)
  pub counted : read_spellings true false pattern (bits_from d at) ≡ ok (apart r.spelled) (bits_from d r.next)
  pub inside : r.next ≤ 8 * length d
  pub are : ends ≡ ends_of rows

abbrev pub SixSettled : List ℕ → ℕ → List Bool → SixAt → List (List ℤ) → List ℕ → Type 0
SixSettled d at pattern r rows ends = (r.next ≡ 0 → ⊥) → SixTold d at pattern r rows ends
