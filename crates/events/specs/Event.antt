-- Events (7.4.1.2, 7.4.1.3): how each is spelled in bits, when its fields are good, and what it says. No reader is named here. Definitions only.
use Rattle.std.specs.Prelude.{◌≡◌, Bool, true, false, cond, ◌++◌, ℕ, ◌+◌, ◌<◌, leb, eqb, get_or, ℤ, pos, neg_ℤ, ◌-ℤ◌}
use Rattle.bits.specs.Bits.{Bits, bin}
use Rattle.codes.specs.Rvlc.{rvlc_of, rvlc_codes, rvlc_lens}
use Rattle.codes.specs.Table.{code_bits}
use Rattle.codes.specs.Tcoef.{Row, row, tcoef_of, lmax_by, rmax_by, vlc_codes, vlc_lens}
use Rattle.codes.specs.declared.tcoef_tables.TcoefTable.{TcoefTable}
use Rattle.events.specs.declared.event.AcEvent.{AcEvent}
use Rattle.events.specs.declared.spelling.Spelling.{Spelling}
use Rattle.events.specs.declared.spelling.Spelling.TheVariants.{Plain, RvlcEscape, Type1, Type2, Type3}
use Rattle.codes.specs.Tcoef as T

-- one string of bits after the other, bracketed to the right
infixr 65 ◌▸◌
abbrev pub ◌▸◌ : Bits → Bits → Bits
a ▸ b = a ++ b

-- an event as it is spelled. Rows count from 0, the sign is 1 for minus, a type 3 level is its 12 bits; the last two are reversible.
pub data Event : Type 0 where
  plain : (row sign : ℕ) → Event
  type1 : (row sign : ℕ) → Event
  type2 : (row sign : ℕ) → Event
  type3 : (last run level : ℕ) → Event
  rvlc : (row sign : ℕ) → Event
  rvlc_escape : (last run magnitude sign : ℕ) → Event

-- the codes of a row, and the escapes 0000011 and 00001
abbrev pub vlc_bits : ℕ → Bits
vlc_bits i = code_bits vlc_codes vlc_lens i

abbrev pub rvlc_bits : ℕ → Bits
rvlc_bits i = code_bits rvlc_codes rvlc_lens i

abbrev pub escape : Bits
escape = vlc_bits 102

abbrev pub rvlc_opening : Bits
rvlc_opening = rvlc_bits 169

-- each marker is 1, and the delimiter of a reversible escape 0000
unfoldable pub event_bits : Event → Bits
event_bits (plain i s) = vlc_bits i ▸ bin 1 s
event_bits (type1 i s) = escape ▸ bin 1 0 ▸ vlc_bits i ▸ bin 1 s
event_bits (type2 i s) = escape ▸ bin 2 2 ▸ vlc_bits i ▸ bin 1 s
event_bits (type3 l r v) = escape ▸ bin 2 3 ▸ bin 1 l ▸ bin 6 r ▸ bin 1 1 ▸ bin 12 v ▸ bin 1 1
event_bits (rvlc i s) = rvlc_bits i ▸ bin 1 s
event_bits (rvlc_escape l r m s) = rvlc_opening ▸ bin 1 l ▸ bin 6 r ▸ bin 1 1 ▸ bin 11 m ▸ bin 1 1 ▸ bin 4 0 ▸ bin 1 s

-- the event is of the coding in use, plain or reversible, its fields are in range, and no level is reserved
unfoldable pub GoodEvent : Bool → Event → Type 0
GoodEvent false (plain i s) = (i < 102) × (s < 2)
GoodEvent false (type1 i s) = (i < 102) × (s < 2)
GoodEvent false (type2 i s) = (i < 102) × (s < 2)
GoodEvent false (type3 l r v) = (l < 2) × (r < 64) × (v < 4096) × (v ≡ 0 → ⊥) × (v ≡ 2048 → ⊥)
GoodEvent false (rvlc i s) = ⊥
GoodEvent false (rvlc_escape l r m s) = ⊥
GoodEvent true (plain i s) = ⊥
GoodEvent true (type1 i s) = ⊥
GoodEvent true (type2 i s) = ⊥
GoodEvent true (type3 l r v) = ⊥
GoodEvent true (rvlc i s) = (i < 169) × (s < 2)
GoodEvent true (rvlc_escape l r m s) = (l < 2) × (r < 64) × (m < 2048) × (s < 2) × (m ≡ 0 → ⊥)

-- ---- what an event says, by the table in use

abbrev pub no_row : Row
no_row = row 0 0 0 0 0

abbrev pub tcoef_row : TcoefTable → ℕ → Row
tcoef_row t i = get_or (tcoef_of t) i no_row

abbrev pub rvlc_row_of : TcoefTable → ℕ → Row
rvlc_row_of t i = get_or (rvlc_of t) i no_row

-- a number with a sign, 1 for minus
abbrev pub signed_by : ℕ → ℕ → ℤ
signed_by s n = cond (eqb s 1) (neg_ℤ (pos n)) (pos n)

-- a 12-bit field read as two's complement
abbrev pub signed12 : ℕ → ℤ
signed12 v = cond (leb 2048 v) (pos v -ℤ pos 4096) (pos v)

-- type 1 raises the magnitude by LMAX, type 2 the run by RMAX + 1
unfoldable pub last_number : TcoefTable → Event → ℕ
last_number t (plain i s) = T.last_of (tcoef_row t i)
last_number t (type1 i s) = T.last_of (tcoef_row t i)
last_number t (type2 i s) = T.last_of (tcoef_row t i)
last_number t (type3 l r v) = l
last_number t (rvlc i s) = T.last_of (rvlc_row_of t i)
last_number t (rvlc_escape l r m s) = l

unfoldable pub run_of : TcoefTable → Event → ℕ
run_of t (plain i s) = T.run_of (tcoef_row t i)
run_of t (type1 i s) = T.run_of (tcoef_row t i)
run_of t (type2 i s) = T.run_of (tcoef_row t i) + rmax_by (tcoef_of t) (tcoef_row t i) + 1
run_of t (type3 l r v) = r
run_of t (rvlc i s) = T.run_of (rvlc_row_of t i)
run_of t (rvlc_escape l r m s) = r

unfoldable pub level_of : TcoefTable → Event → ℤ
level_of t (plain i s) = signed_by s (T.level_of (tcoef_row t i))
level_of t (type1 i s) = signed_by s (T.level_of (tcoef_row t i) + lmax_by (tcoef_of t) (tcoef_row t i))
level_of t (type2 i s) = signed_by s (T.level_of (tcoef_row t i))
level_of t (type3 l r v) = signed12 v
level_of t (rvlc i s) = signed_by s (T.level_of (rvlc_row_of t i))
level_of t (rvlc_escape l r m s) = signed_by s m

-- how it is spelled; a reversible code that is no escape is plain
unfoldable pub spelling_of : Event → Spelling
spelling_of (plain i s) = Plain
spelling_of (type1 i s) = Type1
spelling_of (type2 i s) = Type2
spelling_of (type3 l r v) = Type3
spelling_of (rvlc i s) = Plain
spelling_of (rvlc_escape l r m s) = RvlcEscape

abbrev pub last_of : TcoefTable → Event → Bool
last_of t e = eqb (last_number t e) 1

abbrev pub value_of : TcoefTable → Event → AcEvent
value_of t e = record { last = last_of t e; run = run_of t e; level = level_of t e; spelling = spelling_of e }
