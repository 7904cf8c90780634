-- Inside the crate: what functions that are not public answer, as the reader's, where a position stands for the bits from it on. Definitions only.
use Rattle.std.specs.Prelude.{cond, List, ℕ, ◌*◌, ◌≤◌, eqb, length, Err, Ok, Result}
use Rattle.bits.specs.Bits.{Bits, bits_from}
use Rattle.bits.specs.declared.cursor.Cursor.{Cursor}
use Rattle.events.specs.Event.{signed_by, signed12}
use Rattle.events.specs.declared.event.AcEvent.{AcEvent}
use Rattle.events.specs.declared.spelling.Spelling.TheVariants.{RvlcEscape, Type3}
use Rattle.fields.specs.Inside.{Says}
use Rattle.fields.specs.Reader.{Res, ok, no, bind, field, marker}
use Rattle.fields.specs.declared.error.TextureParseError.TheVariants.{EscapeMarkerBitMissing, ReservedEscapeLevel}
use Rattle.fields.specs.declared.error.TextureParseError.{TextureParseError}

-- ---- an answer that is the reader's with a position in the data

abbrev pub said_event : List ℕ → Result (AcEvent × Cursor) TextureParseError → Res AcEvent
said_event d (Ok (v, c)) = ok v (bits_from d c.bit_pos)
said_event d (Err e) = no e

abbrev pub InsideEvent : List ℕ → Result (AcEvent × Cursor) TextureParseError → Type 0
InsideEvent d (Ok (v, c)) = c.bit_pos ≤ 8 * length d
InsideEvent d (Err e) = Unit {0}

abbrev pub SaysEvent : List ℕ → Result (AcEvent × Cursor) TextureParseError → Res AcEvent → Type 0
SaysEvent d r m = Says (said_event d) (InsideEvent d) r m

-- ---- escapes

-- n bits of an escape and the marker after them
unfoldable pub marked : ℕ → Bits → Res ℕ
marked n b = bind (field n b) (λ v r. bind (marker EscapeMarkerBitMissing r) (λ _ r. ok v r))

-- the answer of a type 3 escape, and of a reversible one, whose bits are read
abbrev pub settled : ℕ → ℕ → ℕ → Cursor → Result (AcEvent × Cursor) TextureParseError
settled l n v next =
    cond (eqb v 0) (Err ReservedEscapeLevel)
    (cond (eqb v 2048) (Err ReservedEscapeLevel) (Ok (record { last = eqb l 1; run = n; level = signed12 v; spelling = Type3 }, next)))

abbrev pub rvlc_settled : ℕ → ℕ → ℕ → ℕ → Cursor → Result (AcEvent × Cursor) TextureParseError
rvlc_settled l n m s next =
    cond (eqb m 0) (Err ReservedEscapeLevel) (Ok (record { last = eqb l 1; run = n; level = signed_by s m; spelling = RvlcEscape }, next))
