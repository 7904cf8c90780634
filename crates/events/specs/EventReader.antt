-- The reader of one event, plain or reversible, in reading order: 1, 17 or 4 with the window, 5, 6 after both markers (and in RVLC after delimiter and sign), 7 with the window. Definitions only.
use Rattle.std.specs.Prelude.{Bool, true, false, cond, ℕ, eqb}
use Rattle.bits.specs.Bits.{Bits}
use Rattle.codes.specs.Rvlc.{rvlc_codes, rvlc_lens}
use Rattle.codes.specs.Tcoef.{vlc_codes, vlc_lens}
use Rattle.events.specs.Event.{Event, plain, type1, type2, type3, rvlc, rvlc_escape}
use Rattle.events.specs.declared.event.RowForm.{RowForm}
use Rattle.events.specs.declared.event.RowForm.TheVariants.{Plain, Type1, Type2, Reversible}
use Rattle.fields.specs.Reader.{Res, ok, no, bind, field, code, marker}
use Rattle.fields.specs.declared.error.TextureParseError.TheVariants.{InvalidTcoef, EscapeMarkerBitMissing, ReservedEscapeLevel, RvlcEscapeDelimiterMissing}

-- a row and its sign as an event
abbrev pub spelled : RowForm → ℕ → ℕ → Event
spelled Plain i s = plain i s
spelled Type1 i s = type1 i s
spelled Type2 i s = type2 i s
spelled Reversible i s = rvlc i s

-- the sign of a row
unfoldable pub sign : RowForm → ℕ → Bits → Res Event
sign k i b = bind (field 1 b) (λ s r. ok (spelled k i s) r)

-- a code that is no escape, and its sign
unfoldable pub signed : RowForm → Bits → Res Event
signed k b = bind (code vlc_codes vlc_lens 13 102 InvalidTcoef b) (λ i r. sign k i r)

-- ---- plain

-- a type 3 level and its second marker
unfoldable pub level : ℕ → ℕ → Bits → Res Event
level l n b =
    bind (field 12 b) (λ v r.
    bind (marker EscapeMarkerBitMissing r) (λ _ r.
    cond (eqb v 0) (no ReservedEscapeLevel) (cond (eqb v 2048) (no ReservedEscapeLevel) (ok (type3 l n v) r))))

unfoldable pub run_and_level : ℕ → Bits → Res Event
run_and_level l b =
    bind (field 6 b) (λ n r.
    bind (marker EscapeMarkerBitMissing r) (λ _ r. level l n r))

-- type 3, after the escape and 11
unfoldable pub fixed : Bits → Res Event
fixed b = bind (field 1 b) (λ l r. run_and_level l r)

-- after the escape and 1
unfoldable pub longer : Bits → Res Event
longer b = bind (field 1 b) (λ c r. cond (eqb c 0) (signed Type2 r) (fixed r))

-- after the escape
unfoldable pub escaped : Bits → Res Event
escaped b = bind (field 1 b) (λ a r. cond (eqb a 0) (signed Type1 r) (longer r))

unfoldable pub plain_event : Bits → Res Event
plain_event b = bind (code vlc_codes vlc_lens 13 103 InvalidTcoef b) (λ i r. cond (eqb i 102) (escaped r) (sign Plain i r))

-- ---- reversible

-- the sign of an escape: a magnitude 0 is reserved
unfoldable pub rvlc_sign : ℕ → ℕ → ℕ → Bits → Res Event
rvlc_sign l n m b = bind (field 1 b) (λ s r. cond (eqb m 0) (no ReservedEscapeLevel) (ok (rvlc_escape l n m s) r))

-- the delimiter 0000
unfoldable pub rvlc_delimiter : ℕ → ℕ → ℕ → Bits → Res Event
rvlc_delimiter l n m b = bind (field 4 b) (λ w r. cond (eqb w 0) (rvlc_sign l n m r) (no (RvlcEscapeDelimiterMissing w)))

-- the magnitude and its second marker
unfoldable pub rvlc_magnitude : ℕ → ℕ → Bits → Res Event
rvlc_magnitude l n b =
    bind (field 11 b) (λ m r.
    bind (marker EscapeMarkerBitMissing r) (λ _ r. rvlc_delimiter l n m r))

unfoldable pub rvlc_run : ℕ → Bits → Res Event
rvlc_run l b =
    bind (field 6 b) (λ n r.
    bind (marker EscapeMarkerBitMissing r) (λ _ r. rvlc_magnitude l n r))

-- after the escape
unfoldable pub rvlc_escaped : Bits → Res Event
rvlc_escaped b = bind (field 1 b) (λ l r. rvlc_run l r)

unfoldable pub rvlc_event : Bits → Res Event
rvlc_event b = bind (code rvlc_codes rvlc_lens 16 170 InvalidTcoef b) (λ i r. cond (eqb i 169) (rvlc_escaped r) (sign Reversible i r))

-- ---- the coding in use
unfoldable pub event : Bool → Bits → Res Event
event false b = plain_event b
event true b = rvlc_event b
