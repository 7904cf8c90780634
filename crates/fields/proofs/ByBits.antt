-- The steps of reading refuse by 1 to 8, 16 and 17 alone: 11 is told before any bit. Assumes nothing.
use mathlib.Core.Bool.{Bool, cond, false, true}
use mathlib.Core.List.{List}
use Prim.Native.Nat.{ℕ}
use lib.Dec.{eqb, leb, ltb}
use lib.ListN.{length}
use Rattle.bits.specs.Bits.{Bits}
use Rattle.codes.specs.Table.{cut_at, row_at}
use Rattle.fields.specs.Reader.{Res, bind, code, field, marker, no, ok}
use Rattle.fields.specs.declared.error.TextureParseError.{TextureParseError}
use Rattle.fields.specs.declared.error.TextureParseError.TheVariants.{EndedInsideCode, EscapeMarkerBitMissing, InvalidDcSize, InvalidHeader, InvalidTcoef, MarkerBitMissing, OutOfRange, Overflow, ReservedEscapeLevel, RvlcEscapeDelimiterMissing, Truncated}

-- a refusal of bits: any but 11
abbrev pub OfBits : TextureParseError → Type 0
OfBits Truncated = Unit {0}
OfBits (InvalidDcSize w) = Unit {0}
OfBits MarkerBitMissing = Unit {0}
OfBits (InvalidTcoef w) = Unit {0}
OfBits EscapeMarkerBitMissing = Unit {0}
OfBits ReservedEscapeLevel = Unit {0}
OfBits (RvlcEscapeDelimiterMissing w) = Unit {0}
OfBits (Overflow p) = Unit {0}
OfBits OutOfRange = ⊥
OfBits EndedInsideCode = Unit {0}
OfBits InvalidHeader = Unit {0}

abbrev pub ByBits : {A : Type 0} → Res A → Type 0
ByBits (ok a r) = Unit {0}
ByBits (no e) = OfBits e

-- ---- how readers are put together

pub then : {A B : Type 0} (m : Res A) (k : A → Bits → Res B) → ByBits m → ((a : A) (r : Bits) → ByBits (k a r)) → ByBits (bind m k)
then (ok a r) k h g = g a r
then (no e) k h g = h

pub either : {A : Type 0} (t : Bool) (x y : Res A) → ByBits x → ByBits y → ByBits (cond t x y)
either true x y h g = h
either false x y h g = g

-- ---- steps

pub field_by_bits : (n : ℕ) (b : Bits) → ByBits (field n b)
unfolding field
field_by_bits n b = either (leb n (length b)) _ _ tt tt

no_code_by_bits : (t : Bool) (e : TextureParseError) → OfBits e → OfBits (cond t EndedInsideCode e)
no_code_by_bits true e h = tt
no_code_by_bits false e h = h

pub code_by_bits : (cs ls : List ℕ) (width rows : ℕ) (err : ℕ → TextureParseError) (b : Bits) → ((w : ℕ) → OfBits (err w)) → ByBits (code cs ls width rows err b)
unfolding code
code_by_bits cs ls width rows err b h = either (eqb (length b) 0) _ _ tt (either (ltb (row_at cs ls width rows b) rows) _ _ tt (no_code_by_bits (cut_at cs ls rows b) _ (h _)))

pub marker_by_bits : (err : TextureParseError) (b : Bits) → OfBits err → ByBits (marker err b)
unfolding marker
marker_by_bits err b h = then (field 1 b) _ (field_by_bits 1 b) (λ m r. either (eqb m 1) _ _ tt h)
