-- Reading an event refuses by 1, 4 to 7 and 17 alone: 11 is told before any bit. Assumes nothing.
use mathlib.Core.Bool.{Bool, false, true}
use Prim.Native.Nat.{ℕ}
use lib.Dec.{eqb}
use Rattle.bits.specs.Bits.{Bits}
use Rattle.codes.specs.Rvlc.{rvlc_codes, rvlc_lens}
use Rattle.codes.specs.Tcoef.{vlc_codes, vlc_lens}
use Rattle.events.specs.EventReader.{escaped, event, fixed, level, longer, plain_event, run_and_level, rvlc_delimiter, rvlc_escaped, rvlc_event, rvlc_magnitude, rvlc_run, rvlc_sign, sign, signed}
use Rattle.events.specs.declared.event.RowForm.{RowForm}
use Rattle.events.specs.declared.event.RowForm.TheVariants.{Plain, Reversible, Type1, Type2}
use Rattle.fields.proofs.ByBits.{ByBits, code_by_bits, either, field_by_bits, marker_by_bits, then}
use Rattle.fields.specs.Reader.{code, field, marker}
use Rattle.fields.specs.declared.error.TextureParseError.TheVariants.{EscapeMarkerBitMissing, InvalidTcoef}

sign_by_bits : (k : RowForm) (i : ℕ) (b : Bits) → ByBits (sign k i b)
unfolding sign
sign_by_bits k i b = then (field 1 b) _ (field_by_bits 1 b) (λ s r. tt)

signed_by_bits : (k : RowForm) (b : Bits) → ByBits (signed k b)
unfolding signed
signed_by_bits k b = then (code vlc_codes vlc_lens 13 102 InvalidTcoef b) _ (code_by_bits vlc_codes vlc_lens 13 102 InvalidTcoef b (λ w. tt)) (λ i r. sign_by_bits k i r)

level_by_bits : (l n : ℕ) (b : Bits) → ByBits (level l n b)
unfolding level
level_by_bits l n b =
    then (field 12 b) _ (field_by_bits 12 b)
    (λ v r. then (marker EscapeMarkerBitMissing r) _ (marker_by_bits EscapeMarkerBitMissing r tt) (λ m r. either (eqb v 0) _ _ tt (either (eqb v 2048) _ _ tt tt)))

run_by_bits : (l : ℕ) (b : Bits) → ByBits (run_and_level l b)
unfolding run_and_level
run_by_bits l b = then (field 6 b) _ (field_by_bits 6 b) (λ n r. then (marker EscapeMarkerBitMissing r) _ (marker_by_bits EscapeMarkerBitMissing r tt) (λ m r. level_by_bits l n r))

fixed_by_bits : (b : Bits) → ByBits (fixed b)
unfolding fixed
fixed_by_bits b = then (field 1 b) _ (field_by_bits 1 b) (λ l r. run_by_bits l r)

longer_by_bits : (b : Bits) → ByBits (longer b)
unfolding longer
longer_by_bits b = then (field 1 b) _ (field_by_bits 1 b) (λ c r. either (eqb c 0) _ _ (signed_by_bits Type2 r) (fixed_by_bits r))

escaped_by_bits : (b : Bits) → ByBits (escaped b)
unfolding escaped
escaped_by_bits b = then (field 1 b) _ (field_by_bits 1 b) (λ a r. either (eqb a 0) _ _ (signed_by_bits Type1 r) (longer_by_bits r))

plain_by_bits : (b : Bits) → ByBits (plain_event b)
unfolding plain_event
plain_by_bits b =
    then (code vlc_codes vlc_lens 13 103 InvalidTcoef b) _ (code_by_bits vlc_codes vlc_lens 13 103 InvalidTcoef b (λ w. tt))
    (λ i r. either (eqb i 102) _ _ (escaped_by_bits r) (sign_by_bits Plain i r))

-- ---- a reversible one

rvlc_sign_by_bits : (l n m : ℕ) (b : Bits) → ByBits (rvlc_sign l n m b)
unfolding rvlc_sign
rvlc_sign_by_bits l n m b = then (field 1 b) _ (field_by_bits 1 b) (λ s r. either (eqb m 0) _ _ tt tt)

delimiter_by_bits : (l n m : ℕ) (b : Bits) → ByBits (rvlc_delimiter l n m b)
unfolding rvlc_delimiter
delimiter_by_bits l n m b = then (field 4 b) _ (field_by_bits 4 b) (λ w r. either (eqb w 0) _ _ (rvlc_sign_by_bits l n m r) tt)

magnitude_by_bits : (l n : ℕ) (b : Bits) → ByBits (rvlc_magnitude l n b)
unfolding rvlc_magnitude
magnitude_by_bits l n b = then (field 11 b) _ (field_by_bits 11 b) (λ m r. then (marker EscapeMarkerBitMissing r) _ (marker_by_bits EscapeMarkerBitMissing r tt) (λ k r. delimiter_by_bits l n m r))

rvlc_run_by_bits : (l : ℕ) (b : Bits) → ByBits (rvlc_run l b)
unfolding rvlc_run
rvlc_run_by_bits l b = then (field 6 b) _ (field_by_bits 6 b) (λ n r. then (marker EscapeMarkerBitMissing r) _ (marker_by_bits EscapeMarkerBitMissing r tt) (λ k r. magnitude_by_bits l n r))

rvlc_escaped_by_bits : (b : Bits) → ByBits (rvlc_escaped b)
unfolding rvlc_escaped
rvlc_escaped_by_bits b = then (field 1 b) _ (field_by_bits 1 b) (λ l r. rvlc_run_by_bits l r)

rvlc_by_bits : (b : Bits) → ByBits (rvlc_event b)
unfolding rvlc_event
rvlc_by_bits b =
    then (code rvlc_codes rvlc_lens 16 170 InvalidTcoef b) _ (code_by_bits rvlc_codes rvlc_lens 16 170 InvalidTcoef b (λ w. tt))
    (λ i r. either (eqb i 169) _ _ (rvlc_escaped_by_bits r) (sign_by_bits Reversible i r))

pub event_by_bits : (rev : Bool) (b : Bits) → ByBits (event rev b)
unfolding event
event_by_bits false b = plain_by_bits b
event_by_bits true b = rvlc_by_bits b
