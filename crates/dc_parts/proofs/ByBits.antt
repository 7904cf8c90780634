-- Reading a DC part refuses by 1 to 3 and 17 alone: 11 is told before any bit. Assumes nothing.
use Prim.Native.Nat.{ℕ}
use lib.Dec.{leb}
use Rattle.bits.specs.Bits.{Bits}
use Rattle.codes.specs.DcSize.{dc_codes, dc_lens}
use Rattle.codes.specs.declared.dc_size.DcComponent.{DcComponent}
use Rattle.dc_parts.specs.Dc.{size_at}
use Rattle.dc_parts.specs.DcReader.{dc_tail, read_dc}
use Rattle.fields.proofs.ByBits.{ByBits, code_by_bits, either, field_by_bits, marker_by_bits, then}
use Rattle.fields.specs.Reader.{code, field, marker}
use Rattle.fields.specs.declared.error.TextureParseError.TheVariants.{InvalidDcSize, MarkerBitMissing}

tail_by_bits : (size : ℕ) (b : Bits) → ByBits (dc_tail size b)
unfolding dc_tail
tail_by_bits size b = then (field size b) _ (field_by_bits size b) (λ a r. either (leb size 8) _ _ tt (then (marker MarkerBitMissing r) _ (marker_by_bits MarkerBitMissing r tt) (λ m r. tt)))

pub dc_by_bits : (c : DcComponent) (b : Bits) → ByBits (read_dc c b)
unfolding read_dc
dc_by_bits c b =
    then (code (dc_codes c) (dc_lens c) 13 13 InvalidDcSize b) _ (code_by_bits (dc_codes c) (dc_lens c) 13 13 InvalidDcSize b (λ w. tt))
    (λ i r. then (dc_tail (size_at c i) r) _ (tail_by_bits (size_at c i) r) (λ a r. tt))
