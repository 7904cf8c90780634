-- The reader of a DC part, in reading order: 1, 17 or 2 with the window, 3. Definitions only.
use Rattle.std.specs.Prelude.{cond, ℕ, leb}
use Rattle.bits.specs.Bits.{Bits}
use Rattle.codes.specs.DcSize.{dc_codes, dc_lens}
use Rattle.codes.specs.declared.dc_size.DcComponent.{DcComponent}
use Rattle.dc_parts.specs.Dc.{Dc, dc, size_at}
use Rattle.fields.specs.Reader.{Res, ok, bind, field, code, marker}
use Rattle.fields.specs.declared.error.TextureParseError.TheVariants.{InvalidDcSize, MarkerBitMissing}

-- the bits after the code, and the marker
unfoldable pub dc_tail : ℕ → Bits → Res ℕ
dc_tail size b = bind (field size b) (λ a r. cond (leb size 8) (ok a r) (bind (marker MarkerBitMissing r) (λ _ r. ok a r)))

unfoldable pub read_dc : DcComponent → Bits → Res Dc
read_dc c b = bind (code (dc_codes c) (dc_lens c) 13 13 InvalidDcSize b) (λ i r. bind (dc_tail (size_at c i) r) (λ a r. ok (dc i a) r))
