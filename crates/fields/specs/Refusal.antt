-- The refusals of reading: document 01's number and figure of each. Definitions only.
use Rattle.std.specs.Prelude.{ℕ}
use Rattle.fields.specs.declared.error.TextureParseError.{TextureParseError}
use Rattle.fields.specs.declared.error.TextureParseError.TheVariants.{Truncated, InvalidDcSize, MarkerBitMissing, InvalidTcoef, EscapeMarkerBitMissing, ReservedEscapeLevel, RvlcEscapeDelimiterMissing, Overflow, OutOfRange, EndedInsideCode, InvalidHeader}

abbrev pub number_of : TextureParseError → ℕ
number_of Truncated = 1
number_of (InvalidDcSize w) = 2
number_of MarkerBitMissing = 3
number_of (InvalidTcoef w) = 4
number_of EscapeMarkerBitMissing = 5
number_of ReservedEscapeLevel = 6
number_of (RvlcEscapeDelimiterMissing w) = 7
number_of (Overflow p) = 8
number_of OutOfRange = 11
number_of EndedInsideCode = 17
number_of InvalidHeader = 16

-- the window of 2, 4 and 7, the landing of 8; the others have no figure, told as 0
abbrev pub figure_of : TextureParseError → ℕ
figure_of Truncated = 0
figure_of (InvalidDcSize w) = w
figure_of MarkerBitMissing = 0
figure_of (InvalidTcoef w) = w
figure_of EscapeMarkerBitMissing = 0
figure_of ReservedEscapeLevel = 0
figure_of (RvlcEscapeDelimiterMissing w) = w
figure_of (Overflow p) = p
figure_of OutOfRange = 0
figure_of EndedInsideCode = 0
figure_of InvalidHeader = 0
