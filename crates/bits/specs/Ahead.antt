-- The next 32 bits at once. Definitions only.
use Rattle.std.specs.Prelude.{false, List, ◌++◌, ℕ, replicate, take}
use Rattle.bits.specs.Bits.{Bits, bits_from, val}

-- the 32 bits from a position on, zeros past the end of the data
unfoldable pub window : List ℕ → ℕ → Bits
window d at = take 32 (bits_from d at ++ replicate 32 false)

-- and the number that they write
abbrev pub ahead_of : List ℕ → ℕ → ℕ
ahead_of d at = val (window d at)
