-- DC parts (7.4.1.1, Tables B.13 to B.15): how each is spelled in bits, when its fields are good, and the difference that it says. No reader is named here. Definitions only.
use Rattle.std.specs.Prelude.{cond, [], ◌++◌, ℕ, ◌-◌, ◌<◌, ◌^◌, leb, eqb, get_or, ℤ, pos, ◌+ℤ◌, ◌-ℤ◌, ◌*ℤ◌}
use Rattle.bits.specs.Bits.{Bits, bin}
use Rattle.codes.specs.DcSize.{dc_codes, dc_lens, dc_sizes}
use Rattle.codes.specs.Table.{code_bits}
use Rattle.codes.specs.declared.dc_size.DcComponent.{DcComponent}

-- a row of the size table, and the bits that follow it as a number
pub data Dc : Type 0 where
  dc : (row a : ℕ) → Dc

-- the size of a row
abbrev pub size_at : DcComponent → ℕ → ℕ
size_at c i = get_or (dc_sizes c) i 0

-- the code, `size` bits, and a marker 1 where the size is above 8 (Table B.15, note 2)
unfoldable pub dc_bits : DcComponent → Dc → Bits
dc_bits c (dc i a) = code_bits (dc_codes c) (dc_lens c) i ++ (bin (size_at c i) a ++ cond (leb (size_at c i) 8) [] (bin 1 1))

unfoldable pub GoodDc : DcComponent → Dc → Type 0
GoodDc c (dc i a) = (i < 13) × (a < 2 ^ size_at c i)

-- Table B.15: of `size` bits a, with h the half of their range, a where a ≥ h, else a + 1 - 2h; of no bits 0
abbrev pub differential_of : ℕ → ℕ → ℤ
differential_of size a = cond (eqb size 0) (pos 0) (cond (leb (2 ^ (size - 1)) a) (pos a) (pos a +ℤ pos 1 -ℤ pos 2 *ℤ pos (2 ^ (size - 1))))

unfoldable pub difference_of : DcComponent → Dc → ℤ
difference_of c (dc i a) = differential_of (size_at c i) a
