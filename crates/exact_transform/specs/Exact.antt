-- The exact transform: the double sum of Annex A.1 over the constants as the f64s have them, and how near a whole number is to it. Definitions only.
use Rattle.std.specs.Prelude.{List, ℕ, ◌+◌, ◌^◌, ◌≤◌, ◌<◌, ℤ, pos, nat_abs, ◌-ℤ◌, ◌*ℤ◌}
use Rattle.numbers.specs.Grid.{cell}
use Rattle.f64_error.specs.Series.{block_z}
use Rattle.cosines.specs.Cosines.{c_z, cos_z}

-- 2 ^ 222 times 1/4 of the sum over v and u of C(u) C(v) F(v, u) cos((2x + 1) u pi / 16) cos((2y + 1) v pi / 16): four factors of 2 ^ -55, and 1/4
abbrev pub exact : List (List ℤ) → ℕ → ℕ → ℤ
exact l y x = block_z c_z cos_z (cell l) y x

-- n is within 1/2 + 1/2 ^ 24 of z / 2 ^ 222, as document 01 asks
abbrev pub Near : ℤ → ℤ → Type 0
Near n z = nat_abs (n *ℤ pos (2 ^ 222) -ℤ z) ≤ 2 ^ 221 + 2 ^ 198

-- n is within 1/2 + 1/2 ^ 26 of it
abbrev pub Within : ℤ → ℤ → Type 0
Within n z = nat_abs (n *ℤ pos (2 ^ 222) -ℤ z) ≤ 2 ^ 221 + 2 ^ 196

-- each of the 64 values is at most 2 ^ 15 in size
abbrev pub Modest : List (List ℤ) → Type 0
Modest l = (v u : ℕ) → v < 8 → u < 8 → nat_abs (cell l v u) ≤ 32768
