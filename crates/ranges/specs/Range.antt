-- The ranges that document 01 names, as tests, and the limits of a depth. Definitions only.
use Rattle.std.specs.Prelude.{Bool, ◌&&◌, [], ◌∷◌, ℕ, ◌+◌, ◌^◌, leb, ℤ, nat_abs, negsuc, neg_ℤ, pos, ◌-ℤ◌, None, Option, Some}
use Rattle.std.specs.Int.Signed.{le_z}
use Rattle.numbers.specs.Limit.{clamp_z}
use Rattle.numbers.specs.Outcome.{Outcome, accepted, checked, refused}

-- lo ≤ z ≤ hi
abbrev pub within : ℤ → ℤ → ℤ → Bool
within lo hi z = le_z lo z && le_z z hi

-- bits per pixel: 4 to 12 (6.3.3)
abbrev pub depth_fine : ℕ → Bool
depth_fine d = leb 4 d && leb d 12

-- a quantiser scale, the present one or a neighbour's: 1 to 31
abbrev pub quantiser_fine : ℕ → Bool
quantiser_fine q = leb 1 q && leb q 31

-- a quantiser scale after a change, limited to the same (6.3.6)
abbrev pub limited_quantiser : ℤ → ℕ
limited_quantiser z = nat_abs (clamp_z z (pos 1) (pos 31))

-- a level QF: -2048 to 2047 (7.4.3.4)
abbrev pub level_fine : ℤ → Bool
level_fine z = within (negsuc 2047) (pos 2047) z

-- a difference of DC levels: -4095 to 4095, which is what 12 bits can say (Table B.15)
abbrev pub difference_fine : ℤ → Bool
difference_fine z = within (negsuc 4094) (pos 4095) z

-- a neighbour's dequantised DC: -65,536 to 65,536
abbrev pub dc_fine : ℤ → Bool
dc_fine z = within (negsuc 65535) (pos 65536) z

-- ---- limits

-- -2 ^ b and 2 ^ b - 1
abbrev pub lowest : ℕ → ℤ
lowest b = neg_ℤ (pos (2 ^ b))

abbrev pub highest : ℕ → ℤ
highest b = pos (2 ^ b) -ℤ pos 1

-- the limits that an answer tells, or 12
abbrev pub limits_outcome : Option (ℤ × ℤ) → Outcome (ℤ × ℤ)
limits_outcome (Some (lo, hi)) = accepted (lo, hi)
limits_outcome None = refused 12 0

-- dequantised values of a depth (7.4.4.4), and what the transform of one gives (7.4.5)
abbrev pub value_limits : ℕ → Outcome (ℤ × ℤ)
value_limits depth = checked ((depth_fine depth, 12) ∷ []) (accepted (lowest (depth + 3), highest (depth + 3)))

abbrev pub saturation_limits : ℕ → Outcome (ℤ × ℤ)
saturation_limits depth = checked ((depth_fine depth, 12) ∷ []) (accepted (lowest depth, highest depth))
