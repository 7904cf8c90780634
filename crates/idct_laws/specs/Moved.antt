-- Fractions in place of the transform's constants, near the table's or near the true ones, and what is near the transform worked with them. Definitions only.
use Rattle.std.specs.Prelude.{ℕ, ◌+◌, ◌*◌, ◌^◌, ◌≤◌, ◌<◌, T, ℤ, pos, nat_abs, ◌-ℤ◌, ◌*ℤ◌}
use Rattle.cosines.specs.Cosines.{turn, c_z, cos_z}
use Rattle.idct_laws.specs.Roots.{near_cosine, factor_turn}

-- c / d is within e / 2 ^ 55 of a / 2 ^ 55
abbrev pub Moved : ℕ → ℕ → ℤ → ℤ → Type 0
Moved e d c a = nat_abs (c *ℤ pos (2 ^ 55) -ℤ a *ℤ pos d) ≤ d * e

-- c(u) / d and k(u, x) / d are within e / 2 ^ 55 of the table's C(u) and cos((2x + 1) u pi / 16)
pub record Constants (e d : ℕ) (c : ℕ → ℤ) (k : ℕ → ℕ → ℤ) : Type 0 where
  pub some : 0 < d
  pub factor : (u : ℕ) → u < 8 → Moved e d (c u) (c_z u)
  pub cosine : (u x : ℕ) → u < 8 → x < 8 → Moved e d (k u x) (cos_z u x)

-- the same of the true ones
pub record TrueConstants (e d : ℕ) (c : ℕ → ℤ) (k : ℕ → ℕ → ℤ) : Type 0 where
  pub some : 0 < d
  pub factor : (u : ℕ) → u < 8 → T (near_cosine e (c u) d (factor_turn u))
  pub cosine : (u x : ℕ) → u < 8 → x < 8 → T (near_cosine e (k u x) d (turn u x))

-- each term of the double sum has four of them: it counts in units of 1 / d ^ 4, and its quarter in those of 1 / (4 d ^ 4)
abbrev pub fourth : ℕ → ℕ
fourth d = d * d * d * d

-- z / 2 ^ 222 is within 1/2 ^ 31 of w / (4 d ^ 4)
abbrev pub NearOf : ℕ → ℤ → ℤ → Type 0
NearOf d z w = nat_abs (w *ℤ pos (2 ^ 222) -ℤ z *ℤ pos (4 * fourth d)) * 2 ^ 31 ≤ 2 ^ 222 * (4 * fourth d)

-- n is within 1/2 + 1/2 ^ 24 of w / (4 d ^ 4)
abbrev pub WithinOf : ℕ → ℤ → ℤ → Type 0
WithinOf d n w = nat_abs (n *ℤ pos (4 * fourth d) -ℤ w) * 2 ^ 24 ≤ (2 ^ 23 + 1) * (4 * fourth d)

-- w / (4 d ^ 4) is within 1/2 ^ 28 of k + 1/2
abbrev pub HalfWayOf : ℕ → ℤ → ℤ → Type 0
HalfWayOf d k w = nat_abs (w -ℤ k *ℤ pos (4 * fourth d) -ℤ pos (2 * fourth d)) * 2 ^ 28 ≤ 4 * fourth d
