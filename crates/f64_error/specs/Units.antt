-- An f64 as a whole number of units of 2 ^ -1074, the least that binary64 holds; 1.0 stays shut behind a name. Definitions only.
use Rattle.std.specs.Prelude.{Bool, true, false, ◌≡◌, ℕ, ◌*◌, ◌^◌, ◌≤◌, Float, ℤ, pos, neg_ℤ, nat_abs}
use Rattle.std.specs.Float.{nan, inf, fin, Format, binary64}
use Rattle.std.specs.Float.Ieee.{low, up as numer, down as denom}

-- n with a sign
abbrev pub sgn : Bool → ℕ → ℤ
sgn false n = pos n
sgn true n = neg_ℤ (pos n)

-- x is finite, and it is v of the format's units
abbrev pub Val : Format → Float → ℤ → Type 0
Val f nan v = ⊥
Val f (inf s) v = ⊥
Val f (fin s m e) v = (n : ℕ) × (m * numer e * 2 ^ low f ≡ n * denom e) × (v ≡ sgn s n)

-- the same at binary64
unfoldable pub Is : Float → ℤ → Type 0
Is x v = Val binary64 x v

-- 1.0, in units
unfoldable pub one : ℕ
one = 2 ^ 1074

-- x is finite and at most b units in size
pub record Bounded (x : Float) (b : ℕ) : Type 0 where
  pub v : ℤ
  pub is : Is x v
  pub size : nat_abs v ≤ b
