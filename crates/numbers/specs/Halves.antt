-- The two halves of an integer: what it has above zero and what it has below. Definitions only.
use Rattle.std.specs.Prelude.{ℕ, suc, ℤ, negsuc, pos}

-- z where z is positive, else 0
abbrev pub up : ℤ → ℕ
up (pos n) = n
up (negsuc n) = 0

-- -z where z is negative, else 0
abbrev pub dn : ℤ → ℕ
dn (pos n) = 0
dn (negsuc n) = suc n
