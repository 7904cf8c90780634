-- How far the places of a block reach. Definitions only.
use Rattle.std.specs.Prelude.{cond, List, map, ℕ, zero, suc, eqb, leb, ℤ, nat_abs, pos, get_or}

-- of the first n places, how many there are up to the last that is not 0
unfoldable pub reach : List ℤ → ℕ → ℕ
reach qfs zero = zero
reach qfs (suc n) = cond (eqb (nat_abs (get_or qfs n (pos 0))) 0) (reach qfs n) (suc n)

-- an end of 64 places, from which on all are 0: 1 where none after the first is not, else 64
unfoldable pub end_of : List ℤ → ℕ
end_of qfs = cond (leb (reach qfs 64) 1) 1 64

abbrev pub ends_of : List (List ℤ) → List ℕ
ends_of rows = map end_of rows
