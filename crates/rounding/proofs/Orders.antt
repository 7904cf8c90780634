-- A finite float is at most another that is not negative exactly where that one is not below it. Assumes nothing.
use mathlib.Core.Bool.{Bool, true, false, not, ◌&&◌, ◌||◌}
use mathlib.Core.Logic.{⊎_elim}
use mathlib.Core.Path.{◌≡◌, sym}
use Prim.Native.Nat.{ℕ, ◌+◌, ◌*◌, ◌≤◌, ◌<◌}
use native.Mathlib.Nat.{eq-or-lt_of_le}
use native.Mathlib.Omega.{arith}
use lib.Dec.{eqb, ltb}
use lib.Ieee.{fin, up, down, below, level, lt, eq, le}
use lib.IntN.{ℤ}
use borrow.Author.Tests.{eq-eqb, le-ltb, lt-ltb, ne_eqb}
use Rattle.numbers.proofs.Fill.{lt-or-le}

same_sign : (a b : ℕ) → (ltb a b || (eqb a b && true)) ≡ not (ltb b a)
same_sign a b =
    ⊎_elim (λ (l : a < b). rw (lt-ltb a b l, le-ltb b a (omega arith)))
    (λ (l : b ≤ a).
    ⊎_elim (λ (z : b ≡ a). rw (le-ltb a b l, eq-eqb a b (sym z), le-ltb b a (omega arith)))
    (λ (z : b < a). rw (le-ltb a b l, ne_eqb a b (λ (w : a ≡ b). omega arith), lt-ltb b a z))
    (eq-or-lt_of_le l))
    (lt-or-le a b)

other_sign : (a b : ℕ) → (ltb 0 (a + b) || (eqb a b && eqb a 0)) ≡ true
other_sign a b =
    ⊎_elim (λ (l : 0 < a + b). rw (lt-ltb 0 (a + b) l))
    (λ (l : a + b ≤ 0). rw (le-ltb 0 (a + b) l, eq-eqb a b (omega arith), eq-eqb a 0 (omega arith)))
    (lt-or-le 0 (a + b))

at_most : (s : Bool) (a b : ℕ) → (below s a false b || level s a false b) ≡ not (below false b s a)
at_most false a b = same_sign a b
at_most true a b = other_sign a b

pub le_not_lt : (s : Bool) (m : ℕ) (e : ℤ) (n : ℕ) (d : ℤ) → le (fin s m e) (fin false n d) ≡ not (lt (fin false n d) (fin s m e))
unfolding le lt eq
le_not_lt s m e n d = at_most s (m * up e * down d) (n * up d * down e)
