-- Mismatch control (7.4.4.5) makes value (7, 7) what the clause's own words say, and leaves each other one. Assumes nothing.
use mathlib.Core.Bool.{Bool, true, false, cond, not, ◌&&◌}
use mathlib.Core.List.{List}
use mathlib.Core.Path.{◌≡◌, refl, ◌∙◌}
use Prim.Native.Nat.{ℕ, ◌<◌}
use native.Mathlib.Omega.{arith}
use lib.IntN.{ℤ, pos, ◌+ℤ◌, ◌-ℤ◌}
use Rattle.numbers.specs.Grid.{cell}
use Rattle.numbers.proofs.Fill.{cell-block}
use Rattle.numbers.proofs.Tests.{and-false}
use Rattle.mismatch.specs.Mismatch.{controlled, even, flipped, is_last, mismatched, sum_of}

abbrev cells : List (List ℤ) → ℕ → ℕ → ℤ
cells f v u = cond (even (sum_of f) && is_last v u) (flipped (cell f v u)) (cell f v u)

-- odd is asked for even, so the arms of both tests change places
turned : (s t : Bool) (z : ℤ) → cond (s && true) (cond t (z +ℤ pos 1) (z -ℤ pos 1)) z ≡ cond (not s) z (cond (not t) (z -ℤ pos 1) (z +ℤ pos 1))
turned true true z = refl
turned true false z = refl
turned false t z = refl

-- value (7, 7), and each other one
pub in_its_words : (f : List (List ℤ)) → cell (mismatched f) 7 7 ≡ controlled (sum_of f) (cell f 7 7)
in_its_words f = cell-block (cells f) 7 7 (omega arith) (omega arith) ∙ turned (even (sum_of f)) (even (cell f 7 7)) (cell f 7 7)

pub others_stay : (f : List (List ℤ)) (v u : ℕ) → v < 8 → u < 8 → is_last v u ≡ false → cell (mismatched f) v u ≡ cell f v u
others_stay f v u p q e = cell-block (cells f) v u p q ∙ rw (e, and-false (even (sum_of f)))
