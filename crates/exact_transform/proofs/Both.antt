-- The sum of two halves at a place below 4, and their difference at its mirror. Assumes nothing.
use mathlib.Core.Bool.{Bool, cond}
use mathlib.Core.Logic.{⊎_elim}
use mathlib.Core.Path.{◌≡◌, sym, ap, ◌∙◌}
use Prim.Native.Nat.{ℕ, ◌-◌, ◌≤◌, ◌<◌}
use native.Mathlib.Omega.{arith}
use lib.Ieee.{Float, binary64, add, sub}
use borrow.Author.Tests.{le-ltb, lt-ltb}
use Rattle.numbers.proofs.Fill.{lt-or-le}
use Rattle.eights.specs.Eights.{both_at}

module _ (e o : ℕ → Float) where
  pub both_low : (i : ℕ) → i < 4 → add binary64 (e i) (o i) ≡ both_at e o i
  both_low i h = sym (ap (λ (b : Bool). cond b (add binary64 (e i) (o i)) (sub binary64 (e (7 - i)) (o (7 - i)))) (lt-ltb i 4 h))

  pub both_high : (i : ℕ) → i < 4 → sub binary64 (e i) (o i) ≡ both_at e o (7 - i)
  both_high i h =
      let z : i ≡ 7 - (7 - i) = omega arith in
      ap (λ (j : ℕ). sub binary64 (e j) (o j)) z
      ∙ sym (ap (λ (b : Bool). cond b (add binary64 (e (7 - i)) (o (7 - i))) (sub binary64 (e (7 - (7 - i))) (o (7 - (7 - i))))) (le-ltb (7 - i) 4 (omega arith)))

-- by their first four places
pub both_eq : (e o e' o' : ℕ → Float) (i : ℕ) → i < 8 → ((k : ℕ) → k < 4 → e k ≡ e' k) → ((k : ℕ) → k < 4 → o k ≡ o' k) → both_at e o i ≡ both_at e' o' i
both_eq e o e' o' i h a b =
    ⊎_elim
    (λ (l : i < 4). sym (both_low e o i l) ∙ ap (λ (y : Float). add binary64 y (o i)) (a i l) ∙ ap (λ (y : Float). add binary64 (e' i) y) (b i l) ∙ both_low e' o' i l)
    (λ (l : 4 ≤ i).
    let k : i ≡ 7 - (7 - i) = omega arith in
    let m : 7 - i < 4 = omega arith in
    ap (both_at e o) k
    ∙ sym (both_high e o (7 - i) m)
    ∙ ap (λ (y : Float). sub binary64 y (o (7 - i))) (a (7 - i) m)
    ∙ ap (λ (y : Float). sub binary64 (e' (7 - i)) y) (b (7 - i) m)
    ∙ both_high e' o' (7 - i) m
    ∙ ap (both_at e' o') (sym k))
    (lt-or-le i 4)
