-- A number read digit by digit with a flag for one that is over the most. Assumes nothing.
use mathlib.Core.Bool.{Bool, false, true}
use mathlib.Core.List.{List}
use mathlib.Core.Path.{◌≡◌, ◌∙◌, ap, subst, sym}
use Prim.Native.Nat.{◌*◌, ◌+◌, ◌-◌, ◌<◌, ◌≤◌, ℕ}
use native.Mathlib.Omega.{arith}
use borrow.Author.Tests.{ltb-false, ltb-true}
use lib.Dec.{ltb}
use lib.ListN.{get_or, length}
use Rattle.forms.proofs.NumberLaws.{value_grows}
use Rattle.forms.proofs.PartLaws.{part_cons, part_none}
use Rattle.forms.specs.Reading.{part}
use Rattle.forms.specs.Words.{value_after}

-- what is told of a word's bytes, of which those before k were read: up to here they are digits, and they give v, or are over the most
abbrev pub Told : ℕ → List ℕ → ℕ → ℕ → Bool → ℕ → ℕ → Type 0
Told most l from to false v k = (v ≤ most) × (value_after 0 (part l from to) ≡ value_after v (part l k to))
Told most l from to true v k = most < value_after 0 (part l from to)

pub told_of_lem : (most : ℕ) (l : List ℕ) (from to k v : ℕ) {over t : Bool} → over ≡ t → Told most l from to over v k → Told most l from to t v k
told_of_lem most l from to k v e = subst (λ (t : Bool). Told most l from to t v k) e

module _ (l : List ℕ) (from to k : ℕ) (h : k < to) (in-line : to ≤ length l) where
  told-next : (most v : ℕ) (over : Bool) → Told most l from to false v k → over ≡ ltb most (10 * v + (get_or l k 0 - 48)) → Told most l from to over (10 * v + (get_or l k 0 - 48)) (k + 1)
  unfolding value_after
  told-next most v false t e = (ltb-false most (10 * v + (get_or l k 0 - 48)) (sym e), t.1 ∙ ap (value_after v) (part_cons l k to h in-line))
  told-next most v true t e =
      let is : value_after 0 (part l from to) ≡ value_after (10 * v + (get_or l k 0 - 48)) (part l (k + 1) to) = t.1 ∙ ap (value_after v) (part_cons l k to h in-line) in
      omega (arith, ltb-true most (10 * v + (get_or l k 0 - 48)) (sym e), value_grows (10 * v + (get_or l k 0 - 48)) (part l (k + 1) to))

  -- one digit more
  pub told_on : (most v v' : ℕ) (over : Bool) → Told most l from to false v k → v' ≡ 10 * v + (get_or l k 0 - 48) → over ≡ ltb most (10 * v + (get_or l k 0 - 48)) → Told most l from to over v' (k + 1)
  told_on most v v' over t is e = subst (λ (x : ℕ). Told most l from to over x (k + 1)) (sym is) (told-next most v over t e)

  -- over already
  pub told_over : (most v v' : ℕ) (over over' : Bool) → over ≡ true → Told most l from to over v k → over' ≡ over → Told most l from to over' v' (k + 1)
  told_over most v v' over over' e t is = subst (λ (x : Bool). Told most l from to x v' (k + 1)) (sym (is ∙ e)) (subst (λ (x : Bool). Told most l from to x v k) e t)

-- all bytes read
pub told_all_lem : (most : ℕ) (l : List ℕ) (from to v k : ℕ) → to ≤ k → Told most l from to false v k → value_after 0 (part l from to) ≡ v
unfolding value_after
told_all_lem most l from to v k h t = t.1 ∙ ap (value_after v) (part_none l k to h)
