-- A test of a list, one element a turn and no turn left out: what the tests so far say, with those that are left. Assumes nothing.
use mathlib.Core.Bool.{Bool, true, ◌&&◌, and_assoc, and-true}
use mathlib.Core.List.{List, [], ◌∷◌}
use mathlib.Core.Path.{◌≡◌, refl, sym, ap, ◌∙◌}
use Prim.Native.Nat.{ℕ, ◌+◌, ◌≤◌, ◌<◌}
use native.Mathlib.Numerals.{add-one}
use native.Mathlib.Omega.{arith}
use lib.ListN.{length, get_or, drop, length-drop}
use lib.Seq.{drop-cons}
use Rattle.numbers.specs.Every.{every}

module _ {A : Type 0} (p : A → Bool) (d : A) (l : List A) (t : Bool) where
  next : (i : ℕ) → i < length l → every p (drop i l) ≡ (p (get_or l i d) && every p (drop (i + 1) l))
  next i h = ap (every p) (drop-cons l i d h) ∙ ap (λ (k : ℕ). p (get_or l i d) && every p (drop k l)) (sym (add-one i))

  none_left : (i : ℕ) → length l ≤ i → every p (drop i l) ≡ true
  none_left i h = ap (every p) (nothing (drop i l) (omega (arith, length-drop i l)))
    where
      nothing : (m : List A) → length m ≤ 0 → m ≡ []
      nothing [] z = refl
      nothing (x ∷ m) z = absurd (omega arith)

  -- t is b, the tests so far, and those from i on
  pub test_more : (i : ℕ) (b c : Bool) → i < length l → t ≡ (b && every p (drop i l)) → c ≡ p (get_or l i d) → t ≡ (b && c && every p (drop (i + 1) l))
  test_more i b c h e s = e ∙ ap (λ (r : Bool). b && r) (next i h ∙ ap (λ (r : Bool). r && every p (drop (i + 1) l)) (sym s)) ∙ sym (and_assoc b c (every p (drop (i + 1) l)))

  pub test_done : (i : ℕ) (b : Bool) → length l ≤ i → t ≡ (b && every p (drop i l)) → b ≡ t
  test_done i b h e = sym (e ∙ ap (λ (r : Bool). b && r) (none_left i h) ∙ and-true b)
