-- Answers and tests of the state by numbers. Assumes nothing.
use mathlib.Core.Bool.{Bool, cond, false, true, ◌&&◌}
use mathlib.Core.List.{List, [], ◌∷◌}
use mathlib.Core.Path.{◌≡◌, ap, refl, ◌∙◌}
use Prim.Native.Nat.{ℕ}
use Rattle.numbers.specs.Outcome.{Outcome, checked, first_of, refused}

-- tests with refusals, by the numbers of these
abbrev pub numbered : {E : Type 0} → (E → ℕ) → List (Bool × E) → List (Bool × ℕ)
numbered n [] = []
numbered n (t ∷ ts) = (t.0, n t.1) ∷ numbered n ts

-- each has no figure
abbrev pub Figureless : {E : Type 0} → (E → ℕ) → List (Bool × E) → Type 0
Figureless f [] = Unit {0}
Figureless f (t ∷ ts) = (f t.1 ≡ 0) × Figureless f ts

-- a map of answers that gives a refusal its number and figure turns the first refusal into the first number
pub by_numbers : {A E R : Type 0} (told : R → Outcome A) (k : E → R) (r : R) (n f : E → ℕ) → ((e : E) → told (k e) ≡ refused (n e) (f e))
    → (ts : List (Bool × E)) → Figureless f ts → told (first_of k r ts) ≡ checked (numbered n ts) (told r)
by_numbers told k r n f h [] z = refl
by_numbers told k r n f h (t ∷ ts) z = go t.0 (by_numbers told k r n f h ts z.1)
  where
    go : (b : Bool) → told (first_of k r ts) ≡ checked (numbered n ts) (told r)
        → told (cond b (first_of k r ts) (k t.1)) ≡ cond b (checked (numbered n ts) (told r)) (refused (n t.1) 0)
    go true rest = rest
    go false rest = h t.1 ∙ ap (refused (n t.1)) z.0

-- an answer that is a definition's, and so has its outcome
pub both : {R O : Type 0} (told : R → O) {r a : R} {o : O} → r ≡ a → told a ≡ o → (r ≡ a) × (told r ≡ o)
both told e h = (e, ap told e ∙ h)

-- the same beside what lent memory holds
pub also : {R O B : Type 0} (told : R → O) {r a : R} {o : O} → (r ≡ a) × B → told a ≡ o → ((r ≡ a) × B) × (told r ≡ o)
also told e h = (e, ap told e.0 ∙ h)

-- and beside one clause, or two, of lent memory
pub then : {R O B : Type 0} (told : R → O) {r a : R} {o : O} → (r ≡ a) × B → told a ≡ o → (r ≡ a) × (B × (told r ≡ o))
then told e h = (e.0, (e.1, ap told e.0 ∙ h))

pub then_2 : {R O B C : Type 0} (told : R → O) {r a : R} {o : O} → (r ≡ a) × (B × C) → told a ≡ o → (r ≡ a) × (B × (C × (told r ≡ o)))
then_2 told e h = (e.0, (e.1.0, (e.1.1, ap told e.0 ∙ h)))

-- one test, and two, under a map of answers
pub one_test : {R A : Type 0} (told : R → Outcome A) (t : Bool) (x y : R) → told (cond t x y) ≡ cond t (told x) (told y)
one_test told true x y = refl
one_test told false x y = refl

pub two_tests : {R A : Type 0} (told : R → Outcome A) (s t : Bool) (x y z : R) → told (cond s (cond t x y) z) ≡ cond s (cond t (told x) (told y)) (told z)
two_tests told true t x y z = one_test told t x y
two_tests told false t x y z = refl

-- a test that is two in one
pub three_tests : {R A : Type 0} (told : R → Outcome A) (s u t : Bool) (x y z : R) → told (cond (s && u) (cond t x y) z) ≡ cond s (cond u (cond t (told x) (told y)) (told z)) (told z)
three_tests told true u t x y z = two_tests told u t x y z
three_tests told false u t x y z = refl
