-- What a call gives, in document 01's terms: its values, with the position after them where it moves on; or the number and the figure of a refusal. Definitions only.
use Rattle.std.specs.Prelude.{Bool, cond, List, [], ◌∷◌, ℕ}

pub data Outcome (A : Type 0) : Type 0 where
  accepted : A → Outcome A
  -- a refusal without a figure tells 0
  refused : (number figure : ℕ) → Outcome A

-- tests, each with its refusal, in their order: the first that fails answers, and those after it are not asked; else what follows
abbrev pub first_of : {E R : Type 0} → (E → R) → R → List (Bool × E) → R
first_of refuse follows [] = follows
first_of refuse follows (t ∷ ts) = cond t.0 (first_of refuse follows ts) (refuse t.1)

-- tests of the state with their numbers
abbrev pub checked : {A : Type 0} → List (Bool × ℕ) → Outcome A → Outcome A
checked ts o = first_of (λ (n : ℕ). refused n 0) o ts

-- of a call whose values lie in lent memory
abbrev pub done : Outcome (Unit {0})
done = accepted tt
