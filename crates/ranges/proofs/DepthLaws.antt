-- A depth that is fine, and its limits. Assumes nothing.
use mathlib.Core.Bool.{Bool, cond, false, true}
use mathlib.Core.Path.{◌≡◌, ap, refl, sym, ◌∙◌}
use Prim.Native.Nat.{ℕ, ◌+◌}
use native.Mathlib.Omega.{arith}
use lib.IntN.{ℤ}
use Rattle.numbers.specs.Outcome.{Outcome, accepted, refused}
use Rattle.ranges.specs.Range.{depth_fine, highest, limits_outcome, lowest, saturation_limits, value_limits}
use Rattle.std.proofs.lemmas.Option.{some_pair_parts}
use Rattle.std.specs.Prelude.{None, Option, Some}

-- the limits of a depth that is fine, and of one that is not
pub limits_fine : (lo hi : ℤ) (b : Bool) → b ≡ true → limits_outcome (Some (lo, hi)) ≡ cond b (accepted (lo, hi)) (refused 12 0)
limits_fine lo hi b e = sym (ap (λ (t : Bool). cond t (accepted (lo, hi)) (refused 12 0)) e)

pub limits_not : (o : Outcome (ℤ × ℤ)) (b : Bool) → b ≡ false → limits_outcome None ≡ cond b o (refused 12 0)
limits_not o b e = sym (ap (λ (t : Bool). cond t o (refused 12 0)) e)

-- an outcome tells its answer
abbrev limits_by : Outcome (ℤ × ℤ) → Option (ℤ × ℤ)
limits_by (accepted p) = Some (p.0, p.1)
limits_by (refused n f) = None

limits_by_lem : (r : Option (ℤ × ℤ)) → r ≡ limits_by (limits_outcome r)
limits_by_lem (Some (lo, hi)) = refl
limits_by_lem None = refl

pub limits_apart : (r s : Option (ℤ × ℤ)) → limits_outcome r ≡ limits_outcome s → r ≡ s
limits_apart r s e = limits_by_lem r ∙ ap limits_by e ∙ sym (limits_by_lem s)

-- ---- the answer to a fine depth, and what each arm of a match on it knows

values-told : (d : ℕ) (r : Option (ℤ × ℤ)) → depth_fine d ≡ true → limits_outcome r ≡ value_limits d → r ≡ Some (lowest (d + 3), highest (d + 3))
values-told d r f e = limits_apart r (Some (lowest (d + 3), highest (d + 3))) (e ∙ ap (λ (t : Bool). cond t (accepted (lowest (d + 3), highest (d + 3))) (refused 12 0)) f)

saturation_told : (d : ℕ) (r : Option (ℤ × ℤ)) → depth_fine d ≡ true → limits_outcome r ≡ saturation_limits d → r ≡ Some (lowest d, highest d)
saturation_told d r f e = limits_apart r (Some (lowest d, highest d)) (e ∙ ap (λ (t : Bool). cond t (accepted (lowest d, highest d)) (refused 12 0)) f)

never : (r : Option (ℤ × ℤ)) (a c : ℤ) → r ≡ Some (a, c) → r ≡ None → ⊥
never r a c p q = let z : ◌≡◌ {A = ℕ} 0 1 = cc in omega arith

module _ (d : ℕ) (r : Option (ℤ × ℤ)) (fine : depth_fine d ≡ true) where
  module _ (e : limits_outcome r ≡ value_limits d) where
    pub values-are : (lo hi : ℤ) → r ≡ Some (lo, hi) → (lo ≡ lowest (d + 3)) × (hi ≡ highest (d + 3))
    values-are lo hi g = some_pair_parts lo (lowest (d + 3)) hi (highest (d + 3)) (sym g ∙ values-told d r fine e)

    pub values_never : r ≡ None → ⊥
    values_never g = never r (lowest (d + 3)) (highest (d + 3)) (values-told d r fine e) g

  module _ (e : limits_outcome r ≡ saturation_limits d) where
    pub samples-are : (lo hi : ℤ) → r ≡ Some (lo, hi) → (lo ≡ lowest d) × (hi ≡ highest d)
    samples-are lo hi g = some_pair_parts lo (lowest d) hi (highest d) (sym g ∙ saturation_told d r fine e)

    pub samples_never : r ≡ None → ⊥
    samples_never g = never r (lowest d) (highest d) (saturation_told d r fine e) g
