-- Refusal 13 before the first block is three tests, one of each record that is there. Assumes nothing.
use mathlib.Core.Bool.{Bool, true, false, cond, ◌&&◌}
use mathlib.Core.List.{List}
use Rattle.std.specs.Prelude.{Option, None, Some}
use mathlib.Core.Path.{◌≡◌, refl, ap, sym, ◌∙◌}
use Prim.Native.Nat.{ℕ, ◌+◌, ◌*◌, ◌-◌, ◌≤◌}
use native.Mathlib.Omega.{arith}
use borrow.Author.Tests.{leb-true}
use lib.IntN.{ℤ, pos, negsuc}
use lib.ListN.{get_or}
use Rattle.numbers.specs.Every.{every}
use Rattle.numbers.proofs.Tests.{both_true, true_both}
use Rattle.ranges.specs.Range.{dc_fine, level_fine, quantiser_fine, within}
use Rattle.places.specs.declared.place.Place.{Place}
use Rattle.record.specs.Record.{blank, known_of, quantiser_of, seven_from}
use Rattle.record.specs.Refusals.{lies}
use Rattle.record.specs.declared.record.Side.{Side}
use Rattle.neighbours.specs.Neighbours.{Around, neighbours_fine, predictors, sided}
use Rattle.neighbours.specs.Taken.{place_lies}
use Rattle.neighbours.proofs.SoundLaws.{FineA, FineB, FineC, as_a, as_b, as_c, blank-quantiser, blank-sound, each_fine, join, known_fine, missing_fine}
use Rattle.needed.specs.Stored.{above_fine, above_left_fine, block_fine, if_there, left_fine, scale_fine}

-- two tests that pass together are one
same_test : (a b : Bool) → (a ≡ true → b ≡ true) → (b ≡ true → a ≡ true) → a ≡ b
same_test true b f g = sym (f refl)
same_test false true f g = g refl
same_test false false f g = refl

-- ---- a record in the store

pub quantiser-within : (z : ℤ) → within (pos 1) (pos 31) z ≡ quantiser_fine (quantiser_of z)
quantiser-within (pos n) = refl
quantiser-within (negsuc n) = refl

-- where a record is there, it lies in the store
pub there-lies : {there : Bool} (stored at : ℕ) → there ≡ true → cond there (lies stored at) true ≡ true → at + 91 ≤ stored
there-lies stored at e h = leb-true (at + 91) stored (rw e at h)

-- what is tested of the place is so of each record
pub place_each : (stored : ℕ) (p : Place) → place_lies stored p ≡ true
    → (cond p.has_left (lies stored p.left) true ≡ true)
    × (cond p.has_above_left (lies stored p.above_left) true ≡ true)
    × (cond p.has_above (lies stored p.above) true ≡ true)
place_each stored p h =
    let e = both_true _ _ h in
    let f = both_true _ _ e.1 in
    (e.0, f.0, f.1)

-- ---- the tests of a record tell what is taken of it, and the other way round

block_tested : (r : List ℤ) (b from : ℕ) → dc_fine (get_or r (15 * b) (pos 0)) ≡ true → every level_fine (seven_from r (15 * b + from)) ≡ true → block_fine r b from ≡ true
unfolding block_fine
block_tested r b from e f = true_both e f

block_a : (r : List ℤ) (b : ℕ) → block_fine r b 8 ≡ true → scale_fine r ≡ true → FineA (known_of r b)
unfolding block_fine
block_a r b e q = let t = both_true _ _ e in record { dc-fine = t.0; qp_fine = q; column-fine = t.1 }

block-c : (r : List ℤ) (b : ℕ) → block_fine r b 1 ≡ true → scale_fine r ≡ true → FineC (known_of r b)
unfolding block_fine
block-c r b e q = let t = both_true _ _ e in record { dc-fine = t.0; qp_fine = q; row_fine = t.1 }

-- five tests, and each of them
five_true : {a b c d e : Bool} → a ≡ true → b ≡ true → c ≡ true → d ≡ true → e ≡ true → (a && b && c && d && e) ≡ true
five_true f g h i j = true_both (true_both (true_both (true_both f g) h) i) j

true_five : (a b c d e : Bool) → (a && b && c && d && e) ≡ true → (a ≡ true) × (b ≡ true) × (c ≡ true) × (d ≡ true) × (e ≡ true)
true_five a b c d e t =
    let t₄ = both_true (a && b && c && d) e t in
    let t₃ = both_true (a && b && c) d t₄.0 in
    let t₂ = both_true (a && b) c t₃.0 in
    let t₁ = both_true a b t₂.0 in
    (t₁.0, t₁.1, t₂.1, t₃.1, t₄.1)

module _ (depth q : ℕ) where
  left_passes : (o : Option (List ℤ)) → FineA (sided depth q o 1) → FineA (sided depth q o 3) → FineA (sided depth q o 4) → FineA (sided depth q o 5) → if_there left_fine o ≡ true
  unfolding left_fine
  left_passes None s t u v = refl
  left_passes (Some r) s t u v =
      five_true
      (block_tested r 1 8 s.dc-fine s.column-fine)
      (block_tested r 3 8 t.dc-fine t.column-fine)
      (block_tested r 4 8 u.dc-fine u.column-fine)
      (block_tested r 5 8 v.dc-fine v.column-fine)
      s.qp_fine

  above_passes : (o : Option (List ℤ)) → FineC (sided depth q o 2) → FineC (sided depth q o 3) → FineC (sided depth q o 4) → FineC (sided depth q o 5) → if_there above_fine o ≡ true
  unfolding above_fine
  above_passes None s t u v = refl
  above_passes (Some r) s t u v =
      five_true
      (block_tested r 2 1 s.dc-fine s.row_fine)
      (block_tested r 3 1 t.dc-fine t.row_fine)
      (block_tested r 4 1 u.dc-fine u.row_fine)
      (block_tested r 5 1 v.dc-fine v.row_fine)
      s.qp_fine

  above_left_passes : (o : Option (List ℤ)) → FineB (sided depth q o 3) → FineB (sided depth q o 4) → FineB (sided depth q o 5) → if_there above_left_fine o ≡ true
  unfolding above_left_fine
  above_left_passes None s t u = refl
  above_left_passes (Some r) s t u = true_both (true_both s.dc-fine t.dc-fine) u.dc-fine

  module _ (e : quantiser_fine q ≡ true) where
    left-told : (o : Option (List ℤ)) → if_there left_fine o ≡ true → FineA (sided depth q o 1) × FineA (sided depth q o 3) × FineA (sided depth q o 4) × FineA (sided depth q o 5)
    unfolding left_fine
    left-told None h = let m = as_a (missing_fine depth q e) in (m, m, m, m)
    left-told (Some r) h =
        let t = true_five (block_fine r 1 8) (block_fine r 3 8) (block_fine r 4 8) (block_fine r 5 8) (scale_fine r) h in
        (block_a r 1 t.0 t.4, block_a r 3 t.1 t.4, block_a r 4 t.2 t.4, block_a r 5 t.3 t.4)

    above-told : (o : Option (List ℤ)) → if_there above_fine o ≡ true → FineC (sided depth q o 2) × FineC (sided depth q o 3) × FineC (sided depth q o 4) × FineC (sided depth q o 5)
    unfolding above_fine
    above-told None h = let m = as_c (missing_fine depth q e) in (m, m, m, m)
    above-told (Some r) h =
        let t = true_five (block_fine r 2 1) (block_fine r 3 1) (block_fine r 4 1) (block_fine r 5 1) (scale_fine r) h in
        (block-c r 2 t.0 t.4, block-c r 3 t.1 t.4, block-c r 4 t.2 t.4, block-c r 5 t.3 t.4)

    above-left-told : (o : Option (List ℤ)) → if_there above_left_fine o ≡ true → FineB (sided depth q o 3) × FineB (sided depth q o 4) × FineB (sided depth q o 5)
    unfolding above_left_fine
    above-left-told None h = let m = as_b (missing_fine depth q e) in (m, m, m)
    above-left-told (Some r) h =
        let t = both_true _ _ h in
        let u = both_true _ _ t.0 in
        (record { dc-fine = u.0 }, record { dc-fine = u.1 }, record { dc-fine = t.1 })

-- ---- the six blocks

-- what is taken as A or C serves as B
a_as_b : {s : Side} → FineA s → FineB s
a_as_b f = record { dc-fine = f.dc-fine }

c_as_b : {s : Side} → FineC s → FineB s
c_as_b f = record { dc-fine = f.dc-fine }

module _ (depth q : ℕ) (ar : Around) where
  abbrev tests : Bool
  tests = if_there left_fine ar.left && if_there above_left_fine ar.above_left && if_there above_fine ar.above

  tested : neighbours_fine depth q ar (blank q) ≡ true → tests ≡ true
  tested h =
      let t = each_fine depth q ar (blank q) h in
      let t₀ = t 0 (omega arith) in
      let t₁ = t 1 (omega arith) in
      let t₂ = t 2 (omega arith) in
      let t₄ = t 4 (omega arith) in
      let t₅ = t 5 (omega arith) in
      true_both
      (true_both
      (left_passes depth q ar.left t₀.a_fine t₂.a_fine t₄.a_fine t₅.a_fine)
      (above_left_passes depth q ar.above_left t₀.b_fine t₄.b_fine t₅.b_fine))
      (above_passes depth q ar.above t₀.c-fine t₁.c-fine t₄.c-fine t₅.c-fine)

  taken : quantiser_fine q ≡ true → tests ≡ true → neighbours_fine depth q ar (blank q) ≡ true
  unfolding neighbours_fine predictors
  taken e h =
      let t = both_true _ _ h in
      let u = both_true _ _ t.0 in
      let l = left-told depth q e ar.left u.0 in
      let b = above-left-told depth q e ar.above_left u.1 in
      let a = above-told depth q e ar.above t.1 in
      let o = known_fine (blank q) (blank-sound q e) in
      true_both (join l.0 b.0 a.0)
      (true_both (join (as_a (o 0 (omega arith))) (c_as_b a.0) a.1)
      (true_both (join l.1 (a_as_b l.0) (as_c (o 0 (omega arith))))
      (true_both (join (as_a (o 2 (omega arith))) (as_b (o 0 (omega arith))) (as_c (o 1 (omega arith))))
      (true_both (join l.2 b.1 a.2) (true_both (join l.3 b.2 a.3) refl)))))

  -- before the first block, three tests
  pub three_tests : quantiser_fine q ≡ true → neighbours_fine depth q ar (blank q) ≡ tests
  three_tests e = same_test (neighbours_fine depth q ar (blank q)) tests tested (taken e)

  -- under a quantiser that is none the new record, which block 1 takes as A, is not in range
  pub no-quantiser : quantiser_fine q ≡ false → neighbours_fine depth q ar (blank q) ≡ false
  no-quantiser e =
      same_test (neighbours_fine depth q ar (blank q)) false
      (λ (h : neighbours_fine depth q ar (blank q) ≡ true).
      sym e ∙ sym (ap (λ (z : ℤ). quantiser_fine (quantiser_of z)) (blank-quantiser q)) ∙ (each_fine depth q ar (blank q) h 1 (omega arith)).a_fine.qp_fine)
      (λ (h : false ≡ true). cc)
