-- A DC alone, and a DC with 1 at (7, 7): which of their values are within a depth's limits, and how the program makes them. Assumes nothing.
use mathlib.Core.Bool.{Bool, cond, false, true, ◌&&◌}
use mathlib.Core.List.{List, []}
use mathlib.Core.Path.{◌≡◌, refl}
use Prim.Native.Nat.{ℕ, ◌+◌, ◌<◌, ◌≤◌, ◌^◌}
use native.Mathlib.Omega.{arith}
use lib.Dec.{eqb}
use lib.IntN.{ℤ, pos}
use lib.ListN.{get_or, set}
use lib.Pow.{pow_mono}
use Rattle.numbers.proofs.Every.{every_fails}
use Rattle.numbers.proofs.Integers.{diff_is, le_in, zarith}
use Rattle.numbers.specs.Every.{every}
use Rattle.numbers.specs.Grid.{block, build}
use Rattle.ranges.proofs.RangeLaws.{lowest-negative, within_of}
use Rattle.ranges.specs.Range.{depth_fine, highest, lowest}
use Rattle.exact_transform.specs.Exact.{Modest}
use Rattle.idct.specs.Clipped.{dc_and_last, dc_block}
use Rattle.idct.specs.Limits.{in_bounds, values_fine}
use Rattle.idct.proofs.Refusals.{modest, values-taken, zero-inside}

one_inside : (b : ℕ) → 1 ≤ b → in_bounds b (pos 1) ≡ true
one_inside b h =
    let p : 2 ^ 1 ≤ 2 ^ b = pow_mono h in
    within_of (lowest b) (highest b) (pos 1) (le_in (omega (zarith, lowest-negative b))) (le_in (omega (zarith, diff_is (pos (2 ^ b)) (pos 1))))

either_inside : (b : ℕ) (t : Bool) (y z : ℤ) → in_bounds b y ≡ true → in_bounds b z ≡ true → in_bounds b (cond t y z) ≡ true
either_inside b true y z p q = p
either_inside b false y z p q = q

module _ (d : ℕ) (dc : ℤ) (h : in_bounds (d + 3) dc ≡ true) where
  dc-taken : values_fine d (dc_block dc) ≡ true
  unfolding dc_block
  dc-taken =
      values-taken d (λ (v u : ℕ). cond (eqb v 0 && eqb u 0) dc (pos 0))
      (λ (v u : ℕ) (p : v < 8) (q : u < 8). either_inside (d + 3) (eqb v 0 && eqb u 0) dc (pos 0) h (zero-inside (d + 3)))

  pub dc_modest : depth_fine d ≡ true → Modest (dc_block dc)
  dc_modest f = modest d (dc_block dc) f dc-taken

  last_taken : values_fine d (dc_and_last dc) ≡ true
  unfolding dc_and_last
  last_taken =
      values-taken d (λ (v u : ℕ). cond (eqb v 0 && eqb u 0) dc (cond (eqb v 7 && eqb u 7) (pos 1) (pos 0)))
      (λ (v u : ℕ) (p : v < 8) (q : u < 8).
      either_inside (d + 3) (eqb v 0 && eqb u 0) dc (cond (eqb v 7 && eqb u 7) (pos 1) (pos 0)) h
      (either_inside (d + 3) (eqb v 7 && eqb u 7) (pos 1) (pos 0) (one_inside (d + 3) (omega arith)) (zero-inside (d + 3))))

last-not : (d : ℕ) (dc : ℤ) → in_bounds (d + 3) dc ≡ false → values_fine d (dc_and_last dc) ≡ false
unfolding dc_and_last build
last-not d dc h =
    let p = in_bounds (d + 3) in
    every_fails (every p) [] (dc_and_last dc) 0 (omega arith) (every_fails p (pos 0) (get_or (dc_and_last dc) 0 []) 0 (omega arith) h)

-- the values of the second are within the limits exactly where the DC is
pub last-values : (d : ℕ) (dc : ℤ) → values_fine d (dc_and_last dc) ≡ in_bounds (d + 3) dc
last-values d dc = go (in_bounds (d + 3) dc) refl
  where
    go : (b : Bool) → in_bounds (d + 3) dc ≡ b → values_fine d (dc_and_last dc) ≡ b
    go true h = last_taken d dc h
    go false h = last-not d dc h

-- ---- how the program makes the second: zeros, then two stores
abbrev nothing : List (List ℤ)
nothing = block (λ (v u : ℕ). pos 0)

abbrev first : ℤ → List (List ℤ)
first dc = set nothing 0 (set (get_or nothing 0 []) 0 dc)

abbrev pub stored : ℤ → List (List ℤ)
stored dc = set (first dc) 7 (set (get_or (first dc) 7 []) 7 (pos 1))

pub last_stored : (dc : ℤ) → stored dc ≡ dc_and_last dc
unfolding dc_and_last build
last_stored dc = refl
