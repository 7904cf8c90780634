-- What passes the tests of 13, and what it says of each part. Assumes nothing.
use mathlib.Core.Bool.{true}
use mathlib.Core.List.{List, [], ◌∷◌}
use mathlib.Core.Path.{◌≡◌, refl}
use Prim.Native.Nat.{ℕ, suc, ◌+◌, ◌^◌, min, ◌≤◌, ◌<◌}
use native.Mathlib.Nat.{not-suc-le-zero}
use native.Mathlib.Omega.{arith}
use lib.IntN.{ℤ, pos, nat_abs}
use lib.ListN.{length, get_or}
use lib.Pow.{pow_mono}
use Rattle.numbers.specs.Every.{every}
use Rattle.numbers.specs.Grid.{cell}
use Rattle.numbers.proofs.Every.{every_in}
use Rattle.numbers.proofs.Tests.{both_true, true_both}
use Rattle.ranges.specs.Range.{dc_fine, difference_fine, level_fine, quantiser_fine}
use Rattle.ranges.proofs.RangeLaws.{abs-dc, abs-difference, abs-level, level-abs, range_quantiser}
use Rattle.prediction.specs.Prediction.{default_dc, outside_of}
use Rattle.coefficients.specs.Level.{LevelsGood, block_fine, places_fine, predictors_fine}
use Rattle.coefficients.specs.Needed.{numbered, seven_in}
use Rattle.coefficients.proofs.BlockTests.{test_at}

-- ---- the places

places-pass : (qfs : List ℤ) → difference_fine (get_or qfs 0 (pos 0)) ≡ true → ((i : ℕ) → 1 ≤ i → i < length qfs → level_fine (get_or qfs i (pos 0)) ≡ true) → places_fine qfs ≡ true
places-pass [] e h = true_both e (every_in level_fine (pos 0) [] (λ (i : ℕ) (p : i < 0). absurd (not-suc-le-zero p)))
places-pass (z ∷ zs) e h =
    true_both e (every_in level_fine (pos 0) zs (λ (i : ℕ) (p : i < length zs). h (suc i) (omega arith) (omega arith)))

pub places-fine : (qfs : List ℤ) → length qfs ≡ 64 → nat_abs (get_or qfs 0 (pos 0)) ≤ 4095 → ((k : ℕ) → 1 ≤ k → k < 64 → nat_abs (get_or qfs k (pos 0)) ≤ 2047) → places_fine qfs ≡ true
places-fine qfs l h g =
    places-pass qfs (abs-difference (get_or qfs 0 (pos 0)) h)
    (λ (i : ℕ) (p : 1 ≤ i) (q : i < length qfs). abs-level (get_or qfs i (pos 0)) (g i p (omega arith)))

-- ---- the predictors

-- what `BlockPredictors::outside` gives may be handed in, at any depth
pub outside_fine : (d q : ℕ) → 1 ≤ q → q ≤ 31 → predictors_fine (outside_of d q) ≡ true
outside_fine d q l h =
    let z = default_dc (min d 12) in
    let b : 2 ^ (min d 12 + 2) ≤ 2 ^ 14 = pow_mono {i = min d 12 + 2} {j = 14} (omega arith) in
    let e = abs-dc z (omega arith) in
    let f = range_quantiser q l h in
    true_both e (true_both e (true_both e (true_both f (true_both f refl))))

-- eleven numbers that pass
pub record Passing (ns : List ℤ) : Type 0 where
  pub a : dc_fine (get_or ns 0 (pos 0)) ≡ true
  pub b : dc_fine (get_or ns 1 (pos 0)) ≡ true
  pub c : dc_fine (get_or ns 2 (pos 0)) ≡ true
  pub quantiser : quantiser_fine (nat_abs (get_or ns 3 (pos 0))) ≡ true
  pub values : every level_fine (seven_in ns) ≡ true

pub numbers_passing : (ns : List ℤ) → predictors_fine (numbered ns) ≡ true → Passing ns
numbers_passing ns e =
    let fa = both_true (dc_fine (get_or ns 0 (pos 0))) _ e in
    let fb = both_true (dc_fine (get_or ns 1 (pos 0))) _ fa.1 in
    let fc = both_true (dc_fine (get_or ns 2 (pos 0))) _ fb.1 in
    let qa = both_true (quantiser_fine (nat_abs (get_or ns 3 (pos 0)))) _ fc.1 in
    let qc = both_true (quantiser_fine (nat_abs (get_or ns 3 (pos 0)))) _ qa.1 in
    let v = both_true (every level_fine (seven_in ns)) _ qc.1 in
    record { a = fa.0; b = fb.0; c = fc.0; quantiser = qa.0; values = v.0 }

-- ---- a block of levels

pub block-good : (qf : List (List ℤ)) → block_fine qf ≡ true → LevelsGood qf
block-good qf e v u = level-abs (cell qf v u) (test_at level_fine (pos 0) qf refl e v u)
