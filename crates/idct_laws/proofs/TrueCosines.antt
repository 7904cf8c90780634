-- Fractions near the true cosines are near the table's, so that what holds of fractions near the table's holds of them. Assumes nothing.
use mathlib.Core.Bool.{true}
use mathlib.Core.List.{List}
use mathlib.Core.Path.{◌≡◌}
use Prim.Native.Nat.{ℕ, ◌+◌, ◌^◌, ◌<◌}
use native.Mathlib.Omega.{arith}
use lib.Dec.{T, lit≤}
use lib.IntN.{ℤ}
use Rattle.numbers.specs.Grid.{cell}
use Rattle.ranges.specs.Range.{depth_fine}
use Rattle.f64_error.specs.Series.{block_z}
use Rattle.cosines.specs.Cosines.{turn, c_z, cos_z}
use Rattle.exact_transform.specs.Exact.{exact}
use Rattle.idct.specs.Limits.{values_fine}
use Rattle.rounding.specs.Rounding.{tied}
use Rattle.exact_transform.specs.Transform.{whole}
use Rattle.rounding.specs.declared.HalfIntegerRounding.{HalfIntegerRounding}
use Rattle.idct_laws.specs.Moved.{Moved, Constants, TrueConstants, NearOf, WithinOf, HalfWayOf}
use Rattle.idct_laws.specs.Roots.{near_cosine, factor_turn}
use Rattle.idct_laws.proofs.Entries.{table-true}
use Rattle.idct_laws.proofs.Moves.{wider, exact-moved, near_farther, moved-half}
use Rattle.idct_laws.proofs.NearRoots.{cosines-apart}

-- ---- the constants

module _ {e d : ℕ} {c : ℕ → ℤ} {k : ℕ → ℕ → ℤ} (near : TrueConstants e d c k) where
  one-moved : (m : ℕ) (p q : ℤ) → T (near_cosine e p d m) → T (near_cosine 2 q (2 ^ 55) m) → Moved (e + 2) d p q
  one-moved m p q s t = let h = cosines-apart e 2 d (2 ^ 55) p q m s t in omega arith

  -- the table's are within 1/2 ^ 54 of the true ones
  pub true-moved : Constants (e + 2) d c k
  true-moved =
      record {
        some = near.some;
        factor = λ u i. one-moved (factor_turn u) (c u) (c_z u) (near.factor u i) (table-true.factor u i);
        cosine = λ u x i j. one-moved (turn u x) (k u x) (cos_z u x) (near.cosine u x i j) (table-true.cosine u x i j);
      }

-- ---- the transform worked with them, at every depth

module _ (depth : ℕ) (l : List (List ℤ)) (fine : depth_fine depth ≡ true) (taken : values_fine depth l ≡ true) (d : ℕ) (c : ℕ → ℤ) (k : ℕ → ℕ → ℤ) where
  module _ (y x : ℕ) (ly : y < 8) (lx : x < 8) where
    -- within 1/2 ^ 54
    pub exact-true : TrueConstants 2 d c k → NearOf d (exact l y x) (block_z c k (cell l) y x)
    exact-true near = exact-moved depth l fine taken d c k y x ly lx (true-moved near)

    -- under either rule
    module _ (m : HalfIntegerRounding) where
      -- within 1/2 ^ 47
      pub near-true : TrueConstants (2 ^ 8) d c k → WithinOf d (whole m l y x) (block_z c k (cell l) y x)
      near-true near = near_farther depth l fine taken d c k y x ly lx m (wider (true-moved near) (lit≤ tt))

      -- within 1/2 ^ 54, near a half of it
      pub true-half : TrueConstants 2 d c k → (j : ℤ) → HalfWayOf d j (block_z c k (cell l) y x) → whole m l y x ≡ tied m j
      true-half near j h = moved-half depth l fine taken d c k y x ly lx m (true-moved near) j h
