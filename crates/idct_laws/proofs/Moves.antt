-- How near the exact transform and a whole number are to the transform worked with fractions near the table's constants, and that near a half of it the rule decides. Assumes nothing.
use mathlib.Core.Bool.{true}
use mathlib.Core.List.{List}
use mathlib.Core.Path.{◌≡◌, sym, ap, ◌∙◌, subst₂}
use Prim.Native.Nat.{ℕ, ◌+◌, ◌*◌, ◌^◌, ◌≤◌, ◌<◌}
use native.Mathlib.Nat.{le_of_eq, le_of_mul-le-mul_right, le_refl, le_trans, mul-le-mul, mul-le-mul_right, mul-pos}
use native.Mathlib.Omega.{arith}
use lib.Dec.{lit<, lit≤}
use lib.IntN.{ℤ, pos, nat_abs, ◌+ℤ◌, ◌-ℤ◌, ◌*ℤ◌}
use Rattle.numbers.proofs.Integers.{var, nat, ◌⊕◌, ◌⊝◌, ◌⊗◌, ring, *ℤ-assoc}
use Rattle.numbers.proofs.Magnitudes.{abs-mul, abs-sub}
use Rattle.numbers.specs.Grid.{cell}
use Rattle.ranges.specs.Range.{depth_fine}
use Rattle.f64_error.specs.Series.{block_z}
use Rattle.exact_transform.proofs.Bounds.{whole-within}
use Rattle.idct.proofs.Refusals.{modest}
use Rattle.exact_transform.specs.Exact.{exact, Modest}
use Rattle.idct.specs.Limits.{values_fine}
use Rattle.rounding.specs.Rounding.{tied}
use Rattle.exact_transform.specs.Transform.{whole}
use Rattle.rounding.specs.declared.HalfIntegerRounding.{HalfIntegerRounding}
use Rattle.idct_laws.specs.Moved.{Constants, fourth, NearOf, WithinOf, HalfWayOf}
use Rattle.idct_laws.proofs.Distances.{abs_swap}
use Rattle.idct_laws.proofs.Halves.{halves}
use Rattle.idct_laws.proofs.MovedSums.{Small, sum_moved}

-- farther is weaker
pub wider : {e f d : ℕ} {c : ℕ → ℤ} {k : ℕ → ℕ → ℤ} → Constants e d c k → e ≤ f → Constants f d c k
wider {d} near h =
    record {
      some = near.some;
      factor = λ u i. le_trans (near.factor u i) (mul-le-mul (le_refl d) h);
      cosine = λ u x i j. le_trans (near.cosine u x i j) (mul-le-mul (le_refl d) h);
    }

-- from a D to w by way of a K and z, where w / D and z / K are near each other
across : (a z w : ℤ) (D K : ℕ) → nat_abs (a *ℤ pos D -ℤ w) * K ≤ nat_abs (a *ℤ pos K -ℤ z) * D + nat_abs (w *ℤ pos K -ℤ z *ℤ pos D)
across a z w D K =
    le_trans (le_of_eq (sym (abs-mul (a *ℤ pos D -ℤ w) (pos K)) ∙ ap nat_abs turned))
    (le_trans (abs-sub ((a *ℤ pos K -ℤ z) *ℤ pos D) (w *ℤ pos K -ℤ z *ℤ pos D))
    (le_of_eq (ap (λ (i : ℕ). i + nat_abs (w *ℤ pos K -ℤ z *ℤ pos D)) (abs-mul (a *ℤ pos K -ℤ z) (pos D)))))
  where
    turned : (a *ℤ pos D -ℤ w) *ℤ pos K ≡ (a *ℤ pos K -ℤ z) *ℤ pos D -ℤ (w *ℤ pos K -ℤ z *ℤ pos D)
    turned = ring ((var a ⊗ nat D ⊝ var w) ⊗ nat K) ((var a ⊗ nat K ⊝ var z) ⊗ nat D ⊝ (var w ⊗ nat K ⊝ var z ⊗ nat D)) (omega arith)

-- of a whole number n, and of k and a half
by_whole : (n z w : ℤ) (D K : ℕ) → nat_abs (n *ℤ pos (4 * D) -ℤ w) * K ≤ nat_abs (n *ℤ pos (4 * K) -ℤ z) * D + nat_abs (w *ℤ pos K -ℤ z *ℤ pos D)
by_whole n z w D K =
    subst₂ (λ (a b : ℤ). nat_abs (a -ℤ w) * K ≤ nat_abs (b -ℤ z) * D + nat_abs (w *ℤ pos K -ℤ z *ℤ pos D)) (*ℤ-assoc n (pos 4) (pos D)) (*ℤ-assoc n (pos 4) (pos K))
    (across (n *ℤ pos 4) z w D K)

by_half : (k z w : ℤ) (D K : ℕ)
    → nat_abs (w -ℤ k *ℤ pos (4 * D) -ℤ pos (2 * D)) * K ≤ nat_abs (z -ℤ k *ℤ pos (4 * K) -ℤ pos (2 * K)) * D + nat_abs (w *ℤ pos K -ℤ z *ℤ pos D)
by_half k z w D K =
    subst₂ (λ (a b : ℕ). a * K ≤ b * D + nat_abs (w *ℤ pos K -ℤ z *ℤ pos D)) (sym (from w D)) (sym (from z K)) (across (k *ℤ pos 4 +ℤ pos 2) z w D K)
  where
    from : (v : ℤ) (E : ℕ) → nat_abs (v -ℤ k *ℤ pos (4 * E) -ℤ pos (2 * E)) ≡ nat_abs ((k *ℤ pos 4 +ℤ pos 2) *ℤ pos E -ℤ v)
    from v E =
        ap nat_abs (ring (var v ⊝ var k ⊗ (nat 4 ⊗ nat E) ⊝ nat 2 ⊗ nat E) (var v ⊝ (var k ⊗ nat 4 ⊕ nat 2) ⊗ nat E) (omega arith)) ∙ abs_swap v ((k *ℤ pos 4 +ℤ pos 2) *ℤ pos E)

-- n is p from the exact transform, 1/2 + 1/2 ^ 26, which is q from w, 3/2 ^ 26: in units of X, which is 2 ^ 190
reduce : (d X p q : ℕ) (n w : ℤ) → 0 < X → nat_abs (n *ℤ pos (4 * fourth d) -ℤ w) * (2 ^ 30 * X) ≤ p * fourth d + q → p ≤ (2 ^ 31 + 2 ^ 6) * X → q ≤ 64 * (fourth d * (3 * X))
    → WithinOf d n w
reduce d X p q n w s h i j =
    let g : p * fourth d ≤ (2 ^ 31 + 2 ^ 6) * X * fourth d = mul-le-mul_right (fourth d) i in
    let r : nat_abs (n *ℤ pos (4 * fourth d) -ℤ w) * 2 ^ 30 ≤ (2 ^ 31 + 2 ^ 8) * fourth d = le_of_mul-le-mul_right (omega arith) s in
    omega arith

-- the exact transform is o from k + 1/2, and q from w, 1/2 ^ 28, in units of X, which is 2 ^ 188
reduce_half : (d X o q : ℕ) (k w : ℤ) → 0 < fourth d → o * fourth d ≤ nat_abs (w -ℤ k *ℤ pos (4 * fourth d) -ℤ pos (2 * fourth d)) * (2 ^ 32 * X) + q → q ≤ 64 * (fourth d * X)
    → HalfWayOf d k w → o ≤ 2 ^ 7 * X
reduce_half d X o q k w s a b h = let t = mul-le-mul_right (2 ^ 4 * X) h in le_of_mul-le-mul_right (omega arith) s

-- z and w are q apart, 1/2 ^ 31, in units of X, which is 2 ^ 185
reduce_exact : (D X : ℕ) (z w : ℤ) (K : ℕ) → nat_abs (w *ℤ pos K -ℤ z *ℤ pos D) ≤ 64 * (D * X) → nat_abs (w *ℤ pos (4 * K) -ℤ z *ℤ pos (4 * D)) * 2 ^ 31 ≤ 2 ^ 37 * X * (4 * D)
reduce_exact D X z w K h =
    line (nat_abs (w *ℤ pos (4 * K) -ℤ z *ℤ pos (4 * D))) (nat_abs (w *ℤ pos K -ℤ z *ℤ pos D)) (ap nat_abs four ∙ abs-mul (w *ℤ pos K -ℤ z *ℤ pos D) (pos 4)) h
  where
    four : w *ℤ pos (4 * K) -ℤ z *ℤ pos (4 * D) ≡ (w *ℤ pos K -ℤ z *ℤ pos D) *ℤ pos 4
    four = ring (var w ⊗ (nat 4 ⊗ nat K) ⊝ var z ⊗ (nat 4 ⊗ nat D)) ((var w ⊗ nat K ⊝ var z ⊗ nat D) ⊗ nat 4) (omega arith)

    line : (p q : ℕ) → p ≡ q * 4 → q ≤ 64 * (D * X) → p * 2 ^ 31 ≤ 2 ^ 37 * X * (4 * D)
    line p q e i = omega arith

-- at every depth
module _ (depth : ℕ) (l : List (List ℤ)) (fine : depth_fine depth ≡ true) (taken : values_fine depth l ≡ true) (d : ℕ) (c : ℕ → ℤ) (k : ℕ → ℕ → ℤ) where
  module _ (y x : ℕ) (ly : y < 8) (lx : x < 8) where
    small : Modest l
    small = modest depth l fine taken

    abbrev z : ℤ
    z = exact l y x

    abbrev w : ℤ
    w = block_z c k (cell l) y x

    -- constants within 1/2 ^ 53 of the table's
    pub exact-moved : Constants (2 ^ 2) d c k → NearOf d z w
    exact-moved near = reduce_exact (fourth d) (2 ^ 185) z w (2 ^ 220) (sum_moved near l small y x ly lx (2 ^ 185) (lit≤ tt))

    -- under either rule
    module _ (m : HalfIntegerRounding) where
      abbrev n : ℤ
      n = whole m l y x

      -- constants whose terms are no more than this apart
      within_by : {e : ℕ} → Constants e d c k → Small e (3 * 2 ^ 190) → WithinOf d n w
      within_by near small_terms =
          reduce d (2 ^ 190) (nat_abs (n *ℤ pos (2 ^ 222) -ℤ z)) (nat_abs (w *ℤ pos (2 ^ 220) -ℤ z *ℤ pos (fourth d))) n w (lit< tt) (by_whole n z w (fourth d) (2 ^ 220))
          (whole-within l small y x ly lx m)
          (sum_moved near l small y x ly lx (3 * 2 ^ 190) small_terms)

      -- within 1/2 ^ 46
      pub near_farther : Constants (2 ^ 9) d c k → WithinOf d n w
      near_farther near = within_by near (lit≤ tt)

      -- within 1/2 ^ 47
      pub near-moved : Constants (2 ^ 8) d c k → WithinOf d n w
      near-moved near = within_by near (lit≤ tt)

      -- within 1/2 ^ 53, near a half of the transform worked with them
      pub moved-half : Constants (2 ^ 2) d c k → (j : ℤ) → HalfWayOf d j w → n ≡ tied m j
      moved-half near j h =
          let some = mul-pos (mul-pos (mul-pos near.some near.some) near.some) near.some in
          let D = fourth d in
          let K = 2 ^ 220 in
          halves l small y x ly lx m j
          (reduce_half d (2 ^ 188) (nat_abs (z -ℤ j *ℤ pos (4 * K) -ℤ pos (2 * K))) (nat_abs (z *ℤ pos D -ℤ w *ℤ pos K)) j w some (by_half j w z K D)
          (le_trans (le_of_eq (abs_swap (z *ℤ pos D) (w *ℤ pos K))) (sum_moved near l small y x ly lx (2 ^ 188) (lit≤ tt)))
          h)
