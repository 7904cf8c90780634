-- Within 2 ^ -26 of a half the whole number is one of the two beside it, under either rule. Assumes nothing.
use mathlib.Core.List.{List}
use mathlib.Core.Logic.{◌⊎◌, inl, inr, ⊎_elim}
use mathlib.Core.Path.{◌≡◌, refl, ap}
use Prim.Native.Nat.{ℕ, zero, suc, ◌+◌, ◌^◌, ◌≤◌, ◌<◌}
use native.Mathlib.Nat.{le_trans, le_of_eq}
use native.Mathlib.Omega.{arith}
use lib.Dec.{lit<}
use lib.IntN.{ℤ, pos, negsuc, nat_abs, ◌+ℤ◌, ◌-ℤ◌, ◌*ℤ◌}
use Rattle.numbers.proofs.Integers.{var, ◌⊕◌, ◌⊝◌, ◌⊗◌, ring, add_is, diff_is, dn, eq_in, halves, up}
use Rattle.numbers.proofs.Magnitudes.{abs-add}
use Rattle.f64_error.proofs.FromIntegers.{times_dn, times_up}
use Rattle.exact_transform.proofs.Bounds.{whole-within}
use Rattle.exact_transform.specs.Exact.{exact, Modest}
use Rattle.exact_transform.specs.Transform.{whole}
use Rattle.rounding.specs.declared.HalfIntegerRounding.{HalfIntegerRounding}
use Rattle.idct_laws.specs.Ties.{NearHalf}

-- n is near z, and z near k and a half
from-half : (n k z a b : ℤ) (S T : ℕ) → nat_abs (n *ℤ a -ℤ z) ≤ S → nat_abs (z -ℤ k *ℤ a -ℤ b) ≤ T → nat_abs ((n -ℤ k) *ℤ a -ℤ b) ≤ S + T
from-half n k z a b S T p q =
    le_trans (le_of_eq (ap nat_abs (ring ((var n ⊝ var k) ⊗ var a ⊝ var b) ((var n ⊗ var a ⊝ var z) ⊕ (var z ⊝ var k ⊗ var a ⊝ var b)) (omega arith))))
    (le_trans (abs-add (n *ℤ a -ℤ z) (z -ℤ k *ℤ a -ℤ b)) (omega arith))

module _ (K H T : ℕ) (e : K ≡ H + H) (s : T + T < H) where
  -- 0 and 1 are the whole numbers so near to 1/2
  pick : (d : ℤ) → nat_abs (d *ℤ pos K -ℤ pos H) ≤ H + T + T → (d ≡ pos 0) ⊎ (d ≡ pos 1)
  pick (pos zero) h = inl refl
  pick (pos (suc zero)) h = inr refl
  pick (pos (suc (suc n))) h =
      absurd (omega (arith, halves (pos (suc (suc n)) *ℤ pos K -ℤ pos H), diff_is (pos (suc (suc n)) *ℤ pos K) (pos H), times_up (pos (suc (suc n))) K, times_dn (pos (suc (suc n))) K))
  pick (negsuc n) h = absurd (omega (arith, halves (negsuc n *ℤ pos K -ℤ pos H), diff_is (negsuc n *ℤ pos K) (pos H), times_up (negsuc n) K, times_dn (negsuc n) K))

  one_of : (n k z : ℤ) → nat_abs (n *ℤ pos K -ℤ z) ≤ H + T → nat_abs (z -ℤ k *ℤ pos K -ℤ pos H) ≤ T → (n ≡ k) ⊎ (n ≡ k +ℤ pos 1)
  one_of n k z p q =
      ⊎_elim (λ (g : n -ℤ k ≡ pos 0). inl (eq_in (omega (arith, diff_is n k, ap up g, ap dn g)))) (λ (g : n -ℤ k ≡ pos 1). inr (eq_in (omega (arith, diff_is n k, add_is k (pos 1), ap up g, ap dn g))))
      (pick (n -ℤ k) (from-half n k z (pos K) (pos H) (H + T) T p q))

-- where the exact transform is within 2 ^ -26 of k + 1/2, the whole number is k or k + 1
pub between : (l : List (List ℤ)) → Modest l → (y x : ℕ) → y < 8 → x < 8 → (m : HalfIntegerRounding) (k : ℤ) → NearHalf k (exact l y x) → (whole m l y x ≡ k) ⊎ (whole m l y x ≡ k +ℤ pos 1)
between l modest y x ly lx m k h = one_of (2 ^ 222) (2 ^ 221) (2 ^ 196) refl (lit< tt) (whole m l y x) k (exact l y x) (whole-within l modest y x ly lx m) h
