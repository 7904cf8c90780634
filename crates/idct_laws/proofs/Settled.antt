-- Farther than 2 ^ -26 from every half the nearest whole number stands, under either rule. Assumes nothing.
use mathlib.Core.List.{List}
use mathlib.Core.Path.{◌≡◌, refl, sym, ap, ◌∙◌}
use Prim.Native.Nat.{ℕ, ◌+◌, ◌*◌, ◌^◌, ◌≤◌, ◌<◌}
use native.Mathlib.Nat.{le_of_eq, lt_of_le_of_lt, lt_of_mul-lt-mul_right}
use native.Mathlib.Omega.{arith}
use lib.IntN.{ℤ, pos, nat_abs, ◌-ℤ◌, ◌*ℤ◌}
use Rattle.numbers.proofs.Integers.{eq_in, diff_is}
use Rattle.numbers.proofs.Integers as Z
use Rattle.numbers.proofs.Magnitudes.{abs-mul}
use Rattle.exact_transform.proofs.Bounds.{whole-within}
use Rattle.exact_transform.specs.Exact.{exact, Modest}
use Rattle.exact_transform.specs.Transform.{whole}
use Rattle.rounding.specs.declared.HalfIntegerRounding.{HalfIntegerRounding}
use Rattle.idct_laws.specs.Ties.{Settled}
use Rattle.idct_laws.proofs.Distances.{triangle, abs_swap, sub_right}

same : (n k : ℤ) → nat_abs (n -ℤ k) < 1 → n ≡ k
same n k h = eq_in (omega (arith, Z.halves (n -ℤ k), diff_is n k))

one_only : (n k z : ℤ) (K H T : ℕ) → K ≡ H + H → nat_abs (n *ℤ pos K -ℤ z) ≤ H + T → nat_abs (k *ℤ pos K -ℤ z) + T < H → n ≡ k
one_only n k z K H T e a b =
    same n k
    (lt_of_mul-lt-mul_right K
    (lt_of_le_of_lt (le_of_eq (sym (ap nat_abs (sub_right n k (pos K)) ∙ abs-mul (n -ℤ k) (pos K))))
    (line (nat_abs (n *ℤ pos K -ℤ k *ℤ pos K)) (nat_abs (n *ℤ pos K -ℤ z)) (nat_abs (z -ℤ k *ℤ pos K)) (nat_abs (k *ℤ pos K -ℤ z)) (triangle (n *ℤ pos K) z (k *ℤ pos K)) (abs_swap z (k *ℤ pos K)) a b)))
  where
    line : (x p q r : ℕ) → x ≤ p + q → q ≡ r → p ≤ H + T → r + T < H → x < 1 * K
    line x p q r i j u v = omega arith

-- where the exact transform is farther than 2 ^ -26 from a half, the whole number is the one nearest to it, under either rule
pub settled : (l : List (List ℤ)) → Modest l → (y x : ℕ) → y < 8 → x < 8 → (m : HalfIntegerRounding) (k : ℤ) → Settled k (exact l y x) → whole m l y x ≡ k
settled l modest y x ly lx m k h = one_only (whole m l y x) k (exact l y x) (2 ^ 222) (2 ^ 221) (2 ^ 196) refl (whole-within l modest y x ly lx m) h
