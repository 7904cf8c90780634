-- A fraction near another, and the product of two such. Assumes nothing.
use mathlib.Core.Path.{◌≡◌, ap, ap₂, ◌∙◌}
use Prim.Native.Nat.{ℕ, ◌+◌, ◌*◌, ◌≤◌}
use native.Mathlib.Nat.{le_of_eq, le_refl, le_trans, mul-le-mul}
use native.Mathlib.Omega.{arith}
use lib.IntN.{ℤ, pos, nat_abs, ◌+ℤ◌, ◌-ℤ◌, ◌*ℤ◌}
use Rattle.numbers.proofs.Integers.{var, nat, ◌⊕◌, ◌⊝◌, ◌⊗◌, ring, halves, diff_is}
use Rattle.numbers.proofs.Magnitudes.{abs-add, abs-mul}

-- y / P is b / P at most in size, and x / D within (m - b) / P of it
pub record Beside (x y : ℤ) (P D b m : ℕ) : Type 0 where
  pub size : nat_abs y ≤ b
  pub moved : nat_abs (x *ℤ pos P -ℤ y *ℤ pos D) + D * b ≤ D * m

abs_of_sum : (a b : ℤ) → nat_abs a ≤ nat_abs b + nat_abs (a -ℤ b)
abs_of_sum a b = omega (arith, halves a, halves b, halves (a -ℤ b), diff_is a b)

module _ {x y : ℤ} {P D b m : ℕ} {z w : ℤ} {Q E c n : ℕ} (s : Beside x y P D b m) (t : Beside z w Q E c n) where
  abbrev A : ℤ
  A = x *ℤ pos P

  abbrev B : ℤ
  B = y *ℤ pos D

  abbrev C : ℤ
  C = z *ℤ pos Q

  abbrev G : ℤ
  G = w *ℤ pos E

  apart : x *ℤ z *ℤ pos (P * Q) -ℤ y *ℤ w *ℤ pos (D * E) ≡ A *ℤ (C -ℤ G) +ℤ G *ℤ (A -ℤ B)
  apart = ap₂ (λ (p q : ℤ). p -ℤ q) (group x z P Q) (group y w D E) ∙ split A B C G
    where
      group : (u v : ℤ) (i j : ℕ) → u *ℤ v *ℤ pos (i * j) ≡ u *ℤ pos i *ℤ (v *ℤ pos j)
      group u v i j = ring (var u ⊗ var v ⊗ (nat i ⊗ nat j)) (var u ⊗ nat i ⊗ (var v ⊗ nat j)) (omega arith)

      split : (p q r t : ℤ) → p *ℤ r -ℤ q *ℤ t ≡ p *ℤ (r -ℤ t) +ℤ t *ℤ (p -ℤ q)
      split p q r t = ring (var p ⊗ var r ⊝ var q ⊗ var t) (var p ⊗ (var r ⊝ var t) ⊕ var t ⊗ (var p ⊝ var q)) (omega arith)

  A-size : nat_abs A ≤ D * m
  A-size = sum (nat_abs A) (nat_abs B) (nat_abs (A -ℤ B)) (abs_of_sum A B) (le_trans (le_of_eq (abs-mul y (pos D))) (mul-le-mul s.size (le_refl D))) s.moved
    where
      sum : (p q r : ℕ) → p ≤ q + r → q ≤ b * D → r + D * b ≤ D * m → p ≤ D * m
      sum p q r i j k = omega arith

  G-size : nat_abs G ≤ E * c
  G-size = le_trans (le_of_eq (abs-mul w (pos E))) (le_trans (mul-le-mul t.size (le_refl E)) (omega arith))

  abbrev off : ℕ
  off = nat_abs (x *ℤ z *ℤ pos (P * Q) -ℤ y *ℤ w *ℤ pos (D * E))

  off_most : off ≤ nat_abs A * nat_abs (C -ℤ G) + nat_abs G * nat_abs (A -ℤ B)
  off_most = le_trans (le_of_eq (ap nat_abs apart)) (le_trans (abs-add (A *ℤ (C -ℤ G)) (G *ℤ (A -ℤ B))) (le_of_eq (ap₂ (λ (i j : ℕ). i + j) (abs-mul A (C -ℤ G)) (abs-mul G (A -ℤ B)))))

  -- D m (E n - E c) and E c (D m - D b) together
  collect : (o p q g h : ℕ) → o ≤ p * q + g * h → p ≤ D * m → g ≤ E * c → q + E * c ≤ E * n → h + D * b ≤ D * m → o + D * E * (b * c) ≤ D * E * (m * n)
  collect o p q g h i j k u v = line (mul-le-mul j (le_refl q)) (mul-le-mul k (le_refl h)) (mul-le-mul (le_refl (D * m)) u) (mul-le-mul (le_refl (E * c)) v)
    where
      line : p * q ≤ D * m * q → g * h ≤ E * c * h → D * m * (q + E * c) ≤ D * m * (E * n) → E * c * (h + D * b) ≤ E * c * (D * m) → o + D * E * (b * c) ≤ D * E * (m * n)
      line a b c d = omega arith

  pub product : Beside (x *ℤ z) (y *ℤ w) (P * Q) (D * E) (b * c) (m * n)
  product =
      record {
        size = le_trans (le_of_eq (abs-mul y w)) (mul-le-mul s.size t.size);
        moved = collect off (nat_abs A) (nat_abs (C -ℤ G)) (nat_abs G) (nat_abs (A -ℤ B)) off_most A-size G-size t.moved s.moved;
      }
