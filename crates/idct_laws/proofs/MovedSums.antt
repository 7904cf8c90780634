-- The double sum worked with fractions near the table's constants is near the exact one. Assumes nothing.
use mathlib.Core.List.{List}
use mathlib.Core.Path.{◌≡◌, subst}
use Prim.Native.Nat.{ℕ, ◌+◌, ◌*◌, ◌^◌, ◌≤◌, ◌<◌}
use native.Mathlib.Nat.{le_refl, mul-le-mul}
use native.Mathlib.Omega.{arith}
use lib.IntN.{ℤ, pos, nat_abs, ◌-ℤ◌, ◌*ℤ◌}
use Rattle.numbers.proofs.Integers.{halves, diff_is}
use Rattle.numbers.specs.Grid.{cell}
use Rattle.f64_error.specs.Series.{series_z, block_z}
use Rattle.cosines.specs.Cosines.{c_z, cos_z}
use Rattle.exact_transform.specs.Exact.{exact, Modest}
use Rattle.idct_laws.specs.Changes.{series_n}
use Rattle.idct_laws.specs.Moved.{Moved, Constants, fourth}
use Rattle.idct_laws.proofs.Fractions.{Beside, product}
use Rattle.idct_laws.proofs.Pushes.{c-size, cos-size}
use Rattle.idct_laws.proofs.Sums.{sums_scaled_apart}

-- a value of at most 2 ^ 15 and four constants of at most 1, each e / 2 ^ 55 greater, make at most g / 2 ^ 220 more
abbrev pub Small : ℕ → ℕ → Type 0
Small e g = (2 ^ 55 + e) * (2 ^ 55 + e) * 2 ^ 15 * (2 ^ 55 + e) * (2 ^ 55 + e) ≤ 2 ^ 235 + g

module _ {e d : ℕ} {c : ℕ → ℤ} {k : ℕ → ℕ → ℤ} (near : Constants e d c k) (l : List (List ℤ)) (modest : Modest l) (y x : ℕ) (ly : y < 8) (lx : x < 8) where
  -- d ^ 4, as the factors make it
  abbrev over : ℕ
  over = d * d * 1 * d * d

  abbrev term : ℕ → ℕ → ℤ
  term v u = c u *ℤ c v *ℤ cell l v u *ℤ k u x *ℤ k v y

  abbrev term_z : ℕ → ℕ → ℤ
  term_z v u = c_z u *ℤ c_z v *ℤ cell l v u *ℤ cos_z u x *ℤ cos_z v y

  constant : (p q : ℤ) → nat_abs q ≤ 2 ^ 55 → Moved e d p q → Beside p q (2 ^ 55) d (2 ^ 55) (2 ^ 55 + e)
  constant p q s h = record { size = s; moved = omega arith }

  factor : (u : ℕ) → u < 8 → Beside (c u) (c_z u) (2 ^ 55) d (2 ^ 55) (2 ^ 55 + e)
  factor u i = constant (c u) (c_z u) (c-size u) (near.factor u i)

  cosine : (u w : ℕ) → u < 8 → w < 8 → Beside (k u w) (cos_z u w) (2 ^ 55) d (2 ^ 55) (2 ^ 55 + e)
  cosine u w i j = constant (k u w) (cos_z u w) (cos-size u w) (near.cosine u w i j)

  value : (v u : ℕ) → v < 8 → u < 8 → Beside (cell l v u) (cell l v u) 1 1 (2 ^ 15) (2 ^ 15)
  value v u i j = record { size = modest v u i j; moved = same (cell l v u) }
    where
      same : (z : ℤ) → nat_abs (z *ℤ pos 1 -ℤ z *ℤ pos 1) + 1 * 2 ^ 15 ≤ 1 * 2 ^ 15
      same z = omega (arith, halves (z *ℤ pos 1 -ℤ z *ℤ pos 1), diff_is (z *ℤ pos 1) (z *ℤ pos 1))

  module _ (g : ℕ) (small : Small e g) where
    term_moved : (v u : ℕ) → v < 8 → u < 8 → nat_abs (term v u *ℤ pos (2 ^ 220) -ℤ term_z v u *ℤ pos over) ≤ 1 * (over * g)
    term_moved v u i j =
        rest over (2 ^ 235) _ _ small (product (product (product (product (factor u j) (factor v i)) (value v u i j)) (cosine u x j lx)) (cosine v y i ly)).moved
      where
        rest : (D b m p : ℕ) → m ≤ b + g → p + D * b ≤ D * m → p ≤ 1 * (D * g)
        rest D b m p s h = line (mul-le-mul (le_refl D) s)
          where
            line : D * m ≤ D * (b + g) → p ≤ 1 * (D * g)
            line t = omega arith

    -- 64 terms
    pub sum_moved : nat_abs (block_z c k (cell l) y x *ℤ pos (2 ^ 220) -ℤ exact l y x *ℤ pos (fourth d)) ≤ 64 * (fourth d * g)
    unfolding series_n
    sum_moved =
        subst (λ (D : ℕ). nat_abs (block_z c k (cell l) y x *ℤ pos (2 ^ 220) -ℤ exact l y x *ℤ pos D) ≤ 64 * (D * g)) over_is
        (sums_scaled_apart (λ v. series_z (term v) 8) (λ v. series_z (term_z v) 8) (pos (2 ^ 220)) (pos over) (λ v. 8) (over * g) 8
        (λ v i. sums_scaled_apart (term v) (term_z v) (pos (2 ^ 220)) (pos over) (λ u. 1) (over * g) 8 (λ u j. term_moved v u i j)))
      where
        over_is : over ≡ fourth d
        over_is = omega arith
