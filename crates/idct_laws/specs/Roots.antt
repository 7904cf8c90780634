-- The nine cosines of the first quarter as nested square roots, and how near a fraction is to one, compared by squares of whole numbers. Definitions only.
use Rattle.std.specs.Prelude.{Bool, cond, ◌&&◌, ◌||◌, [], ◌∷◌, ℕ, ◌-◌, ◌*◌, ◌^◌, eqb, leb, ltb, ℤ, pos, neg_ℤ, ◌+ℤ◌, ◌-ℤ◌, ◌*ℤ◌, get_or}
use Rattle.std.specs.Int.Signed.{le_z, lt_z}

-- a whole number, √(2 + r), √(2 - r)
pub data Root : Type 0 where
  whole : ℕ → Root
  plus : Root → Root
  minus : Root → Root

-- n / s ≤ r, and r ≤ n / s. A root is not below 0, and is compared by squares: n² / s² with 2 + r, so n² / s² - 2 with r, or with 2 - r,
-- so 2 - n² / s² with r, the other way round
unfoldable mutual
  pub at_most : ℤ → ℕ → Root → Bool
  at_most n s (whole k) = le_z n (pos (k * s))
  at_most n s (plus r) = lt_z n (pos 0) || at_most (n *ℤ n -ℤ pos (2 * (s * s))) (s * s) r
  at_most n s (minus r) = lt_z n (pos 0) || at_least (pos (2 * (s * s)) -ℤ n *ℤ n) (s * s) r

  pub at_least : ℤ → ℕ → Root → Bool
  at_least n s (whole k) = le_z (pos (k * s)) n
  at_least n s (plus r) = le_z (pos 0) n && at_least (n *ℤ n -ℤ pos (2 * (s * s))) (s * s) r
  at_least n s (minus r) = le_z (pos 0) n && at_most (pos (2 * (s * s)) -ℤ n *ℤ n) (s * s) r

-- 2 cos(k pi / 16), for k from 0 to 8
unfoldable pub double_cosine : ℕ → Root
double_cosine k =
    get_or
    (whole 2
    ∷ plus (plus (plus (whole 0)))
    ∷ plus (plus (whole 0))
    ∷ plus (minus (plus (whole 0)))
    ∷ plus (whole 0)
    ∷ minus (minus (plus (whole 0)))
    ∷ minus (plus (whole 0))
    ∷ minus (plus (plus (whole 0)))
    ∷ whole 0
    ∷ [])
    k
    (whole 0)

-- the symmetries of the cosine: a turn of m sixteenths of pi, m at most 32, brought into the first quarter, and whether its cosine is below 0
abbrev pub quarter : ℕ → ℕ
quarter m = cond (leb m 8) m (cond (leb m 16) (16 - m) (cond (leb m 24) (m - 16) (32 - m)))

abbrev pub negative : ℕ → Bool
negative m = ltb 8 m && ltb m 24

-- z / d is within e / 2 ^ 55 of half the root
abbrev pub near_root : ℕ → ℤ → ℕ → Root → Bool
near_root e z d r = at_most (z *ℤ pos (2 ^ 55) -ℤ pos (d * e)) (d * 2 ^ 54) r && at_least (z *ℤ pos (2 ^ 55) +ℤ pos (d * e)) (d * 2 ^ 54) r

-- z / d is within e / 2 ^ 55 of cos(m pi / 16)
abbrev pub near_cosine : ℕ → ℤ → ℕ → ℕ → Bool
near_cosine e z d m = near_root e (cond (negative m) (neg_ℤ z) z) d (double_cosine (quarter m))

-- C(u) as the cosine of a turn: 1 / √2 is cos(4 pi / 16), 1 is cos(0)
abbrev pub factor_turn : ℕ → ℕ
factor_turn u = cond (eqb u 0) 4 0
