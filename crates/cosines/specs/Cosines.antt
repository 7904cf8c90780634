-- The constants of Annex A.1: each as the f64 that the program has, and as a whole number of 2 ^ -55. Definitions only.
use Rattle.std.specs.Prelude.{cond, List, [], ◌∷◌, ℕ, ◌+◌, ◌-◌, ◌*◌, ◌%◌, leb, eqb, Float, ℤ, pos, neg_ℤ, get_or}
use Rattle.std.specs.Float.{nan, binary64}
use Rattle.std.specs.Float.Ieee.{of_bits, neg}
use Rattle.numbers.specs.Grid.{build}

-- cos(k pi / 16), for k from 0 to 8
abbrev pub cosines : List Float
cosines =
    of_bits binary64 0x3ff0000000000000
    ∷ of_bits binary64 0x3fef6297cff75cb0
    ∷ of_bits binary64 0x3fed906bcf328d46
    ∷ of_bits binary64 0x3fea9b66290ea1a3
    ∷ of_bits binary64 0x3fe6a09e667f3bcd
    ∷ of_bits binary64 0x3fe1c73b39ae68c8
    ∷ of_bits binary64 0x3fd87de2a6aea963
    ∷ of_bits binary64 0x3fc8f8b83c69a60b
    ∷ of_bits binary64 0
    ∷ []

-- the same, times 2 ^ 55
abbrev pub numerators : List ℕ
numerators =
    36028797018963968
    ∷ 35336513786835648
    ∷ 33286268146824472
    ∷ 29956849889085068
    ∷ 25476206690103092
    ∷ 20016527155241760
    ∷ 13787623707202246
    ∷ 7028869612283403
    ∷ 0
    ∷ []

-- the turn (2x + 1) u, in sixteenths of pi
abbrev pub turn : ℕ → ℕ → ℕ
turn u x = (2 * x + 1) * u % 32

-- the cosine of m sixteenths of pi, by its quarter
unfoldable pub by_turn_f : ℕ → Float
by_turn_f m =
    cond (leb m 8) (get_or cosines m nan) (cond (leb m 16) (neg (get_or cosines (16 - m) nan)) (cond (leb m 24) (neg (get_or cosines (m - 16) nan)) (get_or cosines (32 - m) nan)))

unfoldable pub by_turn_z : ℕ → ℤ
by_turn_z m =
    cond (leb m 8) (pos (get_or numerators m 0))
    (cond (leb m 16) (neg_ℤ (pos (get_or numerators (16 - m) 0))) (cond (leb m 24) (neg_ℤ (pos (get_or numerators (m - 16) 0))) (pos (get_or numerators (32 - m) 0))))

-- cos((2x + 1) u pi / 16)
abbrev pub cos_f : ℕ → ℕ → Float
cos_f u x = by_turn_f (turn u x)

-- the same at x below 4
abbrev pub half_table : List (List Float)
half_table = build 8 (λ (u : ℕ). build 4 (cos_f u))

abbrev pub cos_z : ℕ → ℕ → ℤ
cos_z u x = by_turn_z (turn u x)

-- C(u): 1 / √2 at 0, and 1 elsewhere
unfoldable pub c_f : ℕ → Float
c_f u = cond (eqb u 0) (of_bits binary64 0x3fe6a09e667f3bcd) (of_bits binary64 0x3ff0000000000000)

unfoldable pub c_z : ℕ → ℤ
c_z u = cond (eqb u 0) (pos 25476206690103092) (pos 36028797018963968)
