-- A table is a list of codes as numbers and a list of their lengths: its codes as bits, how one is sought in a window, when bits end inside one, and the test of a whole table. Definitions only.
use Rattle.std.specs.Prelude.{ℕ, zero, suc, ◌-◌, ◌/◌, ◌^◌, ◌<◌, ◌≤◌, Bool, true, false, not, cond, ◌&&◌, List, [], ◌∷◌, ◌≡◌, T, eqb, leb, ltb, length, get_or, take}
use Rattle.bits.specs.Bits.{Bits, val, bin}

-- the code of a row as bits
abbrev pub code_bits : List ℕ → List ℕ → ℕ → Bits
code_bits cs ls i = bin (get_or ls i 0) (get_or cs i 0)

-- a code d of m bits stands at the front of the window w of n bits
abbrev pub hit : ℕ → ℕ → ℕ → ℕ → Bool
hit w n d m = leb m n && eqb (w / 2 ^ (n - m)) d

-- the first of n numbers from i on that passes; i + n where none does
unfoldable pub seek : (ℕ → Bool) → ℕ → ℕ → ℕ
seek f zero i = i
seek f (suc n) i = cond (f i) i (seek f n (suc i))

-- the code of row i stands at the front of the window
abbrev pub hit_at : List ℕ → List ℕ → ℕ → ℕ → ℕ → Bool
hit_at cs ls w n i = hit w n (get_or cs i 0) (get_or ls i 0)

-- the row, of the first `rows`, whose code begins the window; `rows` where there is none
abbrev pub row_in : List ℕ → List ℕ → ℕ → ℕ → ℕ → ℕ
row_in cs ls rows w n = seek (λ i. hit w n (get_or cs i 0) (get_or ls i 0)) rows 0

-- r is such a row, or `rows` where there is none: in a prefix-free table r is `row_in`'s, since there is one at most
abbrev pub Found : List ℕ → List ℕ → ℕ → ℕ → ℕ → ℕ → Type 0
Found cs ls rows w n r = (r < rows → T (hit_at cs ls w n r)) × (rows ≤ r → row_in cs ls rows w n ≡ r)

-- the row whose code begins the bits, sought in the next `width` of them, or in fewer if fewer remain
abbrev pub row_at : List ℕ → List ℕ → ℕ → ℕ → Bits → ℕ
row_at cs ls width rows b = row_in cs ls rows (val (take width b)) (length (take width b))

-- ---- bits that end inside a code

-- the n bits w begin a code d of m bits, and it has more
abbrev pub cut : ℕ → ℕ → ℕ → ℕ → Bool
cut w n d m = ltb n m && eqb w (d / 2 ^ (m - n))

-- the code of some row, of the first `rows`, is cut so
abbrev pub cut_in : List ℕ → List ℕ → ℕ → ℕ → ℕ → Bool
cut_in cs ls rows w n = ltb (seek (λ i. cut w n (get_or cs i 0) (get_or ls i 0)) rows 0) rows

-- all the bits that remain are such a beginning
abbrev pub cut_at : List ℕ → List ℕ → ℕ → Bits → Bool
cut_at cs ls rows b = cut_in cs ls rows (val b) (length b)

-- ---- the test of a whole table, computed once: each code has its length, lengths are 1 to `width`, and no code begins another

-- two numbers of l and m bits agree in the bits that both have
abbrev pub agree : ℕ → ℕ → ℕ → ℕ → Bool
agree c l d m = eqb (c / 2 ^ (l - m)) (d / 2 ^ (m - l))

abbrev pub apart_from : ℕ → ℕ → List ℕ → List ℕ → Bool
apart_from c l [] ls = true
apart_from c l (d ∷ ds) [] = false
apart_from c l (d ∷ ds) (m ∷ ms) = not (agree c l d m) && apart_from c l ds ms

-- a row by itself: a length from 1 to `width`, and a code of that many bits
abbrev pub sound_row : ℕ → ℕ → ℕ → Bool
sound_row width c l = ltb 0 l && (leb l width && ltb c (2 ^ l))

-- the rows are sound, and no code begins another
abbrev pub prefix_free : ℕ → List ℕ → List ℕ → Bool
prefix_free width [] [] = true
prefix_free width [] (m ∷ ms) = false
prefix_free width (c ∷ cs) [] = false
prefix_free width (c ∷ cs) (l ∷ ls) = sound_row width c l && (apart_from c l cs ls && prefix_free width cs ls)
