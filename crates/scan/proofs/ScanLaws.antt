-- The grids of Figure 7-4: each is a permutation of 0 to 63, by one computed test, and has place 0 in its first cell alone. Assumes nothing.
use mathlib.Core.Bool.{Bool, true, cond, ◌&&◌}
use mathlib.Core.List.{List, [], ◌∷◌, ◌++◌}
use mathlib.Core.Logic.{⊎_elim}
use mathlib.Core.Path.{◌≡◌, refl, subst}
use Prim.Native.Nat.{ℕ, zero, suc, ◌+◌, ◌-◌, ◌*◌, ◌/◌, ◌%◌, ◌<◌, ◌≤◌}
use native.Mathlib.Omega.{arith}
use lib.Dec.{T, eqb, ltb, ltb→lt}
use lib.ListN.{length}
use Rattle.numbers.specs.Every.{every}
use Rattle.numbers.specs.Grid.{build, cell_n}
use Rattle.numbers.proofs.Every.{cell_at, every-build}
use Rattle.numbers.proofs.Fill.{lt-or-le}
use Rattle.scan.specs.declared.ScanType.{ScanType}
use Rattle.scan.specs.declared.ScanType.TheVariants.{AlternateHorizontal, AlternateVertical, Zigzag}
use Rattle.scan.specs.Scan.{grid_of, alt_horizontal, alt_vertical, zigzag}

-- the cells of a grid, row by row, and how often a number is among them
abbrev pub cells_of : List (List ℕ) → List ℕ
cells_of [] = []
cells_of (r ∷ rs) = r ++ cells_of rs

abbrev pub times : ℕ → List ℕ → ℕ
times n [] = 0
times n (x ∷ xs) = cond (eqb n x) (suc (times n xs)) (times n xs)

-- whether each number below n is there once
abbrev once : ℕ → List ℕ → Bool
once zero xs = true
once (suc n) xs = eqb (times n xs) 1 && once n xs

-- 64 cells, and each number below 64 in one of them
abbrev pub permutation : List (List ℕ) → Bool
permutation g = eqb (length (cells_of g)) 64 && once 64 (cells_of g)

pub grid_permutes : (s : ScanType) → T (permutation (grid_of s))
unfolding alt_horizontal alt_vertical zigzag
grid_permutes AlternateHorizontal = tt
grid_permutes AlternateVertical = tt
grid_permutes Zigzag = tt

abbrev below64 : ℕ → Bool
below64 n = ltb n 64

pub grid-below : (s : ScanType) (v u : ℕ) → cell_n (grid_of s) v u < 64
unfolding alt_horizontal alt_vertical zigzag
grid-below AlternateHorizontal v u = ltb→lt _ _ (cell_at below64 alt_horizontal tt tt v u)
grid-below AlternateVertical v u = ltb→lt _ _ (cell_at below64 alt_vertical tt tt v u)
grid-below Zigzag v u = ltb→lt _ _ (cell_at below64 zigzag tt tt v u)

-- place 0 lies in the first cell, and nowhere else
pub grid_first : (s : ScanType) → cell_n (grid_of s) 0 0 ≡ 0
unfolding alt_horizontal alt_vertical zigzag
grid_first AlternateHorizontal = refl
grid_first AlternateVertical = refl
grid_first Zigzag = refl

abbrev later : List (List ℕ) → ℕ → Bool
later g n = ltb 0 (cell_n g (suc n / 8) (suc n % 8))

cells_later : (s : ScanType) → T (every (later (grid_of s)) (build 63 (λ (n : ℕ). n)))
unfolding alt_horizontal alt_vertical zigzag build
cells_later AlternateHorizontal = tt
cells_later AlternateVertical = tt
cells_later Zigzag = tt

pub grid_later : (s : ScanType) (v u : ℕ) → v < 8 → u < 8 → ((v ≡ 0) × (u ≡ 0) → ⊥) → 0 < cell_n (grid_of s) v u
grid_later s v u p q h =
    let l : 0 < 8 * v + u = ⊎_elim (λ (a : 0 < 8 * v + u). a) (λ (a : 8 * v + u ≤ 0). absurd (h (omega arith, omega arith))) (lt-or-le 0 (8 * v + u)) in
    let n = 8 * v + u - 1 in
    let d : suc n / 8 ≡ v = omega arith in
    let m : suc n % 8 ≡ u = omega arith in
    let t = ltb→lt 0 (cell_n (grid_of s) (suc n / 8) (suc n % 8)) (every-build (later (grid_of s)) 63 (λ (i : ℕ). i) (cells_later s) n (omega arith)) in
    subst (λ (i : ℕ). 0 < cell_n (grid_of s) v i) m (subst (λ (i : ℕ). 0 < cell_n (grid_of s) i (suc n % 8)) d t)
