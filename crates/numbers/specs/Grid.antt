-- A list by its elements, and an 8x8 block as a list of eight rows of eight. Definitions only.
use Rattle.std.specs.Prelude.{List, [], ◌∷◌, ℕ, zero, suc, ℤ, pos, get_or}

-- the list f 0, f 1, .., f (n - 1)
unfoldable pub build : {A : Type 0} → ℕ → (ℕ → A) → List A
build zero f = []
build (suc n) f = f 0 ∷ build n (λ (k : ℕ). f (suc k))

-- n rows of m: row v has f v u at u
abbrev pub grid : {A : Type 0} → ℕ → ℕ → (ℕ → ℕ → A) → List (List A)
grid n m f = build n (λ (v : ℕ). build m (f v))

-- an 8x8 block by its cells
abbrev pub block : {A : Type 0} → (ℕ → ℕ → A) → List (List A)
block f = grid 8 8 f

-- the cell of a block of integers at row v, column u
abbrev pub cell : List (List ℤ) → ℕ → ℕ → ℤ
cell b v u = get_or (get_or b v []) u (pos 0)

-- the same of natural numbers
abbrev pub cell_n : List (List ℕ) → ℕ → ℕ → ℕ
cell_n b v u = get_or (get_or b v []) u 0
