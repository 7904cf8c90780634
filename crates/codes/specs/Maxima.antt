-- The cells of Tables B.19 to B.22, LMAX and RMAX, as printed: by last, from a first to a final run or level. Definitions only.
use Rattle.std.specs.Prelude.{Bool, true, false, cond, ◌&&◌, List, [], ◌∷◌, ℕ, zero, suc, eqb, leb, Option, None, Some}

pub data Cells : Type 0 where
  cells : (last from to value : ℕ) → Cells

-- the value of the cell of a last and a run or level; the cells that are left out say N/A
unfoldable pub cell_at : List Cells → ℕ → ℕ → Option ℕ
cell_at [] last x = None
cell_at (cells l from to v ∷ cs) last x = cond (eqb l last && (leb from x && leb x to)) (Some v) (cell_at cs last x)

-- Table B.19: LMAX, intra, by last and run
unfoldable pub lmax_intra : List Cells
lmax_intra =
    cells 0 0 0 27 ∷ cells 0 1 1 10 ∷ cells 0 2 2 5 ∷ cells 0 3 3 4 ∷ cells 0 4 7 3 ∷ cells 0 8 9 2 ∷ cells 0 10 14 1
    ∷ cells 1 0 0 8 ∷ cells 1 1 1 3 ∷ cells 1 2 6 2 ∷ cells 1 7 20 1
    ∷ []

-- Table B.20: LMAX, inter, by last and run
unfoldable pub lmax_inter : List Cells
lmax_inter =
    cells 0 0 0 12 ∷ cells 0 1 1 6 ∷ cells 0 2 2 4 ∷ cells 0 3 6 3 ∷ cells 0 7 10 2 ∷ cells 0 11 26 1
    ∷ cells 1 0 0 3 ∷ cells 1 1 1 2 ∷ cells 1 2 40 1
    ∷ []

-- Table B.21: RMAX, intra, by last and level
unfoldable pub rmax_intra : List Cells
rmax_intra =
    cells 0 1 1 14 ∷ cells 0 2 2 9 ∷ cells 0 3 3 7 ∷ cells 0 4 4 3 ∷ cells 0 5 5 2 ∷ cells 0 6 10 1 ∷ cells 0 11 27 0
    ∷ cells 1 1 1 20 ∷ cells 1 2 2 6 ∷ cells 1 3 3 1 ∷ cells 1 4 8 0
    ∷ []

-- Table B.22: RMAX, inter, by last and level
unfoldable pub rmax_inter : List Cells
rmax_inter =
    cells 0 1 1 26 ∷ cells 0 2 2 10 ∷ cells 0 3 3 6 ∷ cells 0 4 4 2 ∷ cells 0 5 6 1 ∷ cells 0 7 12 0
    ∷ cells 1 1 1 40 ∷ cells 1 2 2 1 ∷ cells 1 3 3 0
    ∷ []

-- ---- the test of a whole table: at each last and each x below n the printed cell is what the rows give

abbrev pub same : Option ℕ → Option ℕ → Bool
same None None = true
same None (Some y) = false
same (Some x) None = false
same (Some x) (Some y) = eqb x y

unfoldable pub agree_below : (ℕ → Bool) → ℕ → Bool
agree_below f zero = true
agree_below f (suc n) = f n && agree_below f n

abbrev pub printed : List Cells → (ℕ → ℕ → Option ℕ) → ℕ → Bool
printed cs rows n = agree_below (λ (x : ℕ). same (cell_at cs 0 x) (rows 0 x) && same (cell_at cs 1 x) (rows 1 x)) n
