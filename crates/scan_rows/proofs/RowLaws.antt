-- Places with a level at the DC's, by a scan: all 64, stored in eight rows that name them as its grid does, and none but the level. Assumes nothing.
use mathlib.Core.Bool.{true}
use mathlib.Core.List.{List, []}
use mathlib.Core.Path.{◌≡◌, refl, sym, ap, ◌∙◌}
use Prim.Native.Nat.{ℕ, zero, suc, ◌≤◌, ◌<◌}
use native.Mathlib.Omega.{arith}
use lib.Dec.{ltb}
use lib.IntN.{ℤ, pos}
use lib.ListN.{get_or, length, set}
use lib.Seq.{get_or-set_other, get_or-set_same}
use borrow.Author.Tests.{ltb-true}
use Rattle.numbers.specs.Grid.{build, cell_n}
use Rattle.numbers.proofs.Every.{every_get}
use Rattle.numbers.proofs.Fill.{block-eq}
use Rattle.scan.specs.Scan.{grid_of, scanned}
use Rattle.scan.specs.declared.ScanType.{ScanType}
use Rattle.scan.proofs.BlockLaws.{cell_stored}
use Rattle.scan.proofs.ScanLaws.{grid-below, grid_first, grid_later}
use Rattle.scan_rows.specs.Rows.{inside, zeros}
use Rattle.scan_rows.specs.UpTo.{up_to}
use Rattle.scan_rows.proofs.UpToLaws.{up_to_above, up_to_below, up_to_length}

pub inside-below : (at : List ℕ) → inside at ≡ true → (k : ℕ) → get_or at k 0 < 64
inside-below at e k = ltb-true (get_or at k 0) 64 (every_get (λ (n : ℕ). ltb n 64) 0 refl at e k)

module _ (level : ℤ) (qfs : List ℤ) (s : ScanType) (l : 64 ≤ length qfs) where
  abbrev put : ℕ → ℕ → ℤ
  put v u = get_or (set qfs 0 level) (cell_n (grid_of s) v u) (pos 0)

  other_cells : (v u : ℕ) → v < 8 → u < 8 → ((v ≡ 0) × (u ≡ 0) → ⊥) → get_or qfs (cell_n (grid_of s) v u) (pos 0) ≡ put v u
  other_cells v u p q h =
      let n = cell_n (grid_of s) v u in
      let m = grid_later s v u p q h in
      sym (get_or-set_other qfs 0 n level (pos 0) (λ e. omega arith))

  first_cell : level ≡ put 0 0
  first_cell = sym (ap (λ (n : ℕ). get_or (set qfs 0 level) n (pos 0)) (grid_first s) ∙ get_or-set_same qfs 0 level (pos 0) (omega arith))

  abbrev row : ℕ → List ℤ
  row v = build 8 (λ (u : ℕ). get_or qfs (cell_n (grid_of s) v u) (pos 0))

  pub rows_stored : {b : List (List ℤ)} {x : ℤ} {r₀ r₁ r₂ r₃ r₄ r₅ r₆ r₇ : List ℤ} → b ≡ zeros → x ≡ level
      → r₀ ≡ row 0 → r₁ ≡ row 1 → r₂ ≡ row 2 → r₃ ≡ row 3 → r₄ ≡ row 4 → r₅ ≡ row 5 → r₆ ≡ row 6 → r₇ ≡ row 7
      → set (set (set (set (set (set (set (set b 0 (set r₀ 0 x)) 1 r₁) 2 r₂) 3 r₃) 4 r₄) 5 r₅) 6 r₆) 7 r₇ ≡ scanned (set qfs 0 level) s
  unfolding build
  rows_stored e w e₀ e₁ e₂ e₃ e₄ e₅ e₆ e₇ =
      (λ i. set (set (set (set (set (set (set (set (e i) 0 (set (e₀ i) 0 (w i))) 1 (e₁ i)) 2 (e₂ i)) 3 (e₃ i)) 4 (e₄ i)) 5 (e₅ i)) 6 (e₆ i)) 7 (e₇ i))
      ∙ cell_stored (λ (v u : ℕ). get_or qfs (cell_n (grid_of s) v u) (pos 0)) put 0 0 other_cells (scanned qfs s) level refl (omega arith) (omega arith) first_cell

  -- an end from 64 on leaves none of them out
  same_place : (end : ℕ) → 64 ≤ end → (k : ℕ) → k < 64 → get_or (set qfs 0 level) k (pos 0) ≡ get_or (set (up_to end qfs) 0 level) k (pos 0)
  same_place end m zero h = get_or-set_same qfs 0 level (pos 0) (omega arith) ∙ sym (get_or-set_same (up_to end qfs) 0 level (pos 0) (omega (arith, up_to_length end qfs)))
  same_place end m (suc k) h =
      get_or-set_other qfs 0 (suc k) level (pos 0) (λ e. omega arith)
      ∙ sym (get_or-set_other (up_to end qfs) 0 (suc k) level (pos 0) (λ e. omega arith) ∙ up_to_below end qfs (suc k) h (omega arith))

  pub all_scanned : (end : ℕ) → 64 ≤ end → scanned (set qfs 0 level) s ≡ scanned (set (up_to end qfs) 0 level) s
  all_scanned end m =
      block-eq put (λ (v u : ℕ). get_or (set (up_to end qfs) 0 level) (cell_n (grid_of s) v u) (pos 0))
      (λ v u p q. same_place end m (cell_n (grid_of s) v u) (grid-below s v u))

-- up to 1 the level is alone
module _ (level : ℤ) (end : ℕ) (qfs : List ℤ) (s : ScanType) (l : end ≤ 1) where
  abbrev alone : ℕ → ℕ → ℤ
  alone v u = get_or (set (up_to end qfs) 0 level) (cell_n (grid_of s) v u) (pos 0)

  no-others : (v u : ℕ) → v < 8 → u < 8 → ((v ≡ 0) × (u ≡ 0) → ⊥) → pos 0 ≡ alone v u
  no-others v u p q h =
      let n = cell_n (grid_of s) v u in
      let m = grid_later s v u p q h in
      sym (get_or-set_other (up_to end qfs) 0 n level (pos 0) (λ e. omega arith) ∙ up_to_above end qfs n (omega arith))

  pub level-alone : (b : List (List ℤ)) (x : ℤ) → b ≡ zeros → x ≡ level → set b 0 (set (get_or b 0 []) 0 x) ≡ scanned (set (up_to end qfs) 0 level) s
  level-alone b x e w =
      cell_stored (λ (v u : ℕ). pos 0) alone 0 0 no-others b x e (omega arith) (omega arith)
      (w ∙ sym (ap (λ (n : ℕ). get_or (set (up_to end qfs) 0 level) n (pos 0)) (grid_first s) ∙ get_or-set_same (up_to end qfs) 0 level (pos 0) (omega (arith, up_to_length end qfs))))
