-- An 8x8 block by its cells: its shape, what holds of each cell, and a change of one. Assumes nothing.
use mathlib.Core.Bool.{Bool, true, false, cond, ◌&&◌}
use mathlib.Core.List.{List, [], ◌∷◌}
use mathlib.Core.Logic.{⊎_elim}
use mathlib.Core.Path.{◌≡◌, refl, ap, sym, subst, ◌∙◌}
use Prim.Native.Nat.{ℕ, zero, suc, ◌<◌, ◌≤◌}
use native.Mathlib.Nat.{le_of_suc-le-suc, not-suc-le-zero}
use native.Mathlib.Omega.{arith}
use lib.Dec.{eqb}
use lib.IntN.{ℤ, pos}
use lib.ListN.{length, get_or, set, length-set, get_or-eq_default}
use lib.Seq.{get_or-set_same, get_or-set_other}
use mir.Val.{Val}
use denote.Array.{Array, each}
use denote.RattleType.{RattleType}
use denote.Shadow.{shadow}
use borrow.Author.Tests.{eqb-true, eqb-false}
use Rattle.numbers.specs.Grid.{build, block, cell}
use Rattle.numbers.proofs.Fill.{lt-or-le, block-eq, cell-block, get_or-build, is-build, length-build}

-- ---- eight rows of eight

pub record Square {A : Type 0} (b : List (List A)) : Type 0 where
  pub long : length b ≡ 8
  pub wide : (v : ℕ) → v < 8 → length (get_or b v []) ≡ 8

-- what owning an array of arrays tells of its rows
rows-wide : (R : RattleType) (n : ℕ) (xs : List (List R.Denot)) (us : List Val) → shadow (each (List R.Denot) (Array R n).own_val xs us) → (i : ℕ) → i < length xs → length (get_or xs i []) ≡ n
rows-wide R n [] us p i h = absurd (not-suc-le-zero h)
rows-wide R n (x ∷ xs) [] p i h = absurd p
rows-wide R n (x ∷ xs) (u ∷ us) p zero h = p.0.1.0.1
rows-wide R n (x ∷ xs) (u ∷ us) p (suc i) h = rows-wide R n xs us p.1 i (le_of_suc-le-suc h)

pub square_owned : (R : RattleType) (xs : List (List R.Denot)) (us : List Val) → length xs ≡ 8 → shadow (each (List R.Denot) (Array R 8).own_val xs us) → Square xs
square_owned R xs us e p = record { long = e; wide = λ v h. rows-wide R 8 xs us p v (omega arith) }

pub square-block : {A : Type 0} (f : ℕ → ℕ → A) → Square (block f)
square-block f =
    record {
      long = length-build 8 (λ (v : ℕ). build 8 (f v));
      wide = λ v h. ap length (get_or-build 8 (λ (i : ℕ). build 8 (f i)) v [] h) ∙ length-build 8 (f v);
    }

pub wide_most : {A : Type 0} (b : List (List A)) → Square b → (v : ℕ) → length (get_or b v []) ≤ 8
wide_most b s v =
    ⊎_elim (λ (p : v < 8). omega (arith, s.wide v p))
    (λ (p : 8 ≤ v). omega (arith, ap length (get_or-eq_default b [] {n = v} (omega (arith, s.long)))))
    (lt-or-le v 8)

-- ---- the cells

-- what holds of 0 and of each cell inside holds of every cell
pub each_cell : (P : ℤ → Type 0) (b : List (List ℤ)) → Square b → P (pos 0) → ((v u : ℕ) → v < 8 → u < 8 → P (cell b v u)) → (v u : ℕ) → P (cell b v u)
each_cell P b s z h v u =
    ⊎_elim
    (λ (p : v < 8).
    ⊎_elim (λ (q : u < 8). h v u p q)
    (λ (q : 8 ≤ u). subst P (sym (get_or-eq_default (get_or b v []) (pos 0) {n = u} (omega (arith, wide_most b s v)))) z)
    (lt-or-le u 8))
    (λ (p : 8 ≤ v). subst P (sym (ap (λ (r : List ℤ). get_or r u (pos 0)) (get_or-eq_default b [] {n = v} (omega (arith, s.long))))) z)
    (lt-or-le v 8)

-- a block is made of its cells
pub block_same : (b : List (List ℤ)) → Square b → b ≡ block (cell b)
block_same b s =
    is-build [] b 8 (λ (v : ℕ). build 8 (cell b v)) s.long
    (λ (v : ℕ) (p : v < 8). is-build (pos 0) (get_or b v []) 8 (cell b v) (s.wide v p) (λ (u : ℕ) (q : u < 8). refl))

-- one cell changed, to what g has there
module _ (b : List (List ℤ)) (s : Square b) (g : ℕ → ℕ → ℤ) (r k : ℕ) (p : r < 8) (q : k < 8) where
  in_row : (u : ℕ) (t : Bool) → eqb u k ≡ t → get_or (set (get_or b r []) k (g r k)) u (pos 0) ≡ cond t (g r u) (cell b r u)
  in_row u true e = rw (eqb-true u k e) (get_or-set_same (get_or b r []) k (g r k) (pos 0) (omega (arith, s.wide r p)))
  in_row u false e = get_or-set_other (get_or b r []) k u (g r k) (pos 0) (eqb-false u k e)

  row : (v : ℕ) → v < 8 → (t : Bool) → eqb v r ≡ t → get_or (set b r (set (get_or b r []) k (g r k))) v [] ≡ build 8 (λ (u : ℕ). cond (t && eqb u k) (g v u) (cell b v u))
  row v h true e =
      let n : List ℤ = set (get_or b r []) k (g r k) in
      rw (eqb-true v r e)
      (get_or-set_same b r n [] (omega (arith, s.long))
      ∙ is-build (pos 0) n 8 (λ (u : ℕ). cond (eqb u k) (g r u) (cell b r u)) (length-set (get_or b r []) k (g r k) ∙ s.wide r p) (λ (u : ℕ) (l : u < 8). in_row u (eqb u k) refl))
  row v h false e =
      get_or-set_other b r v (set (get_or b r []) k (g r k)) [] (eqb-false v r e) ∙ is-build (pos 0) (get_or b v []) 8 (cell b v) (s.wide v h) (λ (u : ℕ) (l : u < 8). refl)

  pub block-set : set b r (set (get_or b r []) k (g r k)) ≡ block (λ (v u : ℕ). cond (eqb v r && eqb u k) (g v u) (cell b v u))
  block-set =
      is-build [] (set b r (set (get_or b r []) k (g r k))) 8 (λ (v : ℕ). build 8 (λ (u : ℕ). cond (eqb v r && eqb u k) (g v u) (cell b v u)))
      (length-set b r (set (get_or b r []) k (g r k)) ∙ s.long) (λ (v : ℕ) (h : v < 8). row v h (eqb v r) refl)

-- the same of a block by its cells: with the cell changed it is one that has the new value there, and the old ones elsewhere
module _ (f g : ℕ → ℕ → ℤ) (r k : ℕ) (same : (v u : ℕ) → v < 8 → u < 8 → ((v ≡ r) × (u ≡ k) → ⊥) → f v u ≡ g v u) where
  changed : (v u : ℕ) → v < 8 → u < 8 → (s t : Bool) → eqb v r ≡ s → eqb u k ≡ t → cond (s && t) (g v u) (cell (block f) v u) ≡ g v u
  changed v u p q true true e h = refl
  changed v u p q true false e h = cell-block f v u p q ∙ same v u p q (λ z. eqb-false u k h z.1)
  changed v u p q false t e h = cell-block f v u p q ∙ same v u p q (λ z. eqb-false v r e z.0)

  pub cell_stored : (b : List (List ℤ)) (x : ℤ) → b ≡ block f → r < 8 → k < 8 → x ≡ g r k → set b r (set (get_or b r []) k x) ≡ block g
  cell_stored b x e p q w =
      ap (λ (t : List (List ℤ)). set t r (set (get_or t r []) k x)) e
      ∙ ap (λ (z : ℤ). set (block f) r (set (get_or (block f) r []) k z)) w
      ∙ block-set (block f) (square-block f) g r k p q
      ∙ block-eq (λ (v u : ℕ). cond (eqb v r && eqb u k) (g v u) (cell (block f) v u)) g (λ v u l m. changed v u l m (eqb v r) (eqb u k) refl refl)
