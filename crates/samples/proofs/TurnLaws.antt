-- Blocks that are written one after the other: none leave the samples as they are, one more is `block_after`, and all six are the macroblock. Assumes nothing.
use mathlib.Core.Bool.{Bool, true, false, cond, ◌&&◌}
use mathlib.Core.List.{List, [], ◌++◌}
use mathlib.Core.Logic.{⊎_elim}
use mathlib.Core.Path.{◌≡◌, ap, refl, sym, ◌∙◌}
use Prim.Native.Nat.{ℕ, suc, ◌+◌, ◌-◌, ◌<◌, ◌≤◌}
use native.Mathlib.Nat.{eq-or-lt_of_le}
use native.Mathlib.Omega.{arith}
use lib.Dec.{eqb, leb, ltb, ltb→lt}
use lib.IntN.{ℤ, pos}
use lib.ListN.{length, get_or, drop, get_or-append}
use lib.Seq.{get_or-append-add, get_or-drop}
use borrow.Author.Tests.{eq-eqb, le-leb, le-ltb, lt-ltb, ne_eqb}
use Rattle.numbers.proofs.Fill.{build-eq, build-list, get_or-build, is-build, length-build, lt-or-le}
use Rattle.numbers.proofs.Tests.{and-false}
use Rattle.numbers.specs.Grid.{build, cell}
use Rattle.samples.specs.Samples.{block_after, block_of, blocks_after, col_of, mb_samples, row_of, samples_after}
use Rattle.samples.proofs.LayoutLaws.{enough, mb_at, mb-length, samples-long}
use Rattle.samples.proofs.SixBlocks.{every-below}

-- ---- one block: the length, and what stands at k

module _ (i : ℕ) (b : List (List ℤ)) (s : List ℤ) where
  -- at k the block's cell, where k is in block i, or what stood there
  abbrev one_at : ℕ → ℤ
  one_at k = cond (ltb k 384 && eqb (block_of k) i) (cell b (row_of k) (col_of k)) (get_or s k (pos 0))

  built_or_kept : (t : Bool) (f : ℕ → ℤ) → length (cond t (build (length s) f) s) ≡ length s
  built_or_kept true f = length-build (length s) f
  built_or_kept false f = refl

  pub block-length : length (block_after i b s) ≡ length s
  unfolding block_after
  block-length = built_or_kept (ltb i 6 && leb 384 (length s)) one_at

  pub block_at : i < 6 → 384 ≤ length s → (k : ℕ) → k < length s → get_or (block_after i b s) k (pos 0) ≡ cond (ltb k 384 && eqb (block_of k) i) (cell b (row_of k) (col_of k)) (get_or s k (pos 0))
  unfolding block_after
  block_at h l k p = rw (lt-ltb i 6 h, le-leb 384 (length s) l) (get_or-build (length s) one_at k (pos 0) p)

-- ---- in turn

-- one more of the blocks m: n itself, or one below it, or none
more_at : (p : Bool) (m n : ℕ) (f : ℕ → ℤ) (o : ℤ) → cond (p && eqb m n) (f n) (cond (p && ltb m n) (f m) o) ≡ cond (p && ltb m (suc n)) (f m) o
more_at false m n f o = refl
more_at true m n f o =
    ⊎_elim
    (λ (h : m < n). rw (ne_eqb m n (λ (e : m ≡ n). omega arith), lt-ltb m n h, lt-ltb m (suc n) (omega arith)))
    (λ (h : n ≤ m).
    ⊎_elim
    (λ (e : n ≡ m). rw (eq-eqb m n (sym e), lt-ltb m (suc n) (omega arith), e))
    (λ (l : n < m). rw (ne_eqb m n (λ (e : m ≡ n). omega arith), le-ltb m n h, le-ltb m (suc n) (omega arith)))
    (eq-or-lt_of_le h))
    (lt-or-le m n)

-- each of the 384 is in one of the six
abbrev among_six : ℕ → Bool
among_six k = ltb (block_of k) 6

among_six_lem : (k : ℕ) → k < 384 → block_of k < 6
among_six_lem k h = ltb→lt _ _ (every-below among_six 384 tt k h)

module _ (blocks : List (List (List ℤ))) (s : List ℤ) where
  -- at k the cell that is meant, where k is in a block below n, or what stood there
  abbrev turn_at : ℕ → ℕ → ℤ
  turn_at n k = cond (ltb k 384 && ltb (block_of k) n) (cell (get_or blocks (block_of k) []) (row_of k) (col_of k)) (get_or s k (pos 0))

module _ (n : ℕ) (blocks : List (List (List ℤ))) (s : List ℤ) where
  pub turn-length : length (blocks_after n blocks s) ≡ length s
  unfolding blocks_after
  turn-length = length-build (length s) (turn_at blocks s n)

  pub turn_at_lem : (k : ℕ) → k < length s → get_or (blocks_after n blocks s) k (pos 0) ≡ cond (ltb k 384 && ltb (block_of k) n) (cell (get_or blocks (block_of k) []) (row_of k) (col_of k)) (get_or s k (pos 0))
  unfolding blocks_after
  turn_at_lem k p = get_or-build (length s) (turn_at blocks s n) k (pos 0) p

  pub turn_more : n < 6 → 384 ≤ length s → block_after n (get_or blocks n []) (blocks_after n blocks s) ≡ blocks_after (suc n) blocks s
  unfolding blocks_after
  turn_more h l =
      let t = blocks_after n blocks s in
      let b = get_or blocks n [] in
      is-build (pos 0) (block_after n b t) (length s) (turn_at blocks s (suc n)) (block-length n b t ∙ turn-length)
      (λ (k : ℕ) (p : k < length s).
      block_at n b t h (omega (arith, turn-length)) k (omega (arith, turn-length)) ∙ ap (λ (o : ℤ). cond (ltb k 384 && eqb (block_of k) n) (cell b (row_of k) (col_of k)) o) (turn_at_lem k p)
      ∙ more_at (ltb k 384) (block_of k) n (λ (j : ℕ). cell (get_or blocks j []) (row_of k) (col_of k)) (get_or s k (pos 0)))

  -- the same of a block that is known by an equation, and of samples that are
  pub turn_more_by : (b : List (List ℤ)) → n < 6 → 384 ≤ length s → b ≡ get_or blocks n [] → block_after n b (blocks_after n blocks s) ≡ blocks_after (suc n) blocks s
  turn_more_by b h l e = rw e (turn_more h l)

  pub turn_by : (b : List (List ℤ)) (t : List ℤ) → n < 6 → 384 ≤ length s → b ≡ get_or blocks n [] → t ≡ blocks_after n blocks s → block_after n b t ≡ blocks_after (suc n) blocks s
  turn_by b t h l e f = rw f (turn_more_by b h l e)

module _ (blocks : List (List (List ℤ))) (s : List ℤ) where
  pub turn-none : blocks_after 0 blocks s ≡ s
  unfolding blocks_after
  turn-none =
      build-eq (length s) (turn_at blocks s 0) (λ (k : ℕ). get_or s k (pos 0)) (λ (k : ℕ) (p : k < length s). rw (le-ltb (block_of k) 0 (omega arith), and-false (ltb k 384)))
      ∙ sym (build-list (pos 0) s)

  all_at : 384 ≤ length s → (k : ℕ) → k < length s → get_or (samples_after blocks s) k (pos 0) ≡ turn_at blocks s 6 k
  all_at h k p =
      let m = mb_samples blocks in
      let r = drop 384 s in
      ap (λ (x : List ℤ). get_or x k (pos 0)) (enough blocks s h)
      ∙ ⊎_elim
      (λ (q : k < 384).
      rw (lt-ltb k 384 q, lt-ltb (block_of k) 6 (among_six_lem k q)) (get_or-append m r (pos 0) k (omega (arith, mb-length blocks)) ∙ mb_at blocks k q))
      (λ (q : 384 ≤ k).
      let e : length m + (k - 384) ≡ k = omega (arith, mb-length blocks) in
      rw (le-ltb k 384 q)
      (ap (λ (j : ℕ). get_or (m ++ r) j (pos 0)) (sym e) ∙ get_or-append-add m r (k - 384) (pos 0) ∙ get_or-drop 384 s (k - 384) (pos 0) ∙ ap (λ (j : ℕ). get_or s j (pos 0)) (omega arith)))
      (lt-or-le k 384)

  pub turn_all : 384 ≤ length s → blocks_after 6 blocks s ≡ samples_after blocks s
  unfolding blocks_after
  turn_all h = sym (is-build (pos 0) (samples_after blocks s) (length s) (turn_at blocks s 6) (samples-long blocks s) (λ (k : ℕ) (p : k < length s). all_at h k p))
