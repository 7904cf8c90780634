-- What stands where after a macroblock was written: row y, column x of block i at `place_of i y x`, and after the 384 what stood there. Assumes nothing.
use mathlib.Core.Bool.{Bool, ◌&&◌}
use mathlib.Core.List.{List, [], ◌++◌}
use mathlib.Core.Logic.{⊎_elim}
use mathlib.Core.Path.{◌≡◌, ap, ◌∙◌}
use Prim.Native.Nat.{ℕ, ◌<◌, ◌≤◌}
use native.Mathlib.Omega.{arith}
use lib.Dec.{ltb, eqb, eqb→eq, ltb→lt}
use lib.IntN.{ℤ, pos}
use lib.ListN.{length, get_or, drop, length-append, length-drop, get_or-append}
use lib.Seq.{drop_at}
use borrow.Author.Tests.{le-leb, lt-leb}
use Rattle.numbers.proofs.Fill.{length-build, get_or-build, lt-or-le}
use Rattle.numbers.proofs.Tests.{and_left, and_right}
use Rattle.numbers.specs.Grid.{cell}
use Rattle.samples.specs.Samples.{block_of, row_of, col_of, place_of, mb_samples, samples_after}
use Rattle.samples.proofs.SixBlocks.{every_below, every-below}

-- ---- the layout forward and back, by one computed test

pub record Back (i y x : ℕ) : Type 0 where
  pub below : place_of i y x < 384
  pub block : block_of (place_of i y x) ≡ i
  pub row : row_of (place_of i y x) ≡ y
  pub col : col_of (place_of i y x) ≡ x

abbrev back_at : ℕ → ℕ → ℕ → Bool
back_at i y x = let k = place_of i y x in ltb k 384 && (eqb (block_of k) i && (eqb (row_of k) y && eqb (col_of k) x))

abbrev back_row : ℕ → ℕ → Bool
back_row i y = every_below (back_at i y) 8

abbrev back_block : ℕ → Bool
back_block i = every_below (back_row i) 8

pub there_and_back : (i y x : ℕ) → i < 6 → y < 8 → x < 8 → Back i y x
there_and_back i y x p q r =
    let k = place_of i y x in
    let a = ltb k 384 in
    let b = eqb (block_of k) i in
    let c = eqb (row_of k) y in
    let d = eqb (col_of k) x in
    let t = every-below (back_at i y) 8 (every-below (back_row i) 8 (every-below back_block 6 tt i p) y q) x r in
    let u = and_right a (b && (c && d)) t in
    let v = and_right b (c && d) u in
    record {
      below = ltb→lt _ _ (and_left a (b && (c && d)) t);
      block = eqb→eq _ _ (and_left b (c && d) u);
      row = eqb→eq _ _ (and_left c d v);
      col = eqb→eq _ _ (and_right c d v);
    }

-- ---- the samples

module _ (blocks : List (List (List ℤ))) where
  pub mb-length : length (mb_samples blocks) ≡ 384
  unfolding mb_samples
  mb-length = length-build 384 _

  pub mb_at : (k : ℕ) → k < 384 → get_or (mb_samples blocks) k (pos 0) ≡ cell (get_or blocks (block_of k) []) (row_of k) (col_of k)
  unfolding mb_samples
  mb_at k h = get_or-build 384 _ k (pos 0) h

  module _ (s : List ℤ) where
    pub too_few : length s < 384 → samples_after blocks s ≡ s
    too_few h = rw (lt-leb 384 (length s) h)

    pub enough : 384 ≤ length s → samples_after blocks s ≡ mb_samples blocks ++ drop 384 s
    enough h = rw (le-leb 384 (length s) h)

    pub samples-long : length (samples_after blocks s) ≡ length s
    samples-long =
        ⊎_elim
        (λ (h : length s < 384). ap length (too_few h))
        (λ (h : 384 ≤ length s). ap length (enough h) ∙ length-append (mb_samples blocks) (drop 384 s) ∙ omega (arith, mb-length, length-drop 384 s))
        (lt-or-le (length s) 384)

    pub rest-kept : drop 384 (samples_after blocks s) ≡ drop 384 s
    rest-kept =
        ⊎_elim
        (λ (h : length s < 384). ap (drop 384) (too_few h))
        (λ (h : 384 ≤ length s). ap (drop 384) (enough h) ∙ drop_at (mb_samples blocks) (drop 384 s) 384 mb-length)
        (lt-or-le (length s) 384)

    pub sample_at : (i y x : ℕ) → i < 6 → y < 8 → x < 8 → 384 ≤ length s → get_or (samples_after blocks s) (place_of i y x) (pos 0) ≡ cell (get_or blocks i []) y x
    sample_at i y x p q r h =
        let k = place_of i y x in
        let b = there_and_back i y x p q r in
        ap (λ (l : List ℤ). get_or l k (pos 0)) (enough h)
        ∙ get_or-append (mb_samples blocks) (drop 384 s) (pos 0) k (omega (arith, mb-length, b.below))
        ∙ mb_at k b.below
        ∙ rw (b.block, b.row, b.col)
