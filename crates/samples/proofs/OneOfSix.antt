-- One block of six, written from where it begins to the end of the 384, said of the whole: the places that are written are those of block i. Assumes nothing.
use mathlib.Core.Bool.{Bool, true, false, cond, ◌&&◌, not}
use mathlib.Core.List.{List}
use mathlib.Core.Logic.{⊎_elim}
use mathlib.Core.Path.{◌≡◌, ap, refl, ◌∙◌}
use Prim.Native.Nat.{ℕ, ◌+◌, ◌*◌, ◌/◌, ◌%◌, ◌-◌, ◌<◌, ◌≤◌}
use native.Mathlib.Omega.{arith}
use lib.Dec.{T, ltb, leb, eqb, eqb→eq, leb→le}
use lib.IntN.{ℤ, pos}
use lib.ListN.{length, get_or, take, drop, length-drop}
use lib.Seq.{length-take-le}
use borrow.Author.Tests.{lt-ltb, le-ltb, le-leb, lt-leb}
use borrow.Rule.Slice.PartMut.{put_mid}
use Rattle.numbers.proofs.Fill.{is-build, lt-or-le}
use Rattle.numbers.proofs.Tests.{and_left, and_right, and-false}
use Rattle.numbers.specs.Grid.{cell}
use Rattle.samples.specs.Samples.{block_after, block_of, row_of, col_of, place_of, written}
use Rattle.samples.proofs.SixBlocks.{every_below, every-below, inside, put, put_at, put_length, put_step}

-- where block i begins, and how far apart its rows are
abbrev pub start : ℕ → ℕ
start i = place_of i 0 0

abbrev pub width : ℕ → ℕ
width i = cond (ltb i 4) 16 8

-- ---- its rows are within the 384

abbrev fits_at : ℕ → Bool
fits_at i = leb (start i + width i * 7 + 8) 384

pub block_fits : (i : ℕ) → i < 6 → start i + width i * 7 + 8 ≤ 384
block_fits i h = leb→le _ _ (every-below fits_at 6 tt i h)

width_low : (i : ℕ) → 8 ≤ width i
width_low i =
    ⊎_elim
    (λ (h : i < 4). rw (lt-ltb i 4 h) (omega arith))
    (λ (h : 4 ≤ i). rw (le-ltb i 4 h) (omega arith))
    (lt-or-le i 4)

width_high : (i : ℕ) → width i ≤ 16
width_high i =
    ⊎_elim
    (λ (h : i < 4). rw (lt-ltb i 4 h) (omega arith))
    (λ (h : 4 ≤ i). rw (le-ltb i 4 h) (omega arith))
    (lt-or-le i 4)

-- what the write of block i asks of its part
pub part_room : (i a w : ℕ) (s : List ℤ) → i < 6 → 384 ≤ length s → a ≡ start i → w ≡ width i → (8 ≤ w) × (w ≤ 16) × (w * 7 + 8 ≤ length (take (384 - a) (drop a s)))
part_room i a w s h l e f =
    let t : a + w * 7 + 8 ≤ 384 = omega (arith, block_fits i h) in
    (omega (arith, width_low i), omega (arith, width_high i), omega (arith, length-take-le (384 - a) (drop a s) (omega (arith, length-drop a s))))

-- ---- what is written at k is what is meant, by one computed test

-- whether k is among the places that are written, and whether it is in block i
abbrev hit : ℕ → ℕ → Bool
hit i k = inside (start i) (384 - start i) (width i) k

abbrev mine : ℕ → ℕ → Bool
mine i k = eqb (block_of k) i

-- the cell of place k, counted from where the block begins, and the one that is meant
abbrev same_cell : ℕ → ℕ → Bool
same_cell i k = eqb ((k - start i) / width i) (row_of k) && eqb ((k - start i) % width i) (col_of k)

abbrev right_at : ℕ → ℕ → Bool
right_at i k = cond (hit i k) (mine i k && same_cell i k) (not (mine i k))

abbrev right_all : ℕ → Bool
right_all i = every_below (right_at i) 384

right_at_lem : (i k : ℕ) → i < 6 → k < 384 → T (right_at i k)
right_at_lem i k h p = every-below (right_at i) 384 (every-below right_all 6 tt i h) k p

module _ (i : ℕ) (b : List (List ℤ)) where
  meant : (k : ℕ) (o : ℤ) (t m : Bool)
      → T (cond t (m && same_cell i k) (not m))
      → cond t (cell b ((k - start i) / width i) ((k - start i) % width i)) o ≡ cond m (cell b (row_of k) (col_of k)) o
  meant k o true true r =
      let u = eqb ((k - start i) / width i) (row_of k) in
      let v = eqb ((k - start i) % width i) (col_of k) in
      let e : (k - start i) / width i ≡ row_of k = eqb→eq _ _ (and_left u v r) in
      let f : (k - start i) % width i ≡ col_of k = eqb→eq _ _ (and_right u v r) in
      rw (e, f)
  meant k o true false r = absurd r
  meant k o false true r = absurd r
  meant k o false false r = refl

  module _ (s : List ℤ) (h : i < 6) (l : 384 ≤ length s) where
    ends : start i + (384 - start i) ≡ 384
    ends = omega (arith, block_fits i h)

    at_place : (k : ℕ) (o : ℤ)
        → cond (hit i k) (cell b ((k - start i) / width i) ((k - start i) % width i)) o ≡ cond (ltb k 384 && mine i k) (cell b (row_of k) (col_of k)) o
    at_place k o =
        ⊎_elim
        (λ (p : k < 384). rw (lt-ltb k 384 p) (meant k o (hit i k) (mine i k) (right_at_lem i k h p)))
        (λ (p : 384 ≤ k). rw (le-ltb k 384 p, le-ltb k (start i + (384 - start i)) (omega (arith, ends)), and-false (leb (start i) k)))
        (lt-or-le k 384)

    put_one : put (start i) (384 - start i) (width i) b s ≡ block_after i b s
    unfolding block_after
    put_one =
        rw (lt-ltb i 6 h, le-leb 384 (length s) l)
        (is-build (pos 0) (put (start i) (384 - start i) (width i) b s) (length s) _ (put_length (start i) (384 - start i) (width i) b s (omega (arith, ends)))
        (λ (k : ℕ) (p : k < length s). put_at (start i) (384 - start i) (width i) b s (omega (arith, ends)) k p ∙ at_place k (get_or s k (pos 0))))

    -- one write of the code, from a on, its rows w apart
    pub one_right : (a w : ℕ) (ys : List ℤ) → a ≡ start i → w ≡ width i → ys ≡ written (take (384 - a) (drop a s)) w b → put_mid a (384 - a) s ys ≡ block_after i b s
    one_right a w ys e f g =
        put_step a (384 - a) w b s s ys refl g ∙ ap (λ (n : ℕ). put n (384 - n) w b s) e ∙ ap (λ (n : ℕ). put (start i) (384 - start i) n b s) f ∙ put_one

  -- ---- or nothing is written

  module _ (s : List ℤ) where
    pub no_such_block : 6 ≤ i → block_after i b s ≡ s
    unfolding block_after
    no_such_block h = rw (le-ltb i 6 h)

    pub too_few_for_one : i < 6 → length s < 384 → block_after i b s ≡ s
    unfolding block_after
    too_few_for_one h l = rw (lt-ltb i 6 h, lt-leb 384 (length s) l)
