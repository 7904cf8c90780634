-- A block that was written into a part of the samples, said of the whole; and the six, one after the other. Assumes nothing.
use mathlib.Core.Bool.{Bool, true, false, cond, ◌&&◌}
use mathlib.Core.List.{List, [], ◌∷◌, ◌++◌}
use mathlib.Core.Logic.{⊎_elim}
use mathlib.Core.Path.{◌≡◌, ap, sym, ◌∙◌, subst⁻¹}
use Prim.Native.Nat.{ℕ, zero, suc, ◌+◌, ◌/◌, ◌%◌, ◌-◌, ◌<◌, ◌≤◌}
use native.Mathlib.Nat.{not-suc-le-zero, le_of_suc-le-suc, eq-or-lt_of_le}
use native.Mathlib.Omega.{arith}
use lib.Dec.{T, ltb, leb, eqb, eqb→eq, leb→le}
use lib.IntN.{ℤ, pos}
use lib.ListN.{length, get_or, take, drop, length-drop, length-append, get_or-append}
use lib.Seq.{get_or-append-add, get_or-take, get_or-drop, length-take-le}
use borrow.Author.Tests.{lt-ltb, le-ltb, le-leb, lt-leb}
use borrow.Rule.Slice.PartMut.{put_mid}
use Rattle.numbers.proofs.Fill.{length-build, get_or-build, is-build, lt-or-le}
use Rattle.numbers.proofs.Tests.{and_left, and_right}
use Rattle.numbers.specs.Grid.{cell}
use Rattle.samples.specs.Samples.{written, block_of, row_of, col_of, mb_samples}

-- the samples s with the block b in the n from a on, its rows w apart
pub put : ℕ → ℕ → ℕ → List (List ℤ) → List ℤ → List ℤ
put a n w b s = put_mid a n s (written (take n (drop a s)) w b)

pub put_step : (a n w : ℕ) (b : List (List ℤ)) (s s' ys : List ℤ) → s ≡ s' → ys ≡ written (take n (drop a s)) w b → put_mid a n s ys ≡ put a n w b s'
unfolding put
put_step a n w b s s' ys e f = ap (λ (l : List ℤ). put_mid a n s l) f ∙ ap (λ (l : List ℤ). put_mid a n l (written (take n (drop a l)) w b)) e

length-written : (s : List ℤ) (w : ℕ) (b : List (List ℤ)) → length (written s w b) ≡ length s
unfolding written
length-written s w b = length-build (length s) _

-- whether k is in the block's place
abbrev pub inside : ℕ → ℕ → ℕ → ℕ → Bool
inside a n w k = leb a k && (ltb k (a + n) && (ltb ((k - a) / w) 8 && ltb ((k - a) % w) 8))

module _ (a n w : ℕ) (b : List (List ℤ)) (s : List ℤ) (h : a + n ≤ length s) where
  part_length : length (take n (drop a s)) ≡ n
  part_length = length-take-le n (drop a s) (omega (arith, length-drop a s))

  pub put_length : length (put a n w b s) ≡ length s
  unfolding put
  put_length =
      let y = written (take n (drop a s)) w b in
      let l : length y ≡ n = length-written (take n (drop a s)) w b ∙ part_length in
      simp (length-append, length-drop) (omega (arith, length-take-le a s (omega arith)))

  in_part : (j : ℕ) → j < n → get_or (written (take n (drop a s)) w b) j (pos 0) ≡ cond (ltb (j / w) 8 && ltb (j % w) 8) (cell b (j / w) (j % w)) (get_or (take n (drop a s)) j (pos 0))
  unfolding written
  in_part j p = get_or-build (length (take n (drop a s))) _ j (pos 0) (omega (arith, part_length))

  pub put_at : (k : ℕ) → k < length s → get_or (put a n w b s) k (pos 0) ≡ cond (inside a n w k) (cell b ((k - a) / w) ((k - a) % w)) (get_or s k (pos 0))
  unfolding put
  put_at k q =
      let y = written (take n (drop a s)) w b in
      let l : length y ≡ n = length-written (take n (drop a s)) w b ∙ part_length in
      let t : length (take a s) ≡ a = length-take-le a s (omega arith) in
      ⊎_elim
      (λ (x : k < a). rw (lt-leb a k x) (get_or-append (take a s) (y ++ drop n (drop a s)) (pos 0) k (omega arith) ∙ get_or-take a s k (pos 0) x))
      (λ (x : a ≤ k).
      let j = k - a in
      let e : length (take a s) + j ≡ k = omega arith in
      let g : get_or (take a s ++ (y ++ drop n (drop a s))) k (pos 0) ≡ get_or (y ++ drop n (drop a s)) j (pos 0) =
      ap (λ (i : ℕ). get_or (take a s ++ (y ++ drop n (drop a s))) i (pos 0)) (sym e) ∙ get_or-append-add (take a s) (y ++ drop n (drop a s)) j (pos 0) in
      ⊎_elim
      (λ (z : k < a + n).
      rw (le-leb a k x, lt-ltb k (a + n) z)
      (g ∙ get_or-append y (drop n (drop a s)) (pos 0) j (omega arith) ∙ in_part j (omega arith)
      ∙ ap (λ (o : ℤ). cond (ltb (j / w) 8 && ltb (j % w) 8) (cell b (j / w) (j % w)) o) (get_or-take n (drop a s) j (pos 0) (omega arith) ∙ get_or-drop a s j (pos 0) ∙ ap (λ (i : ℕ). get_or s i (pos 0)) (omega arith))))
      (λ (z : a + n ≤ k).
      let i = j - n in
      let f : length y + i ≡ j = omega arith in
      rw (le-leb a k x, le-ltb k (a + n) z)
      (g ∙ ap (λ (m : ℕ). get_or (y ++ drop n (drop a s)) m (pos 0)) (sym f) ∙ get_or-append-add y (drop n (drop a s)) i (pos 0) ∙ get_or-drop n (drop a s) i (pos 0) ∙ get_or-drop a s (n + i) (pos 0) ∙ ap (λ (m : ℕ). get_or s m (pos 0)) (omega arith)))
      (lt-or-le k (a + n)))
      (lt-or-le k a)

-- ---- several writes, the last first

-- the block's number, where its part starts, how long that is, how far its rows are apart
pub record Write : Type 0 where
  pub block : ℕ
  pub start : ℕ
  pub size : ℕ
  pub width : ℕ

abbrev pub runs : List Write → List (List (List ℤ)) → List ℤ → List ℤ
runs [] bs s = s
runs (x ∷ xs) bs s = put x.start x.size x.width (get_or bs x.block []) (runs xs bs s)

-- each part is within n samples
abbrev fit : ℕ → List Write → Bool
fit n [] = true
fit n (x ∷ xs) = leb (x.start + x.size) n && fit n xs

-- whether x has at k the cell that is meant
abbrev meant_at : Write → ℕ → Bool
meant_at x k = eqb x.block (block_of k) && (eqb ((k - x.start) / x.width) (row_of k) && eqb ((k - x.start) % x.width) (col_of k))

-- at k the last write that has k has the cell that is meant
abbrev right_at : List Write → ℕ → Bool
right_at [] k = false
right_at (x ∷ xs) k = cond (inside x.start x.size x.width k) (meant_at x k) (right_at xs k)

module _ (bs : List (List (List ℤ))) (s : List ℤ) (n : ℕ) (h : length s ≡ n) where
  room : (x : Write) (xs : List Write) → length (runs xs bs s) ≡ n → T (fit n (x ∷ xs)) → x.start + x.size ≤ length (runs xs bs s)
  room x xs l t = subst⁻¹ (λ (m : ℕ). x.start + x.size ≤ m) l (leb→le (x.start + x.size) n (and_left (leb (x.start + x.size) n) (fit n xs) t))

  runs_length : (xs : List Write) → T (fit n xs) → length (runs xs bs s) ≡ n
  runs_length [] t = h
  runs_length (x ∷ xs) t =
      let l : length (runs xs bs s) ≡ n = runs_length xs (and_right (leb (x.start + x.size) n) (fit n xs) t) in
      put_length x.start x.size x.width (get_or bs x.block []) (runs xs bs s) (room x xs l t) ∙ l

  meant : (x : Write) (xs : List Write) (k : ℕ) (t : Bool) (o : ℤ)
      → T (cond t (meant_at x k) (right_at xs k))
      → (T (right_at xs k) → o ≡ cell (get_or bs (block_of k) []) (row_of k) (col_of k))
      → cond t (cell (get_or bs x.block []) ((k - x.start) / x.width) ((k - x.start) % x.width)) o ≡ cell (get_or bs (block_of k) []) (row_of k) (col_of k)
  meant x xs k true o t q =
      let a = eqb x.block (block_of k) in
      let b = eqb ((k - x.start) / x.width) (row_of k) in
      let c = eqb ((k - x.start) % x.width) (col_of k) in
      let u = and_right a (b && c) t in
      let e : x.block ≡ block_of k = eqb→eq _ _ (and_left a (b && c) t) in
      let f : (k - x.start) / x.width ≡ row_of k = eqb→eq _ _ (and_left b c u) in
      let g : (k - x.start) % x.width ≡ col_of k = eqb→eq _ _ (and_right b c u) in
      rw (e, f, g)
  meant x xs k false o t q = q t

  runs_at : (xs : List Write) → T (fit n xs) → (k : ℕ) → k < n → T (right_at xs k) → get_or (runs xs bs s) k (pos 0) ≡ cell (get_or bs (block_of k) []) (row_of k) (col_of k)
  runs_at [] t k p r = absurd r
  runs_at (x ∷ xs) t k p r =
      let t' = and_right (leb (x.start + x.size) n) (fit n xs) t in
      let l : length (runs xs bs s) ≡ n = runs_length xs t' in
      put_at x.start x.size x.width (get_or bs x.block []) (runs xs bs s) (room x xs l t) k (omega arith)
      ∙ meant x xs k (inside x.start x.size x.width k) (get_or (runs xs bs s) k (pos 0)) r (λ (q : T (right_at xs k)). runs_at xs t' k p q)

-- ---- a test that is computed at every number below n, carried to each

abbrev pub every_below : (ℕ → Bool) → ℕ → Bool
every_below p zero = true
every_below p (suc n) = p n && every_below p n

pub every-below : (p : ℕ → Bool) (n : ℕ) → T (every_below p n) → (k : ℕ) → k < n → T (p k)
every-below p zero t k h = absurd (not-suc-le-zero h)
every-below p (suc n) t k h =
    ⊎_elim
    (λ (e : k ≡ n). subst⁻¹ (λ (m : ℕ). T (p m)) e (and_left (p n) (every_below p n) t))
    (λ (l : k < n). every-below p n (and_right (p n) (every_below p n) t) k l)
    (eq-or-lt_of_le (le_of_suc-le-suc h))

-- ---- the six

abbrev pub six : List Write
six =
    record { block = 5; start = 320; size = 64; width = 8 }
    ∷ record { block = 4; start = 256; size = 64; width = 8 }
    ∷ record { block = 3; start = 136; size = 120; width = 16 }
    ∷ record { block = 2; start = 128; size = 128; width = 16 }
    ∷ record { block = 1; start = 8; size = 248; width = 16 }
    ∷ record { block = 0; start = 0; size = 256; width = 16 }
    ∷ []

pub six_right : (bs : List (List (List ℤ))) (s : List ℤ) → length s ≡ 384 → runs six bs s ≡ mb_samples bs
unfolding mb_samples
six_right bs s h =
    is-build (pos 0) (runs six bs s) 384 _ (runs_length bs s 384 h six tt)
    (λ (k : ℕ) (p : k < 384). runs_at bs s 384 h six tt k p (every-below (right_at six) 384 tt k p))
