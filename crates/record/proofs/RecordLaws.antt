-- A record and the store: what is written is read back, and the rest stays. Assumes nothing.
use mathlib.Core.Bool.{true}
use mathlib.Core.List.{List, ◌++◌}
use mathlib.Core.Logic.{⊎_elim, ◌⊎◌}
use mathlib.Core.Path.{◌≡◌, refl, ap, sym, ◌∙◌}
use Prim.Native.Nat.{ℕ, ◌+◌, ◌*◌, ◌-◌, ◌<◌, ◌≤◌}
use native.Mathlib.Omega.{arith}
use lib.IntN.{ℤ, pos}
use lib.ListN.{length, get_or, take, drop, get_or-append, length-drop, length-take}
use lib.Seq.{get_or-take, get_or-drop, get_or-append-add, length-take-le, length-paste, length_paste_head, paste}
use borrow.Author.Tests.{le-leb, lt-leb, le-ltb, lt-ltb, ne_eqb}
use Rattle.numbers.specs.Grid.{build, cell}
use Rattle.numbers.proofs.Fill.{get_or-build, length-build, build-eq, is-build, lt-or-le}
use Rattle.record.specs.Record.{record_at, quantiser_of, seven_from, known_of, blank, kept_of, fifteen, with_block, stored_at}

-- ---- a number of a list into which a part was pasted

module _ (d : List ℤ) (at : ℕ) (b : List ℤ) (n : ℕ) (h : at + n ≤ length d) (l : n ≤ length b) where
  head : length (take at d ++ take n b) ≡ at + n
  head = length_paste_head d at b n (omega arith) l

  pub paste_in : (k : ℕ) → k < n → get_or (paste d at b n) (at + k) (pos 0) ≡ get_or b k (pos 0)
  paste_in k p =
      let t : length (take at d) ≡ at = length-take-le at d (omega arith) in
      get_or-append (take at d ++ take n b) (drop (at + n) d) (pos 0) (at + k) (omega (arith, head))
      ∙ ap (λ (i : ℕ). get_or (take at d ++ take n b) (i + k) (pos 0)) (sym t)
      ∙ get_or-append-add (take at d) (take n b) k (pos 0)
      ∙ get_or-take n b k (pos 0) p

  pub paste-below : (k : ℕ) → k < at → get_or (paste d at b n) k (pos 0) ≡ get_or d k (pos 0)
  paste-below k p =
      let t : length (take at d) ≡ at = length-take-le at d (omega arith) in
      get_or-append (take at d ++ take n b) (drop (at + n) d) (pos 0) k (omega (arith, head))
      ∙ get_or-append (take at d) (take n b) (pos 0) k (omega arith)
      ∙ get_or-take at d k (pos 0) p

  pub paste-above : (k : ℕ) → at + n ≤ k → get_or (paste d at b n) k (pos 0) ≡ get_or d k (pos 0)
  paste-above k p =
      let j = k - (at + n) in
      let e : k ≡ at + n + j = omega arith in
      ap (λ (i : ℕ). get_or (paste d at b n) i (pos 0)) (e ∙ ap (λ (i : ℕ). i + j) (sym head))
      ∙ get_or-append-add (take at d ++ take n b) (drop (at + n) d) j (pos 0)
      ∙ get_or-drop (at + n) d j (pos 0)
      ∙ ap (λ (i : ℕ). get_or d i (pos 0)) (sym e)

-- ---- a part of the store

-- numbers that lie in it, one by one
pub part_built : (s : List ℤ) (at n : ℕ) → at + n ≤ length s → take (at + n - at) (drop at s) ≡ build n (λ (k : ℕ). get_or s (at + k) (pos 0))
part_built s at n h =
    is-build (pos 0) (take (at + n - at) (drop at s)) n (λ (k : ℕ). get_or s (at + k) (pos 0))
    (simp (length-take, length-drop) (omega arith))
    (λ (k : ℕ) (p : k < n). get_or-take (at + n - at) (drop at s) k (pos 0) (omega arith) ∙ get_or-drop at s k (pos 0))

-- ---- a record of the store

pub record_at_lem : (s : List ℤ) (at k : ℕ) → k < 91 → get_or (record_at s at) k (pos 0) ≡ get_or s (at + k) (pos 0)
record_at_lem s at k h = get_or-build 91 (λ (k : ℕ). get_or s (at + k) (pos 0)) k (pos 0) h

pub record_whole : (l : List ℤ) → length l ≡ 91 → record_at l 0 ≡ l
record_whole l h = sym (is-build (pos 0) l 91 (λ (k : ℕ). get_or l (0 + k) (pos 0)) h (λ (k : ℕ) (p : k < 91). let e : k ≡ 0 + k = omega arith in ap (λ (j : ℕ). get_or l j (pos 0)) e))

-- seven numbers of it are seven of the store
pub record_seven : (s : List ℤ) (at m : ℕ) → m + 7 ≤ 91 → seven_from (record_at s at) m ≡ seven_from s (at + m)
record_seven s at m h =
    build-eq 7 (λ (k : ℕ). get_or (record_at s at) (m + k) (pos 0)) (λ (k : ℕ). get_or s (at + m + k) (pos 0))
    (λ (k : ℕ) (p : k < 7).
    let e : at + (m + k) ≡ at + m + k = omega arith in
    record_at_lem s at (m + k) (omega arith) ∙ ap (λ (j : ℕ). get_or s j (pos 0)) e)

-- ---- a record put into the store

-- one that lies in it
pub stored_is : (s : List ℤ) (at : ℕ) (r : List ℤ) → at + 91 ≤ length s → stored_at s at r ≡ paste s at r 91
unfolding stored_at
stored_is s at r h = rw (le-leb (at + 91) (length s) h)

-- one that does not
pub stored_not : (s : List ℤ) (at : ℕ) (r : List ℤ) → length s < at + 91 → stored_at s at r ≡ s
unfolding stored_at
stored_not s at r h = rw (lt-leb (at + 91) (length s) h)

pub stored_length : (s : List ℤ) (at : ℕ) (r : List ℤ) → length r ≡ 91 → length (stored_at s at r) ≡ length s
stored_length s at r l =
    ⊎_elim
    (λ (a : length s < at + 91). ap length (stored_not s at r a))
    (λ (a : at + 91 ≤ length s). ap length (stored_is s at r a) ∙ length-paste s at r 91 a (omega arith))
    (lt-or-le (length s) (at + 91))

module _ (s : List ℤ) (at : ℕ) where
  pub read_back : (r : List ℤ) → at + 91 ≤ length s → length r ≡ 91 → record_at (stored_at s at r) at ≡ r
  read_back r h l =
      ap (λ (t : List ℤ). record_at t at) (stored_is s at r h)
      ∙ sym (is-build (pos 0) r 91 (λ (k : ℕ). get_or (paste s at r 91) (at + k) (pos 0)) l (λ (k : ℕ) (p : k < 91). sym (paste_in s at r 91 h (omega arith) k p)))

  pub kept-apart : (at' : ℕ) (r : List ℤ) → at + 91 ≤ length s → length r ≡ 91 → (at' + 91 ≤ at) ⊎ (at + 91 ≤ at')
      → record_at (stored_at s at r) at' ≡ record_at s at'
  kept-apart at' r h l a =
      ap (λ (t : List ℤ). record_at t at') (stored_is s at r h)
      ∙ build-eq 91 (λ (k : ℕ). get_or (paste s at r 91) (at' + k) (pos 0)) (λ (k : ℕ). get_or s (at' + k) (pos 0))
      (λ (k : ℕ) (p : k < 91).
      ⊎_elim
      (λ (b : at' + 91 ≤ at). paste-below s at r 91 h (omega arith) (at' + k) (omega arith))
      (λ (b : at + 91 ≤ at'). paste-above s at r 91 h (omega arith) (at' + k) (omega arith))
      a)

-- ---- a block put into a record

pub blank-length : (q : ℕ) → length (blank q) ≡ 91
unfolding blank
blank-length q = refl

-- the fifteen numbers of a block
module _ (dc : ℤ) (qf : List (List ℤ)) where
  pub fifteen-length : length (fifteen dc qf) ≡ 15
  unfolding fifteen
  fifteen-length = length-build 15 (kept_of dc qf)

  pub fifteen_at : (u : ℕ) → u < 15 → get_or (fifteen dc qf) u (pos 0) ≡ kept_of dc qf u
  unfolding fifteen
  fifteen_at u h = get_or-build 15 (kept_of dc qf) u (pos 0) h

  pub kept_row : (u : ℕ) → 1 ≤ u → u ≤ 7 → kept_of dc qf u ≡ cell qf 0 u
  kept_row u l h = rw (ne_eqb u 0 (λ (e : u ≡ 0). omega arith), le-leb u 7 h)

  pub kept-column : (u : ℕ) → 7 < u → kept_of dc qf u ≡ cell qf (u - 7) 0
  kept-column u l = rw (ne_eqb u 0 (λ (e : u ≡ 0). omega arith), lt-leb u 7 l)

module _ (own : List ℤ) (i : ℕ) (dc : ℤ) (qf : List (List ℤ)) where
  pub with_block_is : i < 6 → with_block own i dc qf ≡ paste own (15 * i) (fifteen dc qf) 15
  unfolding with_block
  with_block_is h = rw (lt-ltb i 6 h)

  pub with_block_not : 6 ≤ i → with_block own i dc qf ≡ own
  unfolding with_block
  with_block_not h = rw (le-ltb i 6 h)

  pub with_block_length : length own ≡ 91 → length (with_block own i dc qf) ≡ 91
  with_block_length l =
      ⊎_elim
      (λ (a : i < 6). ap length (with_block_is a) ∙ length-paste own (15 * i) (fifteen dc qf) 15 (omega arith) (omega (arith, fifteen-length dc qf)) ∙ l)
      (λ (a : 6 ≤ i). ap length (with_block_not a) ∙ l)
      (lt-or-le i 6)

  module _ (l : length own ≡ 91) (h : i < 6) where
    within : 15 * i + 15 ≤ length own
    within = omega arith

    enough : 15 ≤ length (fifteen dc qf)
    enough = omega (arith, fifteen-length dc qf)

    -- number u of the block that was put in
    pub put_at : (u : ℕ) → u < 15 → get_or (with_block own i dc qf) (15 * i + u) (pos 0) ≡ kept_of dc qf u
    put_at u p =
        ap (λ (t : List ℤ). get_or t (15 * i + u) (pos 0)) (with_block_is h)
        ∙ paste_in own (15 * i) (fifteen dc qf) 15 within enough u p
        ∙ fifteen_at dc qf u p

    -- number u of another block
    pub other_at : (b u : ℕ) → (b ≡ i → ⊥) → u < 15 → get_or (with_block own i dc qf) (15 * b + u) (pos 0) ≡ get_or own (15 * b + u) (pos 0)
    other_at b u n p =
        ap (λ (t : List ℤ). get_or t (15 * b + u) (pos 0)) (with_block_is h)
        ∙ ⊎_elim
        (λ (a : b < i). paste-below own (15 * i) (fifteen dc qf) 15 within enough (15 * b + u) (omega arith))
        (λ (a : i ≤ b). paste-above own (15 * i) (fifteen dc qf) 15 within enough (15 * b + u) (omega (arith, n)))
        (lt-or-le b i)

    seven_other : (b m : ℕ) → (b ≡ i → ⊥) → m + 7 ≤ 15 → seven_from (with_block own i dc qf) (15 * b + m) ≡ seven_from own (15 * b + m)
    seven_other b m n h =
        let w = with_block own i dc qf in
        build-eq 7 (λ (k : ℕ). get_or w (15 * b + m + k) (pos 0)) (λ (k : ℕ). get_or own (15 * b + m + k) (pos 0))
        (λ (k : ℕ) (p : k < 7).
        let z : 15 * b + m + k ≡ 15 * b + (m + k) = omega arith in
        ap (λ (j : ℕ). get_or w j (pos 0)) z ∙ other_at b (m + k) n (omega arith) ∙ ap (λ (j : ℕ). get_or own j (pos 0)) (sym z))

    pub quantiser_at : get_or (with_block own i dc qf) 90 (pos 0) ≡ get_or own 90 (pos 0)
    quantiser_at =
        ap (λ (t : List ℤ). get_or t 90 (pos 0)) (with_block_is h)
        ∙ paste-above own (15 * i) (fifteen dc qf) 15 within enough 90 (omega arith)

    -- block i reads back what was put in
    pub known_own : known_of (with_block own i dc qf) i ≡ record { has = true; dc = dc; qp = quantiser_of (get_or own 90 (pos 0)); row = build 7 (λ (k : ℕ). cell qf 0 (k + 1)); column = build 7 (λ (k : ℕ). cell qf (k + 1) 0) }
    known_own =
        let w = with_block own i dc qf in
        let z : 15 * i ≡ 15 * i + 0 = omega arith in
        let e₁ = ap (λ (j : ℕ). get_or w j (pos 0)) z ∙ put_at 0 (omega arith) in
        let e₂ = ap quantiser_of quantiser_at in
        let e₃ =
        build-eq 7 (λ (k : ℕ). get_or w (15 * i + 1 + k) (pos 0)) (λ (k : ℕ). cell qf 0 (k + 1))
        (λ (k : ℕ) (p : k < 7).
        let m : 15 * i + 1 + k ≡ 15 * i + (k + 1) = omega arith in
        ap (λ (j : ℕ). get_or w j (pos 0)) m ∙ put_at (k + 1) (omega arith) ∙ kept_row dc qf (k + 1) (omega arith) (omega arith)) in
        let e₄ =
        build-eq 7 (λ (k : ℕ). get_or w (15 * i + 8 + k) (pos 0)) (λ (k : ℕ). cell qf (k + 1) 0)
        (λ (k : ℕ) (p : k < 7).
        let m : 15 * i + 8 + k ≡ 15 * i + (k + 8) = omega arith in
        let n : k + 8 - 7 ≡ k + 1 = omega arith in
        ap (λ (j : ℕ). get_or w j (pos 0)) m ∙ put_at (k + 8) (omega arith) ∙ kept-column dc qf (k + 8) (omega arith) ∙ ap (λ (v : ℕ). cell qf v 0) n) in
        λ j. record { has = true; dc = e₁ j; qp = e₂ j; row = e₃ j; column = e₄ j }

    -- the others are as they were
    pub known_other : (b : ℕ) → b < 6 → (b ≡ i → ⊥) → known_of (with_block own i dc qf) b ≡ known_of own b
    known_other b m n =
        let w = with_block own i dc qf in
        let z : 15 * b ≡ 15 * b + 0 = omega arith in
        let e₁ = ap (λ (j : ℕ). get_or w j (pos 0)) z ∙ other_at b 0 n (omega arith) ∙ ap (λ (j : ℕ). get_or own j (pos 0)) (sym z) in
        let e₂ = ap quantiser_of quantiser_at in
        let e₃ = seven_other b 1 n (omega arith) in
        let e₄ = seven_other b 8 n (omega arith) in
        λ j. record { has = true; dc = e₁ j; qp = e₂ j; row = e₃ j; column = e₄ j }
