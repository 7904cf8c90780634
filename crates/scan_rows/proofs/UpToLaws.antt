-- The places of a block up to an end, one by one: below the end they are the block's, from it on 0. Assumes nothing.
use mathlib.Core.Bool.{Bool, true, false, cond}
use mathlib.Core.List.{List, ◌++◌}
use mathlib.Core.Logic.{⊎_elim}
use mathlib.Core.Path.{◌≡◌, ap, refl, sym, subst, ◌∙◌}
use Prim.Native.Nat.{ℕ, ◌+◌, ◌-◌, min, ◌≤◌, ◌<◌}
use native.Mathlib.Omega.{arith}
use lib.Dec.{ltb}
use lib.IntN.{ℤ, pos}
use lib.ListN.{length, get_or, take, drop, replicate, length-append, length-drop, get_or-append, get_or-eq_default}
use lib.Seq.{get_or-append-add, get_or-drop, get_or-take, length-take-le}
use Rattle.std.proofs.lemmas.List.{get_or-replicate, length-replicate}
use borrow.Author.Tests.{lt-ltb, le-ltb, ltb-true}
use Rattle.numbers.specs.Every.{every}
use Rattle.numbers.proofs.Every.{every_get, every_in}
use Rattle.numbers.proofs.Fill.{lt-or-le, build-eq, get_or-build, is-build, length-build}
use Rattle.ranges.specs.Range.{level_fine}
use Rattle.scan_rows.specs.UpTo.{up_to}

module _ (end : ℕ) (qfs : List ℤ) where
  abbrev place : ℕ → ℤ
  place k = cond (ltb k end) (get_or qfs k (pos 0)) (pos 0)

  pub up_to_length : length (up_to end qfs) ≡ 64
  unfolding up_to
  up_to_length = length-build 64 place

  pub up_to_at : (k : ℕ) → k < 64 → get_or (up_to end qfs) k (pos 0) ≡ place k
  unfolding up_to
  up_to_at k h = get_or-build 64 place k (pos 0) h

  pub up_to_below : (k : ℕ) → k < 64 → k < end → get_or (up_to end qfs) k (pos 0) ≡ get_or qfs k (pos 0)
  up_to_below k h l = up_to_at k h ∙ rw (lt-ltb k end l)

  pub up_to_above : (k : ℕ) → end ≤ k → get_or (up_to end qfs) k (pos 0) ≡ pos 0
  up_to_above k l =
      ⊎_elim (λ (h : k < 64). up_to_at k h ∙ rw (le-ltb k end l))
      (λ (h : 64 ≤ k). get_or-eq_default (up_to end qfs) (pos 0) {n = k} (omega (arith, up_to_length)))
      (lt-or-le k 64)

  -- 64 places that are 0 from the end on are all of them
  pub up_to_all : length qfs ≡ 64 → ((k : ℕ) → end ≤ k → k < 64 → get_or qfs k (pos 0) ≡ pos 0) → up_to end qfs ≡ qfs
  unfolding up_to
  up_to_all e z =
      sym (is-build (pos 0) qfs 64 place e
      (λ (k : ℕ) (h : k < 64).
      ⊎_elim (λ (l : k < end). rw (lt-ltb k end l)) (λ (l : end ≤ k). rw (le-ltb k end l) (z k l h)) (lt-or-le k end)))

  -- from the end on every place is a level
  pub up_to_rest : (i : ℕ) → end ≤ i → every level_fine (drop i (up_to end qfs)) ≡ true
  up_to_rest i l =
      every_in level_fine (pos 0) (drop i (up_to end qfs))
      (λ (k : ℕ) (h : k < length (drop i (up_to end qfs))). rw (get_or-drop, up_to_above (i + k) (omega arith)))

  -- where all but the first place are levels, they are up to any end
  pub up_to_fine : every level_fine (drop 1 qfs) ≡ true → every level_fine (drop 1 (up_to end qfs)) ≡ true
  up_to_fine f =
      every_in level_fine (pos 0) (drop 1 (up_to end qfs))
      (λ (k : ℕ) (h : k < length (drop 1 (up_to end qfs))).
      let fine : level_fine (get_or qfs (1 + k) (pos 0)) ≡ true = subst (λ (z : ℤ). level_fine z ≡ true) (get_or-drop 1 qfs k (pos 0)) (every_get level_fine (pos 0) refl (drop 1 qfs) f k) in
      rw get_or-drop
      (⊎_elim (λ (l : 1 + k < end). rw (up_to_below (1 + k) (omega (arith, length-drop 1 (up_to end qfs), up_to_length)) l) fine)
      (λ (l : end ≤ 1 + k). rw (up_to_above (1 + k) l))
      (lt-or-le (1 + k) end)))

-- an end past the last place
pub up_to_least : (end : ℕ) (qfs : List ℤ) → up_to (min 64 (min end (length qfs))) qfs ≡ up_to end qfs
unfolding up_to
up_to_least end qfs =
    let last = min 64 (min end (length qfs)) in
    build-eq 64 (place last qfs) (place end qfs)
    (λ (k : ℕ) (h : k < 64).
    ⊎_elim
    (λ (l : k < last). rw (lt-ltb k last l, lt-ltb k end (omega arith)))
    (λ (l : last ≤ k). rw (le-ltb k last l) (past k h l (ltb k end) refl))
    (lt-or-le k last))
  where
    past : (k : ℕ) → k < 64 → min 64 (min end (length qfs)) ≤ k → (t : Bool) → ltb k end ≡ t → pos 0 ≡ cond t (get_or qfs k (pos 0)) (pos 0)
    past k h l true e = sym (get_or-eq_default qfs (pos 0) {n = k} (omega (arith, ltb-true k end e)))
    past k h l false e = refl

-- places that are copied to the front of 64 zeros are those up to the last of them
pub up_to_copied : (n : ℕ) (qfs : List ℤ) → n ≤ 64 → n ≤ length qfs → take n qfs ++ drop n (replicate 64 (pos 0)) ≡ up_to n qfs
unfolding up_to
up_to_copied n qfs h l =
    let z = replicate 64 (pos 0) in
    let m : length (take n qfs) ≡ n = length-take-le n qfs l in
    is-build (pos 0) (take n qfs ++ drop n z) 64 (place n qfs) (length-append (take n qfs) (drop n z) ∙ omega (arith, m, length-drop n z, length-replicate 64 (pos 0)))
    (λ (i : ℕ) (k : i < 64).
    ⊎_elim
    (λ (b : i < n). get_or-append (take n qfs) (drop n z) (pos 0) i (omega arith) ∙ get_or-take n qfs i (pos 0) b ∙ rw (lt-ltb i n b))
    (λ (b : n ≤ i).
    let e : length (take n qfs) + (i - n) ≡ i = omega arith in
    let f : n + (i - n) ≡ i = omega arith in
    ap (λ (j : ℕ). get_or (take n qfs ++ drop n z) j (pos 0)) (sym e) ∙ get_or-append-add (take n qfs) (drop n z) (i - n) (pos 0) ∙ get_or-drop n z (i - n) (pos 0)
    ∙ ap (λ (j : ℕ). get_or z j (pos 0)) f ∙ get_or-replicate 64 i (pos 0) (pos 0) k ∙ rw (le-ltb i n b))
    (lt-or-le i n))

-- up to 1, the place of the DC alone
pub up_to_dc : (qfs : List ℤ) → (get_or (up_to 1 qfs) 0 (pos 0) ≡ get_or qfs 0 (pos 0)) × ((k : ℕ) → 1 ≤ k → get_or (up_to 1 qfs) k (pos 0) ≡ pos 0)
up_to_dc qfs = (up_to_below 1 qfs 0 (omega arith) (omega arith), up_to_above 1 qfs)
