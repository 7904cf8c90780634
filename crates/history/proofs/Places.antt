-- What a call takes from the store agrees with what stands in the list by column and row. Assumes nothing.
use mathlib.Core.Bool.{Bool, cond, false, true}
use mathlib.Core.List.{List, [], ◌++◌, ◌∷◌}
use mathlib.Core.Logic.{⊎_elim}
use mathlib.Core.Path.{◌≡◌, ap, refl, subst, subst⁻¹, sym, ◌∙◌}
use Prim.Native.Nat.{ℕ, ◌%◌, ◌*◌, ◌+◌, ◌-◌, ◌/◌, ◌<◌, ◌≤◌}
use native.Mathlib.Nat.{add-mul, div-add-mod', div-eq_of_lt, le-div_iff_mul-le, one-mul}
use native.Mathlib.Omega.{arith}
use lib.Dec.{leb, ltb}
use lib.IntN.{ℤ}
use lib.ListN.{get_or, length}
use borrow.Author.Tests.{le-leb, le-ltb, lt-leb, lt-ltb, ltb-true}
use Rattle.numbers.proofs.Fill.{lt-or-le}
use Rattle.record.proofs.RecordLaws.{read_back}
use Rattle.neighbours.specs.Neighbours.{found}
use Rattle.record.specs.Record.{record_at, stored_at}
use Rattle.picture_state.proofs.RingLaws.{offset-is, ring_kept, slot, slot_in}
use Rattle.picture_state.specs.Ring.{around_due, offset}
use Rattle.history.proofs.Blocks.{Agrees, Gives, Match}
use Rattle.history.proofs.Longer.{before, last, longer}
use Rattle.history.specs.Ideal.{Ideal, around_in, cell_of, picture_now}
use Rattle.history.specs.Remembered.{Remembered}

-- what stands past the end of the list
abbrev unknown : Remembered
unknown = record { dcs = []; levels = []; quantiser = 0 }

-- the records of the last 2 w accepted macroblocks stand in the store
abbrev pub Kept : ℕ → List ℤ → List Remembered → Type 0
Kept w s ms = (j : ℕ) → j < length ms → length ms ≤ j + 2 * w → Gives (record_at s (slot w j * 96)) (get_or ms j unknown)

both_true : (a b : Bool) → cond a b false ≡ true → (a ≡ true) × (b ≡ true)
both_true true b e = (refl, e)
both_true false b e = absurd (let z : ◌≡◌ {A = ℕ} 0 1 = cc in omega arith)

-- ---- where the neighbours of macroblock n lie in the list

module _ (w n : ℕ) (h : 1 ≤ w) where
  left_is : 0 < n % w → n / w * w + (n % w - 1) ≡ n - 1
  left_is p = let d = div-add-mod' n w in omega arith

  left_le : 0 < n % w → 1 ≤ n
  left_le p = let d = div-add-mod' n w in omega arith

  row_split : 0 < n / w → (n / w - 1) * w + w ≡ n / w * w
  row_split p =
      let a = n / w - 1 in
      let e : a + 1 ≡ n / w = omega arith in
      let f = ap (λ (k : ℕ). k * w) e in
      omega (arith, add-mul a 1 w, one-mul w)

  above-is : 0 < n / w → (n / w - 1) * w + n % w ≡ n - w
  above-is p = let d = div-add-mod' n w in omega (arith, row_split p)

  above-le : 0 < n / w → w ≤ n
  above-le p = let d = div-add-mod' n w in omega (arith, row_split p)

  both_is : 0 < n % w → 0 < n / w → (n / w - 1) * w + (n % w - 1) ≡ n - (w + 1)
  both_is q p = let d = div-add-mod' n w in omega (arith, row_split p)

  both_le : 0 < n % w → 0 < n / w → w + 1 ≤ n
  both_le q p = let d = div-add-mod' n w in omega (arith, row_split p)

  below-is : leb w n ≡ ltb 0 (n / w)
  below-is =
      ⊎_elim
      (λ (a : n < w). lt-leb w n a ∙ sym (le-ltb 0 (n / w) (let e = div-eq_of_lt a in omega arith)))
      (λ (a : w ≤ n). le-leb w n a ∙ sym (lt-ltb 0 (n / w) ((le-div_iff_mul-le {k = w} {x = 1} {y = n} h).1 (omega (arith, one-mul w)))))
      (lt-or-le n w)

-- ---- the store and the list agree

found_match : (b b' : Bool) (r : List ℤ) (m : Remembered) → b ≡ b' → (b ≡ true → Gives r m) → Match (found b r) (found b' m)
found_match b b' r m e f = subst (λ (t : Bool). Match (found b r) (found t m)) e (same b f)
  where
    same : (b : Bool) → (b ≡ true → Gives r m) → Match (found b r) (found b m)
    same true g = g refl
    same false g = tt

module _ (i : Ideal) (s : List ℤ) (h : 1 ≤ i.width) (k : Kept i.width s i.accepted) where
  abbrev w : ℕ
  w = i.width

  abbrev n : ℕ
  n = length i.accepted

  look : (back j : ℕ) → 1 ≤ back → back ≤ w + 1 → back ≤ n → j ≡ n - back → Gives (record_at s (offset w n back)) (get_or i.accepted j unknown)
  look back j a b c e =
      subst (λ (o : ℕ). Gives (record_at s o) (get_or i.accepted j unknown)) (ap (λ (t : ℕ). slot w t * 96) e ∙ sym (offset-is w n back c)) (k j (omega arith) (omega arith))

  pub around_agrees : (q : ℕ) → Agrees (around_due (picture_now i) q s) (around_in i)
  unfolding around_due
  around_agrees q =
      record {
        left = found_match (ltb 0 (n % w)) (ltb 0 (n % w)) (record_at s (offset w n 1)) (cell_of i (n % w - 1) (n / w)) refl
            (λ (a : ltb 0 (n % w) ≡ true).
            let x = ltb-true 0 (n % w) a in
            look 1 (n / w * w + (n % w - 1)) (omega arith) (omega arith) (left_le w n h x) (left_is w n h x));
        above_left = found_match (cond (ltb 0 (n % w)) (leb w n) false) (cond (ltb 0 (n % w)) (ltb 0 (n / w)) false) (record_at s (offset w n (w + 1))) (cell_of i (n % w - 1) (n / w - 1))
            (ap (λ (b : Bool). cond (ltb 0 (n % w)) b false) (below-is w n h))
            (λ (a : cond (ltb 0 (n % w)) (leb w n) false ≡ true).
            let p = both_true (ltb 0 (n % w)) (leb w n) a in
            let x = ltb-true 0 (n % w) p.0 in
            let y = ltb-true 0 (n / w) (sym (below-is w n h) ∙ p.1) in
            look (w + 1) ((n / w - 1) * w + (n % w - 1)) (omega arith) (omega arith) (both_le w n h x y) (both_is w n h x y));
        above = found_match (leb w n) (ltb 0 (n / w)) (record_at s (offset w n w)) (cell_of i (n % w) (n / w - 1)) (below-is w n h)
            (λ (a : leb w n ≡ true).
            let y = ltb-true 0 (n / w) (sym (below-is w n h) ∙ a) in
            look w ((n / w - 1) * w + n % w) h (omega arith) (above-le w n h y) (above-is w n h y));
      }

-- ---- one more accepted

-- the record of macroblock n, written at its slot, keeps every record that is still needed
pub kept_more : (ms : List Remembered) (m : Remembered) (r : List ℤ) → Gives r m
    → (w : ℕ) (s : List ℤ) → 1 ≤ w → 192 * w ≤ length s → Kept w s ms → Kept w (stored_at s (slot w (length ms) * 96) r) (ms ++ (m ∷ []))
kept_more ms m r f w s h k g j p q =
    ⊎_elim
    (λ (a : j < length ms).
    subst⁻¹ (λ (t : List ℤ). Gives t (get_or (ms ++ (m ∷ [])) j unknown)) (ring_kept w j (length ms) s r h k f.sound.long a (omega (arith, longer ms m)))
    (subst⁻¹ (Gives (record_at s (slot w j * 96))) (before ms m unknown j a) (g j a (omega (arith, longer ms m)))))
    (λ (a : length ms ≤ j).
    let e : j ≡ length ms = omega (arith, longer ms m) in
    let t = ap (λ (i : ℕ). record_at (stored_at s (slot w (length ms) * 96) r) (slot w i * 96)) e ∙ read_back s (slot w (length ms) * 96) r (omega (arith, slot_in w (length ms) (length s) h k)) f.sound.long in
    subst⁻¹ (λ (t : List ℤ). Gives t (get_or (ms ++ (m ∷ [])) j unknown)) t (subst⁻¹ (Gives r) (last ms m unknown j e) f))
    (lt-or-le j (length ms))
