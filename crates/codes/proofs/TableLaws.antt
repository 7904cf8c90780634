-- A prefix-free table: at most one row's code begins the bits, and `row_at` finds it. Assumes nothing.
use mathlib.Core.Bool.{Bool, ◌&&◌, false, not, true}
use mathlib.Core.List.{List, [], ◌++◌, ◌∷◌, append_assoc}
use mathlib.Core.Path.{◌≡◌, ◌∙◌, ap, ap₂, refl, subst, sym}
use Prim.Native.Nat.{◌+◌, ◌-◌, ◌/◌, ◌<◌, ◌^◌, ◌≤◌, suc, zero, zero-le, ℕ}
use native.Mathlib.Nat.{div-eq_of_lt, le_of_suc-le-suc, lt_of_lt_of_le, not-suc-le-zero}
use native.Mathlib.Omega.{arith}
use lib.Dec.{T, T_not, eqb, eqb_refl, eqb→eq, leb, leb→le, le→leb, ltb, ltb→lt}
use lib.ListN.{drop, get_or, length, length-append, length-drop, take, take-append-drop}
use lib.Pow.{high, pow_mono, shr-shr}
use lib.Seq.{length-take-le, take-append-add}
use mir.Facts.{yes_and}
use borrow.Author.Tests.{ltb-false, ltb-true}
use Rattle.bits.proofs.BitLaws.{bin-val, length-bin, val-append, val-bin, val-lt}
use Rattle.bits.specs.Bits.{Bits, bin, val}
use Rattle.codes.proofs.SearchLaws.{seek_hit, seek-none, seek_at}
use Rattle.codes.specs.Table.{Found, hit, prefix_free, agree, apart_from, code_bits, sound_row, row_at, row_in}
use Rattle.numbers.proofs.Tests.{F-false, T_true, and_left, and_right}
use Rattle.std.specs.Option.{unwrap_or}
use Rattle.std.specs.Prelude.{None, Option, Some, SomeIff}

-- ---- a code at the front of a window

-- a code of m bits stands at the front of the bits u, told by numbers
pub hit-sound : (u : Bits) (d m : ℕ) → T (hit (val u) (length u) d m) → (r : Bits) × (u ≡ bin m d ++ r)
hit-sound u d m t =
    let le : m ≤ length u = leb→le m (length u) (and_left (leb m (length u)) _ t) in
    let eq : val u / 2 ^ (length u - m) ≡ d = eqb→eq _ _ (and_right (leb m (length u)) _ t) in
    (drop m u, sym (ap (λ (k : Bits). k ++ drop m u) (front u d m le eq) ∙ take-append-drop m u))
  where
    front : (u : Bits) (d m : ℕ) → m ≤ length u → val u / 2 ^ (length u - m) ≡ d → bin m d ≡ take m u
    front u d m le eq =
        let shift : val u / 2 ^ (length u - m) ≡ val (take m u) =
        ap₂ (λ (k : Bits) (j : ℕ). val k / 2 ^ j) (sym (take-append-drop m u)) (sym (length-drop m u))
        ∙ ap (λ (k : ℕ). k / 2 ^ length (drop m u)) (val-append (take m u) (drop m u))
        ∙ high (val (take m u)) (length (drop m u)) (val-lt (drop m u)) in
        ap₂ bin (sym (length-take-le m u le)) (sym eq ∙ shift) ∙ bin-val (take m u)

pub hit-complete : (d m : ℕ) (r : Bits) → d < 2 ^ m → T (hit (val (bin m d ++ r)) (length (bin m d ++ r)) d m)
hit-complete d m r h =
    let len : length (bin m d ++ r) ≡ m + length r = length-append (bin m d) r ∙ ap (λ (k : ℕ). k + length r) (length-bin m d) in
    let gap : length (bin m d ++ r) - m ≡ length r = omega arith in
    let shift : val (bin m d ++ r) / 2 ^ (length (bin m d ++ r) - m) ≡ d =
    ap₂ (λ (k j : ℕ). k / 2 ^ j) (val-append (bin m d) r) gap ∙ high (val (bin m d)) (length r) (val-lt r) ∙ val-bin m d h in
    yes_and (leb m (length (bin m d ++ r))) _ (le→leb m (length (bin m d ++ r)) (omega arith)) (subst (λ (k : ℕ). T (eqb k d)) (sym shift) (eqb_refl d))

pub hit_yes : (w n d m : ℕ) → m ≤ n → w / 2 ^ (n - m) ≡ d → hit w n d m ≡ true
hit_yes w n d m l e = T_true (hit w n d m) (yes_and (leb m n) (eqb (w / 2 ^ (n - m)) d) (le→leb m n l) (subst (λ (k : ℕ). T (eqb (w / 2 ^ (n - m)) k)) e (eqb_refl (w / 2 ^ (n - m)))))

pub hit-is : (w n d m : ℕ) → m ≤ n → hit w n d m ≡ eqb (w / 2 ^ (n - m)) d
hit-is w n d m l = ap (λ (t : Bool). t && eqb (w / 2 ^ (n - m)) d) (T_true (leb m n) (le→leb m n l))

pub hit_other : (w n d m : ℕ) → (w / 2 ^ (n - m) ≡ d → ⊥) → hit w n d m ≡ false
hit_other w n d m u = F-false (hit w n d m) (λ t. u (eqb→eq (w / 2 ^ (n - m)) d (and_right (leb m n) (eqb (w / 2 ^ (n - m)) d) t)))

-- a shift past the width of a word leaves nothing
pub shifted_out : (w k : ℕ) → w < 2 ^ 32 → 32 ≤ k → w / 2 ^ k ≡ 0
shifted_out w k h l = div-eq_of_lt (lt_of_lt_of_le h (pow_mono l))

-- and so a shift that is checked, with 0 where it is refused
pub shifted : (r : Option ℕ) (w k : ℕ) → w < 2 ^ 32 → SomeIff r (k < 32) (w / 2 ^ k) → unwrap_or r 0 ≡ w / 2 ^ k
shifted None w k h s = sym (shifted_out w k h (omega arith))
shifted (Some x) w k h s = s.1

-- ---- a prefix-free table

-- two codes at the front of one window agree
both_hit : (w n c l d m : ℕ) → T (hit w n c l) → T (hit w n d m) → T (agree c l d m)
both_hit w n c l d m s t =
    let le₁ : l ≤ n = leb→le l n (and_left (leb l n) _ s) in
    let le₂ : m ≤ n = leb→le m n (and_left (leb m n) _ t) in
    let e₁ : w / 2 ^ (n - l) ≡ c = eqb→eq _ c (and_right (leb l n) _ s) in
    let e₂ : w / 2 ^ (n - m) ≡ d = eqb→eq _ d (and_right (leb m n) _ t) in
    let common : c / 2 ^ (l - m) ≡ d / 2 ^ (m - l) =
    ap (λ (k : ℕ). k / 2 ^ (l - m)) (sym e₁) ∙ shr-shr w (n - l) (l - m)
    ∙ ap {B = ℕ} (λ (k : ℕ). w / 2 ^ k) (sums n l m le₁ le₂)
    ∙ sym (shr-shr w (n - m) (m - l)) ∙ ap (λ (k : ℕ). k / 2 ^ (m - l)) e₂ in
    subst (λ (k : ℕ). T (eqb (c / 2 ^ (l - m)) k)) common (eqb_refl (c / 2 ^ (l - m)))
  where
    sums : (n l m : ℕ) → l ≤ n → m ≤ n → (n - l) + (l - m) ≡ (n - m) + (m - l)
    sums n l m a b = omega arith

agree_sym : (c l d m : ℕ) → T (agree c l d m) → T (agree d m c l)
agree_sym c l d m t =
    subst (λ (k : ℕ). T (eqb (d / 2 ^ (m - l)) k)) (sym (eqb→eq (c / 2 ^ (l - m)) (d / 2 ^ (m - l)) t)) (eqb_refl (d / 2 ^ (m - l)))

apart_at : (c l : ℕ) (cs ls : List ℕ) → T (apart_from c l cs ls) → (j : ℕ) → j < length cs → T (agree c l (get_or cs j 0) (get_or ls j 0)) → ⊥
apart_at c l [] ls t j h = absurd (not-suc-le-zero h)
apart_at c l (d ∷ ds) [] t j h = absurd t
apart_at c l (d ∷ ds) (m ∷ ms) t zero h = T_not (agree c l d m) (and_left (not (agree c l d m)) _ t)
apart_at c l (d ∷ ds) (m ∷ ms) t (suc j) h = apart_at c l ds ms (and_right (not (agree c l d m)) _ t) j (le_of_suc-le-suc h)

pub record SoundRow (width c l : ℕ) : Type 0 where
  pub pos : 0 < l
  pub fits : l ≤ width
  pub code : c < 2 ^ l

pub sound-row : (width : ℕ) (cs ls : List ℕ) → T (prefix_free width cs ls) → (i : ℕ) → i < length cs → SoundRow width (get_or cs i 0) (get_or ls i 0)
sound-row width [] ls t i h = absurd (not-suc-le-zero h)
sound-row width (c ∷ cs) [] t i h = absurd t
sound-row width (c ∷ cs) (l ∷ ls) t zero h =
    let row = and_left (sound_row width c l) _ t in
    let rest = and_right (ltb 0 l) _ row in
    record {
      pos = ltb→lt 0 l (and_left (ltb 0 l) _ row);
      fits = leb→le l width (and_left (leb l width) _ rest);
      code = ltb→lt c (2 ^ l) (and_right (leb l width) _ rest);
    }
sound-row width (c ∷ cs) (l ∷ ls) t (suc i) h =
    sound-row width cs ls (and_right (apart_from c l cs ls) _ (and_right (sound_row width c l) _ t)) i (le_of_suc-le-suc h)

-- no two rows agree
pub prefix_free_apart : (width : ℕ) (cs ls : List ℕ) → T (prefix_free width cs ls) → (i j : ℕ) → i < j → j < length cs
    → T (agree (get_or cs i 0) (get_or ls i 0) (get_or cs j 0) (get_or ls j 0)) → ⊥
prefix_free_apart width [] ls t i j a h = absurd (not-suc-le-zero h)
prefix_free_apart width (c ∷ cs) [] t i j a h = absurd t
prefix_free_apart width (c ∷ cs) (l ∷ ls) t i zero a h = absurd (not-suc-le-zero a)
prefix_free_apart width (c ∷ cs) (l ∷ ls) t zero (suc j) a h =
    apart_at c l cs ls (and_left (apart_from c l cs ls) _ (and_right (sound_row width c l) _ t)) j (le_of_suc-le-suc h)
prefix_free_apart width (c ∷ cs) (l ∷ ls) t (suc i) (suc j) a h =
    prefix_free_apart width cs ls (and_right (apart_from c l cs ls) _ (and_right (sound_row width c l) _ t)) i j
    (le_of_suc-le-suc a) (le_of_suc-le-suc h)

-- the window of bits that begin with a code begins with it too
window : (width : ℕ) (p r : Bits) → length p ≤ width → take width (p ++ r) ≡ p ++ take (width - length p) r
window width p r h =
    let e : width ≡ length p + (width - length p) = omega arith in
    ap (λ (k : ℕ). take k (p ++ r)) e ∙ take-append-add p r (width - length p)

module _ (width : ℕ) (cs ls : List ℕ) where
  -- the row that is found begins the bits
  pub row-sound : (rows : ℕ) (b : Bits) → row_at cs ls width rows b < rows → (r : Bits) × (b ≡ code_bits cs ls (row_at cs ls width rows b) ++ r)
  row-sound rows b h =
      let u : Bits = take width b in
      let f : ℕ → Bool = λ i. hit (val u) (length u) (get_or cs i 0) (get_or ls i 0) in
      let k : ℕ = row_at cs ls width rows b in
      let t : T (f k) = seek_hit f rows 0 (omega arith) in
      let s = hit-sound u (get_or cs k 0) (get_or ls k 0) t in (
        s.0 ++ drop width b,
        sym (take-append-drop width b) ∙ ap (λ (x : Bits). x ++ drop width b) s.1 ∙ append_assoc (code_bits cs ls k) s.0 (drop width b),
      )

  -- the row whose code begins the bits is found
  pub row-complete : T (prefix_free width cs ls) → (rows : ℕ) → rows ≤ length cs → (i : ℕ) → i < rows → (r : Bits)
      → row_at cs ls width rows (code_bits cs ls i ++ r) ≡ i
  row-complete ok rows within i h r =
      let c = get_or cs i 0 in
      let l = get_or ls i 0 in
      let row = sound-row width cs ls ok i (omega arith) in
      let b : Bits = code_bits cs ls i ++ r in
      let u : Bits = take width b in
      let f : ℕ → Bool = λ j. hit (val u) (length u) (get_or cs j 0) (get_or ls j 0) in
      let e : u ≡ bin l c ++ take (width - length (bin l c)) r = window width (bin l c) r (subst (λ (x : ℕ). x ≤ width) (sym (length-bin l c)) row.fits) in
      let t : T (f i) =
      subst (λ (x : Bits). T (hit (val x) (length x) c l)) (sym e) (hit-complete c l (take (width - length (bin l c)) r) row.code) in
      seek_at f rows 0 i zero-le (omega arith) t
      (λ j a q. prefix_free_apart width cs ls ok j i a (omega arith) (both_hit (val u) (length u) (get_or cs j 0) (get_or ls j 0) c l q t))

-- ---- what a faster search has to show

module _ (width : ℕ) (cs ls : List ℕ) (ok : T (prefix_free width cs ls)) (rows : ℕ) (within : rows ≤ length cs) (w n : ℕ) where
  -- a row that begins the window, however it was found, is the row
  pub row_by_hit : (k : ℕ) → k < rows → T (hit w n (get_or cs k 0) (get_or ls k 0)) → row_in cs ls rows w n ≡ k
  row_by_hit k h t =
      seek_at (λ j. hit w n (get_or cs j 0) (get_or ls j 0)) rows 0 k zero-le (omega arith) t
      (λ j a q. prefix_free_apart width cs ls ok j k a (omega arith) (both_hit w n (get_or cs j 0) (get_or ls j 0) (get_or cs k 0) (get_or ls k 0) q t))

  -- no row begins the window
  pub row_by_none : ((j : ℕ) → j < rows → T (hit w n (get_or cs j 0) (get_or ls j 0)) → ⊥) → row_in cs ls rows w n ≡ rows
  row_by_none u = seek-none (λ j. hit w n (get_or cs j 0) (get_or ls j 0)) rows 0 (λ j a b. u j (omega arith)) ∙ omega arith

  -- so what any search finds is the row
  pub found-row : (r : ℕ) → Found cs ls rows w n r → r ≡ row_in cs ls rows w n
  found-row r f = go (ltb r rows) refl
    where
      go : (t : Bool) → ltb r rows ≡ t → r ≡ row_in cs ls rows w n
      go true e = let h = ltb-true r rows e in sym (row_by_hit r h (f.0 h))
      go false e = sym (f.1 (ltb-false r rows e))

-- a table that equals a prefix-free one is prefix-free
pub prefix_free_as : (width : ℕ) (cs ls ds ms : List ℕ) → ds ≡ cs → ms ≡ ls → T (prefix_free width cs ls) → T (prefix_free width ds ms)
prefix_free_as width cs ls ds ms e f t = subst (λ (b : Bool). T b) (sym (ap₂ (prefix_free width) e f)) t

-- a refused code: no row's code begins the bits
pub row_lost : (width : ℕ) (cs ls : List ℕ) → T (prefix_free width cs ls) → (rows : ℕ) → rows ≤ length cs → (b : Bits) → rows ≤ row_at cs ls width rows b
    → (i : ℕ) → i < rows → (r : Bits) → b ≡ code_bits cs ls i ++ r → ⊥
row_lost width cs ls ok rows within b h i l r e =
    let q : row_at cs ls width rows b ≡ i = ap (row_at cs ls width rows) e ∙ row-complete width cs ls ok rows within i l r in
    omega arith

-- ---- what a search in a prefix-free table says

module _ (width : ℕ) (cs ls : List ℕ) (ok : T (prefix_free width cs ls)) (rows : ℕ) (within : rows ≤ length cs) where
  -- row i is found exactly when the bits begin with row i's code
  pub found-exactly : (b : Bits) (i : ℕ) → i < rows
      → (row_at cs ls width rows b ≡ i → (r : Bits) × (b ≡ code_bits cs ls i ++ r)) × ((r : Bits) → b ≡ code_bits cs ls i ++ r → row_at cs ls width rows b ≡ i)
  found-exactly b i h = (
    λ e. let s = row-sound width cs ls rows b (subst (λ (k : ℕ). k < rows) (sym e) h) in (s.0, s.1 ∙ ap (λ (k : ℕ). code_bits cs ls k ++ s.0) e),
    λ r e. ap (row_at cs ls width rows) e ∙ row-complete width cs ls ok rows within i h r,
  )

  -- the bits begin with the code of at most one row
  pub one-row : (b : Bits) (i j : ℕ) → i < rows → j < rows → (r s : Bits) → b ≡ code_bits cs ls i ++ r → b ≡ code_bits cs ls j ++ s → i ≡ j
  one-row b i j h k r s e f = sym ((found-exactly b i h).1 r e) ∙ (found-exactly b j k).1 s f
