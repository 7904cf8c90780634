-- The bytes of a line from a place up to another, one by one, and part of a part. Assumes nothing.
use mathlib.Core.List.{List, [], ◌∷◌}
use mathlib.Core.Path.{◌≡◌, ◌∙◌, ap, ap₂, sym}
use Prim.Native.Nat.{◌+◌, ◌-◌, ◌<◌, ◌≤◌, suc, zero, ℕ}
use native.Mathlib.Numerals.{add-one}
use native.Mathlib.Omega.{arith}
use lib.ListN.{drop, get_or, length, length-drop, take}
use lib.Seq.{drop-cons, drop-drop, get_or-drop, get_or-take, length-take-le, take-nil, take-take}
use Rattle.forms.specs.Reading.{part}

-- the first byte, and those after it
pub part_cons : (l : List ℕ) (from to : ℕ) → from < to → to ≤ length l → part l from to ≡ get_or l from 0 ∷ part l (from + 1) to
part_cons l from to h k =
    let n : to - from ≡ suc (to - suc from) = omega arith in
    ap₂ (λ (i : ℕ) (x : List ℕ). take i x) n (drop-cons l from 0 (omega arith))
    ∙ ap (λ (j : ℕ). get_or l from 0 ∷ take (to - j) (drop j l)) (sym (add-one from))

pub part_none : (l : List ℕ) (from to : ℕ) → to ≤ from → part l from to ≡ []
part_none l from to h = let n : to - from ≡ 0 = omega arith in ap (λ (i : ℕ). take i (drop from l)) n

module _ (l : List ℕ) (from to : ℕ) where
  pub part_at : (k : ℕ) → k < to - from → get_or (part l from to) k 0 ≡ get_or l (from + k) 0
  part_at k h = get_or-take (to - from) (drop from l) k 0 h ∙ get_or-drop from l k 0

  pub part_length : to ≤ length l → length (part l from to) ≡ to - from
  part_length h = length-take-le (to - from) (drop from l) (omega (arith, length-drop from l))

drop-take : (m n : ℕ) (l : List ℕ) → drop m (take n l) ≡ take (n - m) (drop m l)
drop-take zero n l = let e : n - 0 ≡ n = omega arith in ap (λ (i : ℕ). take i l) (sym e)
drop-take (suc m) zero l = let e : 0 - suc m ≡ 0 = omega arith in ap (λ (i : ℕ). take i (drop (suc m) l)) (sym e)
drop-take (suc m) (suc n) [] = sym (take-nil (suc n - suc m))
drop-take (suc m) (suc n) (a ∷ l) = let e : n - m ≡ suc n - suc m = omega arith in drop-take m n l ∙ ap (λ (i : ℕ). take i (drop m l)) e

-- the beginning of a part, and what follows it
pub part_head : (l : List ℕ) (from to n : ℕ) → from + n ≤ to → take n (part l from to) ≡ part l from (from + n)
part_head l from to n h =
    let e : n ≡ from + n - from = omega arith in
    take-take n (to - from) (drop from l) (omega arith) ∙ ap (λ (i : ℕ). take i (drop from l)) e

pub part_tail : (l : List ℕ) (from to n : ℕ) → drop n (part l from to) ≡ part l (from + n) to
part_tail l from to n =
    let e : to - from - n ≡ to - (from + n) = omega arith in
    drop-take n (to - from) (drop from l) ∙ ap₂ (λ (i : ℕ) (x : List ℕ). take i x) e (drop-drop n from l)
