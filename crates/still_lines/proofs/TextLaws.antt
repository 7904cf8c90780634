-- Bytes put after what a text says, and what is said put into lent bytes. Assumes nothing.
use mathlib.Core.List.{List, ◌++◌}
use mathlib.Core.Path.{◌≡◌, ap, refl, sym, ◌∙◌}
use Prim.Native.Nat.{ℕ, ◌+◌, ◌<◌, ◌≤◌}
use native.Mathlib.Numerals.{add-one}
use native.Mathlib.Omega.{arith}
use lib.ListN.{drop, get_or, length, length-append, length-drop, set, take}
use lib.Seq.{drop_at, drop-drop, length-take-le, paste, paste-suc, take_all, take_at, take-paste}
use Rattle.still_lines.specs.Steps.{said_into}

pub paste_more : (d : List ℕ) (at : ℕ) (s : List ℕ) (k : ℕ) (l : List ℕ) → l ≡ paste d at s k → at + k < length d → k < length s → set l (at + k) (get_or s k 0) ≡ paste d at s (k + 1)
paste_more d at s k l e p q = ap (λ (t : List ℕ). set t (at + k) (get_or s k 0)) e ∙ paste-suc d at s k 0 p q ∙ ap (paste d at s) (sym (add-one k))

pub said_more : (d : List ℕ) (at : ℕ) (s l : List ℕ) → l ≡ paste d at s (length s) → at + length s ≤ length d → take (at + length s) l ≡ take at d ++ s
said_more d at s l e h =
    ap (take (at + length s)) e ∙ take-paste d at s (length s) (omega arith) (omega arith) ∙ ap (λ (t : List ℕ). take at d ++ t) (take_all (length s) s (omega arith))

-- ---- what is said, put into lent bytes

-- the first n of some bytes, put at a place
pub paste_first : (d : List ℕ) (at : ℕ) (s : List ℕ) (n : ℕ) → n ≤ length s → paste d at s n ≡ paste d at (take n s) (length (take n s))
paste_first d at s n h =
    let e = length-take-le n s h in
    ap (λ (t : List ℕ). take at d ++ t ++ drop (at + n) d) (sym (take_all n (take n s) (omega arith)))
    ∙ ap (λ (k : ℕ). paste d at (take n s) k) (sym e)

module _ (text out : List ℕ) where
  pub put_first : paste out 0 text (length text) ≡ said_into text out
  put_first =
      ap (λ (t : List ℕ). t ++ drop (0 + length text) out) (take_all (length text) text (omega arith))
      ∙ ap (λ (k : ℕ). text ++ drop k out) (let z : 0 + length text ≡ length text = omega arith in z)

  -- a second text after the first
  pub put_second : (more : List ℕ) → paste (said_into text out) (length text) more (length more) ≡ said_into (text ++ more) out
  put_second more =
      (λ i. take_at text (drop (length text) out) (length text) refl i ++ take_all (length more) more (omega arith) i ++ drop (length text + length more) (said_into text out))
      ∙ ap (λ (r : List ℕ). text ++ more ++ r)
      (sym (drop-drop (length more) (length text) (said_into text out))
      ∙ ap (drop (length more)) (drop_at text (drop (length text) out) (length text) refl)
      ∙ drop-drop (length more) (length text) out
      ∙ ap (λ (n : ℕ). drop n out) (sym (length-append text more)))

-- the same, of a text that is known by an equation
module _ {x text : List ℕ} (e : x ≡ text) where
  pub first_count : {r : ℕ} → r ≡ 0 + length x → r ≡ length text
  first_count h = let k : length x ≡ length text = ap length e in omega arith

  pub first_out : {new : List ℕ} (out : List ℕ) → new ≡ paste out 0 x (length x) → new ≡ said_into text out
  first_out out h = h ∙ ap (λ (t : List ℕ). paste out 0 t (length t)) e ∙ put_first text out

  -- and of one before it
  module _ (before : List ℕ) {n : ℕ} (at : n ≡ length before) where
    pub second_count : {r : ℕ} → r ≡ n + length x → r ≡ length (before ++ text)
    second_count h = let k : length x ≡ length text = ap length e in omega (arith, length-append before text)

    pub second_out : {one new : List ℕ} (out : List ℕ) → one ≡ said_into before out → new ≡ paste one n x (length x) → new ≡ said_into (before ++ text) out
    second_out {one} out f h =
        h
        ∙ (λ i. paste (f i) (at i) (e i) (length (e i)))
        ∙ put_second before out text

-- lent bytes keep their number
pub said-long : (text out : List ℕ) → length text ≤ length out → length (said_into text out) ≡ length out
said-long text out h = length-append text (drop (length text) out) ∙ omega (arith, length-drop (length text) out)
