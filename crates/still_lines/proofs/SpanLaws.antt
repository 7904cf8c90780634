-- A span widened sample by sample. Assumes nothing.
use mathlib.Core.List.{List, [], ◌∷◌}
use mathlib.Core.Path.{◌≡◌, ap, sym, ◌∙◌}
use Prim.Native.Nat.{ℕ, suc, ◌+◌, ◌-◌, ◌<◌, ◌≤◌}
use native.Mathlib.Numerals.{add-one}
use native.Mathlib.Omega.{arith}
use lib.IntN.{pos, ℤ}
use lib.ListN.{drop, get_or, length, take}
use lib.Seq.{drop-cons}
use Rattle.still_lines.specs.Spans.{part, span_from, span_of, widened_by}
use Rattle.still_lines.specs.declared.span.Span.{Span}

part_cons : (s : List ℤ) (k to : ℕ) → k < to → to ≤ length s → part s k to ≡ get_or s k (pos 0) ∷ part s (k + 1) to
part_cons s k to h l =
    let e : to - k ≡ suc (to - (k + 1)) = omega arith in
    ap (take (to - k)) (drop-cons s k (pos 0) (omega arith))
    ∙ ap (λ (n : ℕ). take n (get_or s k (pos 0) ∷ drop (suc k) s)) e
    ∙ ap (λ (i : ℕ). get_or s k (pos 0) ∷ take (to - (k + 1)) (drop i s)) (sym (add-one k))

part_none : (s : List ℤ) (k to : ℕ) → to ≤ k → part s k to ≡ []
part_none s k to h = ap (λ (n : ℕ). take n (drop k s)) (let z : to - k ≡ 0 = omega arith in z)

pub span_begins : (s : List ℤ) (from to : ℕ) → from < to → to ≤ length s
    → span_of (part s from to) ≡ span_from (record { least = get_or s from (pos 0); greatest = get_or s from (pos 0) }) (part s (from + 1) to)
span_begins s from to h l = ap span_of (part_cons s from to h l)

pub span_more : (s : List ℤ) (x : Span) (k to : ℕ) → k < to → to ≤ length s → span_from x (part s k to) ≡ span_from (widened_by x (get_or s k (pos 0))) (part s (k + 1) to)
unfolding span_from
span_more s x k to h l = ap (span_from x) (part_cons s k to h l)

pub span_ends : (s : List ℤ) (x : Span) (k to : ℕ) → to ≤ k → span_from x (part s k to) ≡ x
unfolding span_from
span_ends s x k to h = ap (span_from x) (part_none s k to h)
