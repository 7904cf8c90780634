-- `still_lines::span::span_of` meets its contract: sample after sample. Assumes nothing.
use Rattle.std.proofs.Common.{◌≡◌, ◌∙◌, ◌+◌, ◌-◌, ◌<◌, ap, arith, drop, get_or, length, length-drop, length-take-le, pos, rules, sym, ℕ, ℤ}
use lib.Seq.{get_or-drop, get_or-take}
use mir.Facts.{to_z-of_z}
use mir.Syntax.{w32}
use mir.Val.{of_z, to_z}
use Rattle.still_lines.proofs.SpanLaws.{span_begins, span_ends, span_more}
use Rattle.still_lines.specs.Spans.{part, span_from, widened_by}
use Rattle.still_lines.specs.declared.span.Span.{Span}
use Rattle.still_lines.proofs.span.span_of.Goals as goal

-- a number that is read is the number
abbrev Reads : ℤ → Type 0
Reads z = to_z w32 (of_z w32 z) ≡ z

pub loop-z-init : goal.loop-z-init
loop-z-init c =
    let a = c.args in
    let s = a.samples.now in
    let f : Reads (get_or s a.from (pos 0)) = to_z-of_z {w = w32} (search rules) in
    let z : a.from + 1 ≡ a.from + 1 + 0 = omega arith in
    span_begins s a.from a.to c.requires.0 c.requires.1
    ∙ (λ i. span_from (record { least = sym f i; greatest = sym f i }) (part s (z i) a.to))

pub loop-z-preserved : goal.loop-z-preserved
loop-z-preserved c =
    let a = c.args in
    let s = a.samples.now in
    let i = c.loop-z.z-index in
    let k = a.from + 1 + i in
    let n : length (part s (a.from + 1) a.to) ≡ a.to - (a.from + 1) = length-take-le _ _ (omega (arith, length-drop (a.from + 1) s, c.requires)) in
    let h : i < a.to - (a.from + 1) = omega (arith, n, c.loop-z-test.true) in
    let e : get_or (part s (a.from + 1) a.to) i (pos 0) ≡ get_or s k (pos 0) = get_or-take _ _ i (pos 0) h ∙ get_or-drop (a.from + 1) s i (pos 0) in
    let f : Reads (get_or s k (pos 0)) = to_z-of_z {w = w32} (search rules) in
    let wider : c.widened-s.result ≡ widened_by c.loop-z.s (get_or s k (pos 0)) = c.widened-s.ensures ∙ ap (λ (z : ℤ). widened_by c.loop-z.s (to_z w32 (of_z w32 z))) e ∙ ap (widened_by c.loop-z.s) f in
    let z : k + 1 ≡ a.from + 1 + (i + 1) = omega arith in
    c.loop-z.invariant ∙ span_more s c.loop-z.s k a.to (omega (arith, h)) c.requires.1
    ∙ (λ j. span_from (sym wider j) (part s (z j) a.to))

pub returns : goal.returns
returns c =
    let a = c.args in
    let s = a.samples.now in
    let n : length (part s (a.from + 1) a.to) ≡ a.to - (a.from + 1) = length-take-le _ _ (omega (arith, length-drop (a.from + 1) s, c.requires)) in
    sym (c.loop-z.invariant ∙ span_ends s c.loop-z.s (a.from + 1 + c.loop-z.z-index) a.to (omega (arith, n, c.loop-z-test.false)))
