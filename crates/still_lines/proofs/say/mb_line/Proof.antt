-- `still_lines::say::mb_line` meets its contract: the place, a number, three spans. Assumes nothing.
use mathlib.Core.List.{List, ◌++◌}
use mathlib.Core.Path.{ap, ◌∙◌}
use Prim.Native.Nat.{ℕ}
use native.Mathlib.Omega.{arith}
use borrow.Author.Rules.{rules}
use Rattle.still_lines.specs.Decimal.{decimal_of}
use Rattle.still_lines.specs.Text.{closing_two, span_text, word_bits, word_cb, word_cr, word_luma}
use Rattle.still_lines.proofs.say.mb_line.Statement.{statement}
use Rattle.still_lines.proofs.say.mb_line.Tie as tie

place-at-requires : tie.Need-place-at-requires
place-at-requires c κs = search rules

numbered-counted-requires : tie.Need-numbered-counted-requires
numbered-counted-requires c κs = search rules

spanned-with_luma-requires : tie.Need-spanned-with_luma-requires
spanned-with_luma-requires c κs = search rules

spanned-with_cb-requires : tie.Need-spanned-with_cb-requires
spanned-with_cb-requires c κs = search rules

spanned-with_cr-requires : tie.Need-spanned-with_cr-requires
spanned-with_cr-requires c κs = search rules

word-requires : tie.Need-word-requires
word-requires c κs = search rules

returns : tie.Need-returns
unfolding closing_two word_bits word_cb word_cr word_luma
returns c =
    let r = c.spanned-with_cr in
    let b = c.spanned-with_cb in
    let l = c.spanned-with_luma in
    let n = c.numbered-counted in
    let p = c.place-at in
    let a = c.args in (
      c.word.ensures.0
          ∙ ap (λ (xs : List ℕ). xs ++ closing_two) (r.ensures.0
          ∙ ap (λ (xs : List ℕ). span_text xs word_cr a.cr.least a.cr.greatest) (b.ensures.0
          ∙ ap (λ (xs : List ℕ). span_text xs word_cb a.cb.least a.cb.greatest) (l.ensures.0
          ∙ ap (λ (xs : List ℕ). span_text xs word_luma a.luma.least a.luma.greatest) (n.ensures.0
          ∙ ap (λ (xs : List ℕ). xs ++ word_bits ++ decimal_of a.bits) p.ensures.0)))),
      omega (arith, c.word.ensures.1, r.ensures.1, b.ensures.1, l.ensures.1, n.ensures.1, p.ensures.1),
    )

pub mb_line_spec : {M : Type 1} → statement M
mb_line_spec = tie.close (tie.spec place-at-requires numbered-counted-requires spanned-with_luma-requires spanned-with_cb-requires spanned-with_cr-requires word-requires returns)
