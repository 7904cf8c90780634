-- `forms::line::picture` meets its contract: four words in turn, and none after them. Assumes nothing.
use Rattle.std.proofs.Common.{◌≡◌, ◌∙◌, ap, sym, ℕ, List}
use Rattle.forms.proofs.FormLaws.{after_depth, after_height, after_width, field-bad, field_is, last_more, last_none, method_0, method-is, no-method}
use Rattle.forms.specs.Forms.{Form, last, picture, picture_form}
use Rattle.forms.specs.Reading.{line_of, words_from}
use Rattle.forms.specs.Words.{number_in}
use Rattle.forms.proofs.line.picture.Goals as goal
use Rattle.forms.proofs.line.picture.Goals.{In-Some, In-Some-number, In-Some-number-2, In-Some-number-3, then-method-eq0-via-then-method-eq0, then-method-eq0-via-else-method-eq0+then-after-to}

-- the form once a word was read
width : (k : In-Some) → picture_form (words_from k.args.line.now k.args.from k.args.to) ≡ after_width k.in-Some.width (words_from k.args.line.now k.in-Some.at_height k.args.to)
unfolding picture_form
width k = field_is (number_in 65535) k.args.line.now k.args.from k.args.to k.number.ensures k.in-Some.is after_width

height : (k : In-Some-number) (w : ℕ) → after_width w (words_from k.args.line.now k.in-Some.at_height k.args.to) ≡ after_height w k.in-Some-number.height (words_from k.args.line.now k.in-Some-number.at_depth k.args.to)
height k w = field_is (number_in 65535) k.args.line.now k.in-Some.at_height k.args.to k.number-2.ensures k.in-Some-number.is (after_height w)

depth : (k : In-Some-number-2) (w h : ℕ) → after_height w h (words_from k.args.line.now k.in-Some-number.at_depth k.args.to) ≡ after_depth w h k.in-Some-number-2.depth (words_from k.args.line.now k.in-Some-number-2.at_method k.args.to)
depth k w h = field_is (number_in 65535) k.args.line.now k.in-Some-number.at_depth k.args.to k.number-3.ensures k.in-Some-number-2.is (after_depth w h)

-- the form of a whole picture, before its method
abbrev made : ℕ → ℕ → ℕ → ℕ → List (List ℕ) → Form
made w h d m = last (picture w h d m)

method : (k : In-Some-number-3) (w h d : ℕ) → (k.in-Some-number-3.method ≡ 0 → ⊥) → after_depth w h d (words_from k.args.line.now k.in-Some-number-2.at_method k.args.to) ≡ made w h d k.in-Some-number-3.method (words_from k.args.line.now k.in-Some-number-3.after k.args.to)
method k w h d z = method-is k.args.line.now k.in-Some-number-2.at_method k.args.to k.number-4.ensures (made w h d) k.in-Some-number-3.is z

pub returns-in_default : goal.returns-in_default
unfolding picture_form
returns-in_default c = sym (ap line_of (field-bad (number_in 65535) c.args.line.now c.args.from c.args.to c.number.ensures after_width c.in_default.is))

pub returns-in_default-number : goal.returns-in_default-number
returns-in_default-number c =
    let g = goal.at.returns-in_default-number c in
    sym (ap line_of (width g.In-Some ∙ field-bad (number_in 65535) c.args.line.now c.in-Some.at_height c.args.to c.number-2.ensures (after_height c.in-Some.width) c.in_default-number.is))

pub returns-in_default-number-2 : goal.returns-in_default-number-2
returns-in_default-number-2 c =
    let g = goal.at.returns-in_default-number-2 c in
    let bad = field-bad (number_in 65535) c.args.line.now c.in-Some-number.at_depth c.args.to c.number-3.ensures (after_depth c.in-Some.width c.in-Some-number.height) c.in_default-number-2.is in
    sym (ap line_of (width g.In-Some ∙ height g.In-Some-number c.in-Some.width ∙ bad))

pub returns-in_default-number-3 : goal.returns-in_default-number-3
returns-in_default-number-3 c =
    let g = goal.at.returns-in_default-number-3 c in
    let w = c.in-Some.width in
    let h = c.in-Some-number.height in
    let bad = no-method c.args.line.now c.in-Some-number-2.at_method c.args.to c.number-4.ensures (made w h c.in-Some-number-2.depth) c.in_default-number-3.is in
    sym (ap line_of (width g.In-Some ∙ height g.In-Some-number w ∙ depth g.In-Some-number-2 w h ∙ bad))

pub returns-then-method-eq0 : goal.returns-then-method-eq0
returns-then-method-eq0 c =
    let g = goal.at.returns-then-method-eq0 c in
    let w = c.in-Some.width in
    let h = c.in-Some-number.height in
    let d = c.in-Some-number-2.depth in
    let m = c.in-Some-number-3.method in
    let read = width g.In-Some ∙ height g.In-Some-number w ∙ depth g.In-Some-number-2 w h in
    elim c.then-method-eq0.branch [
      | then-method-eq0-via-then-method-eq0 b ↦ sym (ap line_of (read ∙ method_0 c.args.line.now c.in-Some-number-2.at_method c.args.to c.number-4.ensures (made w h d) c.in-Some-number-3.is b.if-method-eq0.true))
      | then-method-eq0-via-else-method-eq0+then-after-to b ↦ sym (ap line_of (read ∙ method g.In-Some-number-3 w h d b.if-method-eq0.false
          ∙ last_more (picture w h d m) c.args.line.now c.in-Some-number-3.after c.args.to b.if-after-to.true c.requires.1.0))
    ]

pub returns : goal.returns
returns c =
    let g = goal.at.returns c in
    let w = c.in-Some.width in
    let h = c.in-Some-number.height in
    let d = c.in-Some-number-2.depth in
    sym (ap line_of (width g.In-Some ∙ height g.In-Some-number w ∙ depth g.In-Some-number-2 w h ∙ method g.In-Some-number-3 w h d c.if-method-eq0.false
    ∙ last_none (picture w h d c.in-Some-number-3.method) c.args.line.now c.in-Some-number-3.after c.args.to c.if-after-to.false))
