-- `forms::field::value` meets its contract: the bytes before the place reached are digits, and they give the value, or are over the most. Assumes nothing.
use Rattle.std.proofs.Common.{◌≡◌, ◌∙◌, ◌+◌, ◌*◌, ◌-◌, ◌<◌, false, true, ℕ, ap, arith, get_or, min, subst, sym}
use Rattle.numbers.specs.Every.{every}
use Rattle.forms.proofs.NumberLaws.{Told, digits_all, digits_no, digits_on, no_bytes, no_digits, number_is, told_all_lem, told_on, too_large}
use Rattle.forms.proofs.PartLaws.{part_at, part_length, part_none}
use Rattle.forms.specs.Reading.{part}
use Rattle.forms.specs.Words.{is_digit}
use Rattle.forms.proofs.field.value.Goals as goal

pub returns-then-from-to : goal.returns-then-from-to
returns-then-from-to c =
    let a = c.args in
    no_bytes a.most (part a.line.now a.from a.to) (part_none a.line.now a.from a.to (omega arith))

pub returns-then-not-is_ascii_digit : goal.returns-then-not-is_ascii_digit
returns-then-not-is_ascii_digit c =
    let a = c.args in
    let l = a.line.now in
    let i = c.loop-b.b-index in
    let n = part_length l a.from a.to c.requires.1.0 in
    let h : a.from + i < a.to = omega (arith, n, c.loop-b-test.true) in
    let e : is_digit (get_or l (a.from + i) 0) ≡ false = ap is_digit (sym (part_at l a.from a.to i (omega arith))) ∙ sym c.is_ascii_digit.ensures.value ∙ c.if-not-is_ascii_digit.true in
    no_digits a.most (part l a.from a.to) (c.loop-b.invariant.digits ∙ digits_no l a.from a.to (a.from + i) h c.requires.1.0 e)

pub loop-b-preserved : goal.loop-b-preserved
loop-b-preserved c =
    let a = c.args in
    let l = a.line.now in
    let i = c.loop-b.b-index in
    let v = c.loop-b.v in
    let n = part_length l a.from a.to c.requires.1.0 in
    let h : a.from + i < a.to = omega (arith, n, c.loop-b-test.true) in
    let at = part_at l a.from a.to i (omega arith) in
    let e : is_digit (get_or l (a.from + i) 0) ≡ true = ap is_digit (sym at) ∙ sym c.is_ascii_digit.ensures.value ∙ c.if-not-is_ascii_digit.false in
    let z : a.from + i + 1 ≡ a.from + (i + 1) = omega arith in
    let more : c.min-v.result ≡ min (10 * v + (get_or l (a.from + i) 0 - 48)) (a.most + 1) = c.min-v.ensures ∙ ap (λ (d : ℕ). min (10 * v + d) (a.most + 1)) (c.from.ensures ∙ ap (λ (b : ℕ). b - 48) at) in
    record {
      digits = c.loop-b.invariant.digits ∙ digits_on l a.from a.to (a.from + i) h c.requires.1.0 e ∙ ap (λ (k : ℕ). every is_digit (part l k a.to)) z;
      bound = omega (arith, c.min-v.ensures);
      told = subst (λ (k : ℕ). Told a.most l a.from a.to c.min-v.result k) z (told_on l a.from a.to (a.from + i) h c.requires.1.0 a.most v c.min-v.result c.loop-b.invariant.told more);
    }

pub returns-then-v-most : goal.returns-then-v-most
returns-then-v-most c =
    let a = c.args in
    let l = a.line.now in
    let k = a.from + c.loop-b.b-index in
    let n = part_length l a.from a.to c.requires.1.0 in
    number_is a.most (part l a.from a.to) c.loop-b.v (omega (arith, n, c.if-from-to.false)) (c.loop-b.invariant.digits ∙ digits_all l k a.to (omega (arith, n, c.loop-b-test.false)))
    (told_all_lem a.most l a.from a.to c.loop-b.v k (omega (arith, n, c.loop-b-test.false)) c.if-v-most.true c.loop-b.invariant.told) c.if-v-most.true

pub returns-else-v-most : goal.returns-else-v-most
returns-else-v-most c = too_large c.args.most (part c.args.line.now c.args.from c.args.to) (c.loop-b.invariant.told.1 c.if-v-most.false)
