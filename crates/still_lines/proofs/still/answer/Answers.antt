-- `still_lines::still::answer` meets its contract: malformed, an opening, a macroblock. Assumes nothing.
use Rattle.std.proofs.Common.{◌∙◌, List, ap, arith, length-take-le, sym, ℕ}
use mathlib.Core.Logic.{⊎_elim}
use borrow.Author.Tests.{not-false, not-true}
use Rattle.forms.specs.Forms.{form_of, malformed, picture}
use Rattle.picture.specs.Call.{Input, answer_out, samples_out, store_out}
use Rattle.still_lines.proofs.AnswerLaws.{MbForm, data_is, data_long, left_by, mb_form_lem, never_short, no_form, parsed-is, picture_form_lem, within, without}
use Rattle.still_lines.specs.Still.{input_of, still_decoded, text_decoded}
use Rattle.still_lines.proofs.still.answer.Goals as goal
use Rattle.still_lines.proofs.still.answer.Goals.{In-Macroblock}

-- the macroblock that was parsed
formed : (j : In-Macroblock) → let g = j.in-Macroblock in MbForm (form_of j.args.line.now) g.q g.ac_pred g.kind g.cbpy g.cbpc g.n
formed j =
    let g = j.in-Macroblock in
    let a = j.args in
    mb_form_lem _ g.q g.ac_pred g.kind g.cbpy g.cbpc g.n (sym g.is ∙ j.parse.ensures.value ∙ parsed-is a.line.now a.«data».now j.requires)

pub returns-in-Malformed : goal.returns-in-Malformed
returns-in-Malformed c =
    let a = c.args in
    let m = ⊎_elim (λ p. no_form (form_of a.line.now) (sym p ∙ c.parse.ensures.value ∙ parsed-is a.line.now a.«data».now c.requires))
    (λ p. absurd (never_short a.line.now a.«data».now c.requires (sym p ∙ c.parse.ensures.value))) c.in-Malformed.is in
    let l = left_by a.s a.samples.now a.store.now a.line.now malformed m in
    record {
      still_value = (l.still_is, (c.empty.ensures.0 ∙ l.text_is, omega (arith, c.empty.ensures.1)));
      bytes = c.parse.ensures.bytes;
      samples = l.samples-are;
      store = l.store_is;
    }

pub returns-in-Picture : goal.returns-in-Picture
returns-in-Picture c =
    let a = c.args in
    let g = c.in-Picture in
    let l = left_by a.s a.samples.now a.store.now a.line.now (picture g.w g.h g.d g.m) (picture_form_lem _ g.w g.h g.d g.m (sym g.is ∙ c.parse.ensures.value ∙ parsed-is a.line.now a.«data».now c.requires)) in
    record {
      still_value = (c.opened.ensures.0 ∙ l.still_is, (c.opened.ensures.1.0 ∙ l.text_is, c.opened.ensures.1.1));
      bytes = c.parse.ensures.bytes;
      samples = l.samples-are;
      store = l.store_is;
    }

pub returns-then-not-s : goal.returns-then-not-s
returns-then-not-s c =
    let a = c.args in
    let m = formed (goal.at.returns-then-not-s c).In-Macroblock in
    let r = without a.s a.samples.now a.store.now a.line.now _ _ _ _ _ m.bytes (left_by a.s a.samples.now a.store.now a.line.now _ m.is) (not-true a.s.has_picture c.if-not-s.true) in
    record {
      still_value = (r.0.0, (c.empty-then-not-s.ensures.0 ∙ r.0.1, omega (arith, c.empty-then-not-s.ensures.1)));
      bytes = c.parse.ensures.bytes;
      samples = r.1.0;
      store = r.1.1;
    }

pub slice_bounds-decoded-end : goal.slice_bounds-decoded-end
slice_bounds-decoded-end c =
    let a = c.args in
    data_long a.line.now a.«data».now c.requires (formed (goal.at.slice_bounds-decoded-end c).In-Macroblock) _ c.parse.ensures.bytes

pub slice_bounds-decoded-end-in-Macroblock : goal.slice_bounds-decoded-end-in-Macroblock
slice_bounds-decoded-end-in-Macroblock c =
    let a = c.args in
    sym (length-take-le _ _ (data_long a.line.now a.«data».now c.requires (formed (goal.at.slice_bounds-decoded-end-in-Macroblock c).In-Macroblock) _ c.parse.ensures.bytes))

pub returns-else-not-s : goal.returns-else-not-s
returns-else-not-s c =
    let a = c.args in
    let g = c.in-Macroblock in
    let m = formed (goal.at.returns-else-not-s c).In-Macroblock in
    let S = a.s in
    let ss = a.samples.now in
    let t = a.store.now in
    let b = data_is a.line.now a.«data».now c.requires m _ c.parse.ensures.bytes in
    let x = ap (λ (bs : List ℕ). input_of g.q g.ac_pred g.kind g.cbpy g.cbpc bs ss) b in
    let r = within S ss t a.line.now _ _ _ _ _ m.bytes (left_by S ss t a.line.now _ m.is) (not-false S.has_picture c.if-not-s.false) in
    let o = c.decoded.ensures in
    record {
      still_value = (
        o.still_value.0 ∙ ap (λ (y : Input). still_decoded S (answer_out S.picture y t)) x ∙ r.0.0,
        (o.still_value.1.0 ∙ ap (λ (y : Input). text_decoded S.picture (samples_out S.picture y t) (answer_out S.picture y t)) x ∙ r.0.1, o.still_value.1.1),
      );
      bytes = c.parse.ensures.bytes;
      samples = o.samples ∙ ap (λ (y : Input). samples_out S.picture y t) x ∙ r.1.0;
      store = o.store ∙ ap (λ (y : Input). store_out S.picture y t) x ∙ r.1.1;
    }
