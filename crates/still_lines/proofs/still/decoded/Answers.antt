-- `still_lines::still::decoded` meets its contract: refused, or the samples' spans. Assumes nothing.
use Rattle.std.proofs.Common.{◌≡◌, ◌∙◌, ◌≤◌, List, Ok, ap, ap₂, arith, length, subst, sym, ℕ, ℤ}
use Rattle.picture.specs.Call.{Input, answer_out, given, samples_out, store_out}
use Rattle.picture.specs.declared.call.PictureDecoded.{PictureDecoded}
use Rattle.still_lines.proofs.StillLaws.{decoded-roomy, samples-length}
use Rattle.still_lines.specs.Spans.{part, span_of}
use Rattle.still_lines.specs.Still.{column_of, input_of, row_of, still_decoded, text_decoded}
use Rattle.still_lines.specs.Text.{mb_refused_text, mb_text}
use Rattle.still_lines.proofs.still.decoded.Goals as goal
use Rattle.still_lines.proofs.still.decoded.Goals.{After-decode_macroblock}

-- what the call brings
abbrev brought : After-decode_macroblock → Input
brought k = let a = k.args in input_of a.q a.ac_pred a.kind a.cbpy a.cbpc a.«data».now a.samples.now

input_is : (k : After-decode_macroblock) → given k.args.«data».now 0 k.header_of-header.result k.context_of-context.result k.default_intra_quant_matrix-matrix.result k.args.samples.now ≡ brought k
input_is k = λ i. given k.args.«data».now 0 (k.header_of-header.ensures i) (k.context_of-context.ensures i) (k.default_intra_quant_matrix-matrix.ensures i) k.args.samples.now

-- what is decoded has all its samples
roomy : (k : After-decode_macroblock) {d : PictureDecoded} → k.decode_macroblock.result ≡ Ok d → 384 ≤ length k.decode_macroblock.new.samples
roomy k e =
    let p = k.args.s.picture in
    let d = k.decode_macroblock.ensures in
    subst (λ (n : ℕ). 384 ≤ n) (sym (ap length d.samples ∙ samples-length p _ k.args.store.now)) (decoded-roomy p _ k.args.store.now (sym d.answer ∙ e))

pub span_of-luma-requires : goal.span_of-luma-requires
span_of-luma-requires c =
    let r = roomy (goal.at.span_of-luma-requires c).After-decode_macroblock c.in-Ok.is in
    (omega arith, omega (arith, r))

pub span_of-cb-requires : goal.span_of-cb-requires
span_of-cb-requires c =
    let r = roomy (goal.at.span_of-cb-requires c).After-decode_macroblock c.in-Ok.is in
    (omega arith, omega (arith, r))

pub span_of-cr-requires : goal.span_of-cr-requires
span_of-cr-requires c =
    let r = roomy (goal.at.span_of-cr-requires c).After-decode_macroblock c.in-Ok.is in
    (omega arith, omega (arith, r))

pub returns-in-Err : goal.returns-in-Err
returns-in-Err c =
    let k = (goal.at.returns-in-Err c).After-decode_macroblock in
    let a = c.args in
    let p = a.s.picture in
    let x = input_is k in
    let d = c.decode_macroblock.ensures in
    let e = sym c.in-Err.is ∙ d.answer ∙ ap (λ (y : Input). answer_out p y a.store.now) x in
    record {
      still_value = (
        ap (still_decoded a.s) e,
        (
          c.mb_refused.ensures.0
              ∙ ap₂ (λ (u v : ℕ). mb_refused_text u v c.number.result) c.column_of-column.ensures c.row_of-row.ensures
              ∙ ap (λ (n : ℕ). mb_refused_text (column_of p) (row_of p) n) c.number.ensures
              ∙ ap (text_decoded p (samples_out p (brought k) a.store.now)) e,
          c.mb_refused.ensures.1,
        ),
      );
      samples = d.samples ∙ ap (λ (y : Input). samples_out p y a.store.now) x;
      store = d.store ∙ ap (λ (y : Input). store_out p y a.store.now) x;
    }

pub returns-in-Ok : goal.returns-in-Ok
returns-in-Ok c =
    let k = (goal.at.returns-in-Ok c).After-decode_macroblock in
    let a = c.args in
    let p = a.s.picture in
    let x = input_is k in
    let d = c.decode_macroblock.ensures in
    let after = d.samples ∙ ap (λ (y : Input). samples_out p y a.store.now) x in
    let column = c.column_of-column.ensures in
    let row = c.row_of-row.ensures in
    let luma = c.span_of-luma.ensures ∙ ap (λ (l : List ℤ). span_of (part l 0 256)) after in
    let cb = c.span_of-cb.ensures ∙ ap (λ (l : List ℤ). span_of (part l 256 320)) after in
    let cr = c.span_of-cr.ensures ∙ ap (λ (l : List ℤ). span_of (part l 320 384)) after in
    let e = sym c.in-Ok.is ∙ d.answer ∙ ap (λ (y : Input). answer_out p y a.store.now) x in
    record {
      still_value = (
        ap (still_decoded a.s) e,
        (
          c.mb_line.ensures.0
              ∙ (λ i. mb_text (column i) (row i) c.in-Ok.told.bits (luma i).least (luma i).greatest (cb i).least (cb i).greatest (cr i).least (cr i).greatest)
              ∙ ap (text_decoded p (samples_out p (brought k) a.store.now)) e,
          c.mb_line.ensures.1,
        ),
      );
      samples = after;
      store = d.store ∙ ap (λ (y : Input). store_out p y a.store.now) x;
    }
