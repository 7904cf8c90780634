-- `still_lines::steps::ended` meets its contract: the answer, and its text put first. Assumes nothing.
use mathlib.Core.Path.{refl}
use native.Mathlib.Omega.{arith}
use Rattle.still_lines.proofs.TextLaws.{first_count, first_out}
use Rattle.still_lines.proofs.steps.ended.Goals as goal

pub returns : goal.returns
returns c =
    let a = c.args in
    let e = c.answer-answer.ensures in
    let f = c.put-said.ensures in
    record {
      still_value = (e.still_value.0, (refl, (first_count e.still_value.1.0 f.value.0, omega (arith, e.still_value.1.1, f.value.1))));
      bytes = e.bytes;
      samples = e.samples;
      store = e.store;
      out = first_out e.still_value.1.0 a.out.now f.out;
    }
