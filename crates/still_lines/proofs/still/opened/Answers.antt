-- `still_lines::still::opened` meets its contract: refused, or the `end` line before it. Assumes nothing.
use Rattle.std.proofs.Common.{◌∙◌, ap, sym, ℕ, List}
use Rattle.still_lines.specs.Still.{still_opened, text_opened}
use Rattle.still_lines.specs.Text.{picture_refused_text, picture_text}
use Rattle.still_lines.proofs.still.opened.Goals as goal

pub returns-in-Err : goal.returns-in-Err
returns-in-Err c =
    let a = c.args in
    let e = sym c.in-Err.is ∙ c.open.ensures.value in (
      ap (still_opened a.s) e,
      (
        c.picture_refused.ensures.0 ∙ ap picture_refused_text c.number.ensures ∙ ap (text_opened a.s a.w a.h a.d a.m) e,
        c.picture_refused.ensures.1,
      ),
    )

pub returns-in-Ok : goal.returns-in-Ok
returns-in-Ok c =
    let a = c.args in
    let e = sym c.in-Ok.is ∙ c.open.ensures.value in (
      ap (still_opened a.s) e,
      (
        c.picture_line.ensures.0 ∙ ap (λ (xs : List ℕ). picture_text xs a.w a.h a.d a.m) c.ended-before.ensures.0 ∙ ap (text_opened a.s a.w a.h a.d a.m) e,
        c.picture_line.ensures.1,
      ),
    )
