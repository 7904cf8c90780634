-- `window_reader::six::read_six` meets its contract: by windows where they settle all, else the plain way. Assumes nothing.
use Rattle.std.proofs.Common.{ap, length, sym, ◌∙◌}
use Rattle.bits.proofs.CursorLaws.{in_data_yes}
use Rattle.texture.specs.Outcomes.{list_outcome}
use Rattle.block_reader.proofs.OutcomeLaws.{blocks_due_lem}
use Rattle.window_reader.proofs.SixLaws.{six_answer}
use Rattle.window_reader.proofs.six.read_six.Goals as goal

pub six_by_windows-six-requires : goal.six_by_windows-six-requires
six_by_windows-six-requires c =
    let p = in_data_yes (length c.args.«data».now) c.args.c.bit_pos (sym c.readable.ensures ∙ c.if-readable.true) in
    (p.1, p.0)

pub returns-then-six-ne0-clause-value : goal.returns-then-six-ne0-clause-value
returns-then-six-ne0-clause-value c =
    let a = c.args in
    let one = c.six_by_windows-six in
    (six_answer a.«data».now a.c.bit_pos a.pattern a.dc_coded a.reversible one.result c.spellings_of.result one.new.rows one.new.ends (sym c.readable.ensures ∙ c.if-readable.true) c.if-dc_coded.true c.if-not-reversible.true (one.ensures c.if-six-ne0.true) c.spellings_of.ensures).0

pub returns-then-six-ne0-clause-rows : goal.returns-then-six-ne0-clause-rows
returns-then-six-ne0-clause-rows c =
    let a = c.args in
    let one = c.six_by_windows-six in
    (six_answer a.«data».now a.c.bit_pos a.pattern a.dc_coded a.reversible one.result c.spellings_of.result one.new.rows one.new.ends (sym c.readable.ensures ∙ c.if-readable.true) c.if-dc_coded.true c.if-not-reversible.true (one.ensures c.if-six-ne0.true) c.spellings_of.ensures).1.0

pub returns-then-six-ne0-clause-outcome : goal.returns-then-six-ne0-clause-outcome
returns-then-six-ne0-clause-outcome c =
    let a = c.args in
    ap list_outcome (returns-then-six-ne0-clause-value c) ∙ blocks_due_lem a.«data».now a.c.bit_pos a.pattern a.dc_coded a.reversible

pub returns-clause-outcome : goal.returns-clause-outcome
returns-clause-outcome c =
    let a = c.args in
    ap list_outcome c.six_plainly.ensures.0 ∙ blocks_due_lem a.«data».now a.c.bit_pos a.pattern a.dc_coded a.reversible
