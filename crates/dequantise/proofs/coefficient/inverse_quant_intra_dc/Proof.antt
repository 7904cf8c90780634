-- `dequantise::coefficient::inverse_quant_intra_dc` meets its contract: its tests are those of the answer, and what passes them is `intra_dc`'s. Assumes nothing.
use mathlib.Core.Bool.{true}
use mathlib.Core.Path.{◌≡◌, ap, ◌∙◌}
use lib.IntN.{ℤ}
use mir.Facts.{to_z-of_z}
use borrow.Author.Rules.{rules}
use Rattle.ranges.specs.Range.{level_fine, quantiser_fine}
use Rattle.dequantise.specs.Methods.{intra_dc}
use Rattle.numbers.proofs.Words.{held}
use Rattle.numbers.proofs.Tests.{flag_passes, flag_refuses}
use Rattle.ranges.proofs.RangeLaws.{level-abs, quantiser_range}
use Rattle.dequantise.proofs.coefficient.inverse_quant_intra_dc.Statement.{statement}
use Rattle.numbers.proofs.OutcomeLaws.{both}
use Rattle.prediction.specs.Outcomes.{value_outcome}
use Rattle.dequantise.proofs.AnswerLaws.{intra_dc_due_lem}
use Rattle.std.specs.Prelude.{Ok}
use Rattle.dequantise.proofs.coefficient.inverse_quant_intra_dc.Tie as tie

-- the quantiser is one
quantiser : (c : tie.Else-not-fine) → quantiser_fine c.args.quantiser_scale ≡ true
quantiser c = flag_passes c.fine.ensures c.if-not-fine.false

-- what `Level::fine` told, and that the level is one
told : (c : tie.After-fine-2) → c.fine-2.result ≡ level_fine c.args.qf00
told c = c.fine-2.ensures ∙ ap level_fine (to_z-of_z c.ranges.qf00)

fine : (c : tie.Else-not-fine-2) → level_fine c.args.qf00 ≡ true
fine c = flag_passes (told c.before) c.if-not-fine-2.false

fine-requires : tie.Need-fine-requires
fine-requires c κs = search rules

returns-then-not-fine : tie.Need-returns-then-not-fine
returns-then-not-fine c =
    let args = c.args in
    both value_outcome (rw (flag_refuses c.fine.ensures c.if-not-fine.true)) (intra_dc_due_lem args.qf00 args.component args.quantiser_scale args.short_video_header)

fine-requires-2 : tie.Need-fine-requires-2
fine-requires-2 c κs = search rules

returns-then-not-fine-2 : tie.Need-returns-then-not-fine-2
returns-then-not-fine-2 c =
    let args = c.args in
    both value_outcome (rw (quantiser c.before.before, flag_refuses (told c.before) c.if-not-fine-2.true)) (intra_dc_due_lem args.qf00 args.component args.quantiser_scale args.short_video_header)

intra_dc-requires : tie.Need-intra_dc-requires
intra_dc-requires c κs =
    let s = c.before.before.before.before in
    let q = quantiser_range s.args.quantiser_scale (quantiser c.before.before) in
    (rw (to_z-of_z s.ranges.qf00) (level-abs s.args.qf00 (fine c)), q.0, q.1)

returns : tie.Need-returns
returns c =
    let args = c.args in
    both value_outcome (let s = c.before.before.before.before.before in
    rw (quantiser c.before.before.before, fine c.before)
    (ap Ok
    (held c.intra_dc.result c.intra_dc.type_inv ∙ c.intra_dc.ensures
    ∙ ap (λ (z : ℤ). intra_dc z s.args.component s.args.quantiser_scale s.args.short_video_header) (to_z-of_z s.ranges.qf00)))) (intra_dc_due_lem args.qf00 args.component args.quantiser_scale args.short_video_header)

pub inverse_quant_intra_dc_spec : {M : Type 1} → statement M
inverse_quant_intra_dc_spec = tie.close (tie.spec fine-requires returns-then-not-fine fine-requires-2 returns-then-not-fine-2 intra_dc-requires returns)
