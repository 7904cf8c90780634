-- `dequantise::coefficient::inverse_quant_method2_coef` meets its contract: its tests are those of the answer, and what passes them is `method2_coef`'s. Assumes nothing.
use mathlib.Core.Bool.{true}
use mathlib.Core.Path.{◌≡◌, ap, ◌∙◌}
use native.Mathlib.Omega.{arith}
use lib.IntN.{ℤ}
use mir.Facts.{to_z-of_z}
use borrow.Author.Rules.{rules}
use Rattle.ranges.specs.Range.{level_fine, quantiser_fine}
use Rattle.dequantise.specs.Methods.{method2}
use Rattle.numbers.proofs.Words.{held}
use Rattle.numbers.proofs.Tests.{flag_passes, flag_refuses}
use Rattle.ranges.proofs.RangeLaws.{level-abs, quantiser_range}
use Rattle.dequantise.proofs.coefficient.inverse_quant_method2_coef.Statement.{statement}
use Rattle.numbers.proofs.OutcomeLaws.{both}
use Rattle.prediction.specs.Outcomes.{value_outcome}
use Rattle.dequantise.proofs.AnswerLaws.{method2_due_lem}
use Rattle.std.specs.Prelude.{Ok}
use Rattle.dequantise.proofs.coefficient.inverse_quant_method2_coef.Tie as tie

-- the quantiser is one
quantiser : (c : tie.Else-not-fine) → quantiser_fine c.args.quantiser_scale ≡ true
quantiser c = flag_passes c.fine.ensures c.if-not-fine.false

-- what `Level::fine` told, and that the level is one
told : (c : tie.After-fine-2) → c.fine-2.result ≡ level_fine c.args.qf
told c = c.fine-2.ensures ∙ ap level_fine (to_z-of_z c.ranges.qf)

fine : (c : tie.Else-not-fine-2) → level_fine c.args.qf ≡ true
fine c = flag_passes (told c.before) c.if-not-fine-2.false

fine-requires : tie.Need-fine-requires
fine-requires c κs = search rules

returns-then-not-fine : tie.Need-returns-then-not-fine
returns-then-not-fine c =
    let args = c.args in
    both value_outcome (rw (flag_refuses c.fine.ensures c.if-not-fine.true)) (method2_due_lem args.qf args.quantiser_scale)

fine-requires-2 : tie.Need-fine-requires-2
fine-requires-2 c κs = search rules

returns-then-not-fine-2 : tie.Need-returns-then-not-fine-2
returns-then-not-fine-2 c =
    let args = c.args in
    both value_outcome (rw (quantiser c.before.before, flag_refuses (told c.before) c.if-not-fine-2.true)) (method2_due_lem args.qf args.quantiser_scale)

method2_coef-requires : tie.Need-method2_coef-requires
method2_coef-requires c κs =
    let s = c.before.before.before.before in
    (rw (to_z-of_z s.ranges.qf) (level-abs s.args.qf (fine c)), (quantiser_range s.args.quantiser_scale (quantiser c.before.before)).0, omega (arith, quantiser_range s.args.quantiser_scale (quantiser c.before.before)))

returns : tie.Need-returns
returns c =
    let args = c.args in
    both value_outcome (let s = c.before.before.before.before.before in
    rw (quantiser c.before.before.before, fine c.before)
    (ap Ok
    (held c.method2_coef.result c.method2_coef.type_inv ∙ c.method2_coef.ensures
    ∙ ap (λ (z : ℤ). method2 z s.args.quantiser_scale) (to_z-of_z s.ranges.qf)))) (method2_due_lem args.qf args.quantiser_scale)

pub inverse_quant_method2_coef_spec : {M : Type 1} → statement M
inverse_quant_method2_coef_spec = tie.close (tie.spec fine-requires returns-then-not-fine fine-requires-2 returns-then-not-fine-2 method2_coef-requires returns)
