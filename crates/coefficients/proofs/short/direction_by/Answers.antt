-- `coefficients::short::direction_by` meets its contract: DCs that pass 13's test give a direction. Assumes nothing.
use mathlib.Core.Path.{ap, ◌∙◌}
use lib.IntN.{pos}
use lib.ListN.{get_or}
use borrow.Author.Rules.{rules}
use Rattle.std.specs.Prelude.{Result}
use Rattle.std.specs.Result.{result_unwrap_or}
use Rattle.numbers.proofs.Words.{held}
use Rattle.prediction.specs.Stages.{direction_answer}
use Rattle.prediction.specs.declared.refusal.CoefficientError.{CoefficientError}
use Rattle.prediction.proofs.RefusalLaws.{direction_given}
use Rattle.scan.specs.declared.DcPredictionDirection.{DcPredictionDirection}
use Rattle.scan.specs.declared.DcPredictionDirection.TheVariants.{FromLeft}
use Rattle.coefficients.proofs.RefusalLaws.{numbers_passing}
use Rattle.coefficients.proofs.short.direction_by.Goals as goal

pub returns : goal.returns
returns c =
    let n = c.args.n.now in
    let a = held (get_or n 0 (pos 0)) (search rules) in
    let b = held (get_or n 1 (pos 0)) (search rules) in
    let d = held (get_or n 2 (pos 0)) (search rules) in
    let p = numbers_passing n c.requires in
    c.unwrap_or.ensures
    ∙ ap (λ (r : Result DcPredictionDirection CoefficientError). result_unwrap_or r FromLeft)
    (c.select_dc_direction.ensures.value ∙ (λ i. direction_answer (a i) (b i) (d i)) ∙ direction_given (get_or n 0 (pos 0)) (get_or n 1 (pos 0)) (get_or n 2 (pos 0)) p.a p.b p.c)
