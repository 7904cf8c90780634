-- `prediction::predictor::ac_prediction` meets its contract: the quotient of the product. Assumes nothing.
use mathlib.Core.Path.{ap, ◌∙◌}
use lib.IntN.{ℤ, pos}
use mir.Syntax.{w32}
use borrow.Author.Rules.{rules}
use Rattle.numbers.proofs.Words.{held}
use Rattle.prediction.proofs.PredictionLaws.{ac_prediction_abs}
use Rattle.prediction.proofs.predictor.ac_prediction.Statement.{statement}
use Rattle.numbers.proofs.Expressions.{Sx, loc, ◌⊠◌, fits, back}
use Rattle.numbers.specs.Rounding.{div_away}
use Rattle.prediction.proofs.predictor.ac_prediction.Tie as tie

abbrev product : tie.Start → Sx w32
product s = loc s.args.qf 2048 s.requires.0 ⊠ loc (pos s.args.qp) 511 s.requires.1

overflow_cast-qp : tie.Need-overflow_cast-qp
overflow_cast-qp c = search rules

overflow_mul-qf : tie.Need-overflow_mul-qf
overflow_mul-qf c = fits (product c) tt

div_round_half_away-requires : tie.Need-div_round_half_away-requires
div_round_half_away-requires c κs = search rules

returns : tie.Need-returns
returns c =
    let s = c.before in
    let e =
    held c.div_round_half_away.result c.div_round_half_away.type_inv
    ∙ c.div_round_half_away.ensures.0
    ∙ ap (λ (z : ℤ). div_away z s.args.qp_x) (back (product s) tt) in
    (e, rw e (ac_prediction_abs s.args.qf s.args.qp s.args.qp_x s.requires.0 s.requires.1))

pub ac_prediction_spec : {M : Type 1} → statement M
ac_prediction_spec =
    tie.close (tie.spec overflow_cast-qp overflow_mul-qf div_round_half_away-requires returns)
