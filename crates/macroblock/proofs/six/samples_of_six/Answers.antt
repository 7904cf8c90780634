-- `macroblock::six::samples_of_six` meets its contract: block after block into the samples, none refused. Assumes nothing.
use Rattle.std.proofs.Common.{List, ap, arith, length, refl, sym, ℕ, ℤ, ◌≡◌, ◌∙◌}
use Rattle.samples.proofs.TurnLaws.{block-length, turn-none}
use Rattle.samples.specs.Samples.{samples_after}
use Rattle.assembly.proofs.ContextLaws.{quantiser-fine}
use Rattle.coefficients.proofs.NeededLaws.{needed_fine}
use Rattle.coefficients.specs.Level.{predictors_fine}
use Rattle.coefficients.specs.Needed.{numbered}
use Rattle.macroblock.proofs.SixLaws.{all_below_end, all_six, needed_six, one_more_lem}
use Rattle.macroblock.specs.Six.{samples_of_six, values_of_six}
use Rattle.macroblock.proofs.six.samples_of_six.Goals as goal

pub loop-i-init : goal.loop-i-init
loop-i-init c = (omega arith, refl, sym (turn-none _ _))

pub block_into-requires : goal.block_into-requires
block_into-requires c =
    let l = c.loop-i in
    let t = c.loop-i-test.true in
    let a = c.args in
    let p = c.requires in
    let row = p.4 l.i t in
    let fine = ap (λ (ns : List ℤ). predictors_fine (numbered ns)) c.needed.ensures ∙ needed_fine a.ctx.quantiser_scale a.ctx.ac_pred_flag a.predictors (quantiser-fine a.ctx a.w p.1) p.2 in
    (t, omega (arith, p.0, l.invariant.1), p.1, fine, row.0, all_below_end a.rows.now a.ends l.i p.3 row.1)

pub returns-in_err-block_into : goal.returns-in_err-block_into
returns-in_err-block_into c =
    let t = c.in_err-block_into.was in
    let u = c.block_into.ensures.0 in
    let z : ◌≡◌ {A = ℕ} 0 1 = cc in
    absurd (omega arith)

pub loop-i-preserved : goal.loop-i-preserved
loop-i-preserved c =
    let l = c.loop-i in
    let t = c.loop-i-test.true in
    let a = c.args in
    let e = c.block_into.ensures.1 in (
      omega arith,
      ap length e ∙ block-length l.i _ l.samples ∙ l.invariant.1,
      e ∙ one_more_lem a.ctx (numbered c.needed.new.numbers) a.w a.rows.now l.i a.samples.now l.samples c.requires.0 l.invariant.2 t,
    )

pub returns : goal.returns
returns c =
    let l = c.loop-i in
    let a = c.args in
    let whole = ap (λ (ns : List ℤ). values_of_six a.ctx (numbered ns) a.w a.rows.now) c.needed.ensures ∙ needed_six a.ctx a.predictors a.w a.rows.now c.requires.2 in (
      refl,
      all_six a.ctx (numbered c.needed.new.numbers) a.w a.rows.now l.i a.samples.now l.samples c.requires.0 l.invariant.2 (omega arith)
          ∙ ap (λ (fs : List (List (List ℤ))). samples_after (samples_of_six a.ctx fs) a.samples.now) whole,
    )
