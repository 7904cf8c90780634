-- `coefficients::level::intra_levels` meets its contract: what is needed of predictors that pass, up to the last place. Assumes nothing.
use mathlib.Core.Bool.{true}
use mathlib.Core.List.{List}
use mathlib.Core.Path.{◌≡◌, refl, ◌∙◌}
use native.Mathlib.Omega.{arith}
use lib.IntN.{ℤ}
use mir.Syntax.{w32}
use borrow.Kind.Array.{e_s_int, good_length}
use borrow.Author.Rules.{rules}
use Rattle.numbers.proofs.OutcomeLaws.{also}
use Rattle.numbers.proofs.Tests.{flag_passes, flag_refuses}
use Rattle.ranges.specs.Range.{quantiser_fine}
use Rattle.scan_rows.specs.UpTo.{up_to}
use Rattle.scan_rows.proofs.UpToLaws.{up_to_all}
use Rattle.prediction.specs.Outcomes.{stage_outcome}
use Rattle.prediction.specs.Refusal.{after}
use Rattle.coefficients.specs.Needed.{numbered}
use Rattle.coefficients.specs.Level.{levels, levels_answer, predictors_fine}
use Rattle.coefficients.proofs.LevelLaws.{levels_due_lem}
use Rattle.coefficients.proofs.NeededLaws.{needed_answer, needed_levels}
use Rattle.coefficients.proofs.level.intra_levels.Statement.{statement}
use Rattle.coefficients.proofs.level.intra_levels.Tie as tie

-- the two tests that passed
context-ok : (c : tie.Else-not-fine) → quantiser_fine c.args.quantiser_scale ≡ true
context-ok c = flag_passes c.fine.ensures c.if-not-fine.false

predictors-ok : (c : tie.Else-not-predictors_fine) → predictors_fine c.args.predictors ≡ true
predictors-ok c = flag_passes c.predictors_fine.ensures c.if-not-predictors_fine.false

fine-requires : tie.Need-fine-requires
fine-requires c κs = search rules

returns-then-not-fine : tie.Need-returns-then-not-fine
returns-then-not-fine c =
    let args = c.args in
    also stage_outcome (rw (flag_refuses c.fine.ensures c.if-not-fine.true) (refl, refl)) (levels_due_lem args.quantiser_scale args.predictors args.qfs)

predictors_fine-requires : tie.Need-predictors_fine-requires
predictors_fine-requires c κs = search rules

returns-then-not-predictors_fine : tie.Need-returns-then-not-predictors_fine
returns-then-not-predictors_fine c =
    let args = c.args in
    also stage_outcome (rw (context-ok c.before.before, flag_refuses c.predictors_fine.ensures c.if-not-predictors_fine.true) (refl, refl)) (levels_due_lem args.quantiser_scale args.predictors args.qfs)

needed-requires : tie.Need-needed-requires
needed-requires c κs = search rules

slice_bounds-intra_levels_up_to-end : tie.Need-slice_bounds-intra_levels_up_to-end
slice_bounds-intra_levels_up_to-end c = search rules

intra_levels_up_to-requires : tie.Need-intra_levels_up_to-requires
intra_levels_up_to-requires c κs = search rules

abbrev start : tie.After-needed → tie.Start
start c = c.before.before.before.before.before.before

-- up to 64 they are all places
up_to_same : (s : tie.Start) → up_to 64 s.args.qfs ≡ s.args.qfs
up_to_same s = up_to_all 64 s.args.qfs (good_length (e_s_int w32) 64 s.args.qfs _ s.well_formed.0) (λ k h l. absurd (omega arith))

-- what is needed gives the answer and the levels of the predictors
abbrev got : tie.After-needed → List ℤ
got c = c.needed.new.numbers

answer-is : (c : tie.After-needed) → let a = (start c).args in levels_answer a.quantiser_scale (numbered (got c)) (up_to 64 a.qfs) ≡ levels_answer a.quantiser_scale a.predictors a.qfs
answer-is c =
    let e = c.before.before in
    let a = (start c).args in
    (λ i. levels_answer a.quantiser_scale (numbered (c.needed.ensures i)) (up_to_same (start c) i))
    ∙ needed_answer a.quantiser_scale a.ac_pred_flag a.predictors a.qfs (context-ok e.before.before) (predictors-ok e)

levels-are : (c : tie.After-needed)
    → let a = (start c).args in
    levels a.component a.quantiser_scale a.ac_pred_flag a.alternate_vertical_scan (numbered (got c)) (up_to 64 a.qfs)
    ≡ levels a.component a.quantiser_scale a.ac_pred_flag a.alternate_vertical_scan a.predictors a.qfs
levels-are c =
    let a = (start c).args in
    (λ i. levels a.component a.quantiser_scale a.ac_pred_flag a.alternate_vertical_scan (numbered (c.needed.ensures i)) (up_to_same (start c) i))
    ∙ needed_levels a.component a.quantiser_scale a.ac_pred_flag a.alternate_vertical_scan a.predictors a.qfs (predictors-ok c.before.before)

returns : tie.Need-returns
returns c =
    let n = c.before.before.before.before in
    let a = (start n).args in
    let r = c.intra_levels_up_to.ensures.0 in
    also stage_outcome (r.0 ∙ answer-is n, r.1 ∙ (λ i. after (answer-is n i) (levels-are n i) a.qf.now)) (levels_due_lem a.quantiser_scale a.predictors a.qfs)

pub intra_levels_spec : {M : Type 1} → statement M
intra_levels_spec =
    tie.close
    (tie.spec
    fine-requires
    returns-then-not-fine
    predictors_fine-requires
    returns-then-not-predictors_fine
    needed-requires
    slice_bounds-intra_levels_up_to-end
    intra_levels_up_to-requires
    returns)
