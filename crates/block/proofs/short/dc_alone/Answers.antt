-- `block::short::dc_alone` meets its contract: 13 by the difference alone, else its level. Assumes nothing.
use Rattle.std.proofs.Common.{ap, get_or, of_z, pos, rules, to_z, to_z-of_z, w32, ◌+ℤ◌, ◌≡◌, ◌∙◌}
use Rattle.std.specs.Prelude.{Err, true}
use Rattle.numbers.proofs.Words.{held}
use Rattle.ranges.specs.Range.{difference_fine, level_fine}
use Rattle.coefficients.proofs.LevelLaws.{saturated-fine}
use Rattle.coefficients.specs.Level.{saturated}
use Rattle.coefficients.specs.Needed.{numbered}
use Rattle.prediction.specs.Prediction.{dc_prediction, dc_scaler, direction_by}
use Rattle.prediction.specs.Stages.{value_unless}
use Rattle.prediction.specs.declared.refusal.CoefficientError.{CoefficientError}
use Rattle.assembly.specs.declared.error.BlockAssemblyError.TheVariants.{Predictor}
use Rattle.block.proofs.ShortAnswers.{DcGiven, dc_rebuilt, dc-refused, difference-is, difference-not, difference-told, scaler_is, scaler_told}
use Rattle.block.proofs.short.dc_alone.Goals as goal
use Rattle.block.proofs.short.dc_alone.Goals.{After-from_level, After-predict_intra_dc}

-- what is told of the difference
told : (c : After-predict_intra_dc) → let a = c.args in let p = numbered a.n.now in
    c.predict_intra_dc.result
    ≡ value_unless true (difference_fine a.difference) (a.difference +ℤ dc_prediction (direction_by p) p.fa_dc p.fc_dc (dc_scaler a.component a.ctx.quantiser_scale))
told c =
    let a = c.args in
    let scaler = scaler_told a.component a.ctx.quantiser_scale c.dc_scaler.result c.requires.0 c.dc_scaler.ensures.value in
    let first : to_z w32 (of_z w32 (get_or a.n.now 0 (pos 0))) ≡ get_or a.n.now 0 (pos 0) = search rules in
    let third : to_z w32 (of_z w32 (get_or a.n.now 2 (pos 0))) ≡ get_or a.n.now 2 (pos 0) = search rules in
    difference-told a.component a.ctx.quantiser_scale (numbered a.n.now) a.difference c.predict_intra_dc.result _ _ _ a.direction _ c.requires.2 (to_z-of_z c.ranges.difference) first third c.requires.3
    (scaler_is c.dc_scaler.result c.in-Ok.scaler _ scaler c.in-Ok.is) c.predict_intra_dc.ensures.value

refused : (c : After-predict_intra_dc) {e : CoefficientError} → c.predict_intra_dc.result ≡ Err e → let a = c.args in
    DcGiven a.component a.ctx a.n.now a.difference (Err Predictor) a.spatial.now a.spatial.now a.qf.now a.qf.now
refused c k =
    let a = c.args in
    dc-refused a.component a.ctx a.n.now a.difference a.spatial.now a.qf.now (difference-not a.component a.ctx.quantiser_scale (numbered a.n.now) a.difference c.predict_intra_dc.result _ (told c) k)

given : (c : After-from_level) → let a = c.args in let p = numbered a.n.now in
    c.predict_intra_dc.result
    ≡ value_unless true (difference_fine a.difference) (a.difference +ℤ dc_prediction (direction_by p) p.fa_dc p.fc_dc (dc_scaler a.component a.ctx.quantiser_scale))
    → DcGiven a.component a.ctx a.n.now a.difference c.from_level.result c.from_level.new.spatial a.spatial.now c.from_level.new.qf a.qf.now
given c t =
    let a = c.args in
    let g = c.in-Ok-predict_intra_dc in
    let own : to_z w32 (of_z w32 g.z) ≡ g.z = search rules in
    let d = difference-is a.component a.ctx.quantiser_scale (numbered a.n.now) a.difference c.predict_intra_dc.result g.z t g.is in
    let level = held c.saturate_qf-level.result c.saturate_qf-level.type_inv ∙ c.saturate_qf-level.ensures ∙ ap saturated (own ∙ d.1) in
    let e = c.from_level.ensures in
    dc_rebuilt a.component a.ctx a.n.now a.difference a.spatial.now a.qf.now _ c.from_level.result _ _ d.0 level e.value e.samples e.levels

pub returns-in_default-predict_intra_dc-clause-value : goal.returns-in_default-predict_intra_dc-clause-value
returns-in_default-predict_intra_dc-clause-value c = (refused (goal.at.returns-in_default-predict_intra_dc-clause-value c).After-predict_intra_dc c.in_default-predict_intra_dc.is).0

pub returns-in_default-predict_intra_dc-clause-samples : goal.returns-in_default-predict_intra_dc-clause-samples
returns-in_default-predict_intra_dc-clause-samples c = (refused (goal.at.returns-in_default-predict_intra_dc-clause-samples c).After-predict_intra_dc c.in_default-predict_intra_dc.is).1.0

pub returns-in_default-predict_intra_dc-clause-levels : goal.returns-in_default-predict_intra_dc-clause-levels
returns-in_default-predict_intra_dc-clause-levels c = (refused (goal.at.returns-in_default-predict_intra_dc-clause-levels c).After-predict_intra_dc c.in_default-predict_intra_dc.is).1.1

pub from_level-requires : goal.from_level-requires
from_level-requires c =
    (c.requires.0, c.requires.1, ap level_fine (held c.saturate_qf-level.result c.saturate_qf-level.type_inv ∙ c.saturate_qf-level.ensures) ∙ saturated-fine (to_z w32 (of_z w32 c.in-Ok-predict_intra_dc.z)))

pub returns-clause-value : goal.returns-clause-value
returns-clause-value c = (given (goal.at.returns-clause-value c).After-from_level (told (goal.at.returns-clause-value c).After-predict_intra_dc)).0

pub returns-clause-samples : goal.returns-clause-samples
returns-clause-samples c = (given (goal.at.returns-clause-samples c).After-from_level (told (goal.at.returns-clause-samples c).After-predict_intra_dc)).1.0

pub returns-clause-levels : goal.returns-clause-levels
returns-clause-levels c = (given (goal.at.returns-clause-levels c).After-from_level (told (goal.at.returns-clause-levels c).After-predict_intra_dc)).1.1
