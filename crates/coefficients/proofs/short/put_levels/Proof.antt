-- `coefficients::short::put_levels` meets its contract: the places by the scan of the direction, with the level of the DC, and the predictions beside it. Assumes nothing.
use mathlib.Core.Path.{◌≡◌, sym, ap, subst, ◌∙◌}
use lib.IntN.{ℤ, pos, ◌+ℤ◌}
use lib.ListN.{drop, get_or}
use mir.Syntax.{w32}
use mir.Val.{of_z, to_z}
use borrow.Author.Rules.{rules}
use Rattle.numbers.specs.Every.{every}
use Rattle.numbers.proofs.Tests.{both_true}
use Rattle.numbers.proofs.Words.{held}
use Rattle.ranges.specs.Range.{difference_fine, level_fine}
use Rattle.scan.specs.declared.DcPredictionDirection.{DcPredictionDirection}
use Rattle.scan.specs.declared.ScanType.{ScanType}
use Rattle.scan_rows.specs.UpTo.{up_to}
use Rattle.scan_rows.proofs.UpToLaws.{up_to_length}
use Rattle.prediction.specs.Prediction.{dc_prediction, dc_scaler}
use Rattle.coefficients.specs.Level.{saturated}
use Rattle.coefficients.specs.Needed.{numbered}
use Rattle.coefficients.specs.Short.{Levelled, ac_predicted}
use Rattle.coefficients.proofs.LevelLaws.{saturated-fine}
use Rattle.coefficients.proofs.ShortLaws.{levels-predicted, scanned_levelled}
use Rattle.coefficients.proofs.short.put_levels.Statement.{statement}
use Rattle.coefficients.proofs.short.put_levels.Tie as tie

direction_by-direction-requires : tie.Need-direction_by-direction-requires
direction_by-direction-requires c κs = search rules

intra_scan-scan_type-requires : tie.Need-intra_scan-scan_type-requires
intra_scan-scan_type-requires c κs = search rules

first_place-difference-requires : tie.Need-first_place-difference-requires
first_place-difference-requires c κs = search rules

-- the place of the DC is a difference
difference-is : (c : tie.After-first_place-difference) → let a = c.args in to_z w32 (of_z w32 c.first_place-difference.result) ≡ get_or (up_to a.end a.qfs.now) 0 (pos 0)
difference-is c = held c.first_place-difference.result c.first_place-difference.type_inv ∙ c.first_place-difference.ensures

dc_level-level-requires : tie.Need-dc_level-level-requires
dc_level-level-requires c κs =
    let s = c.before.before.before in
    let l = up_to s.args.end s.args.qfs.now in
    (ap difference_fine (difference-is c) ∙ (both_true (difference_fine (get_or l 0 (pos 0))) (every level_fine (drop 1 l)) s.requires.2).0, s.requires.0, s.requires.1)

put_scanned-requires : tie.Need-put_scanned-requires
put_scanned-requires c κs = search rules

abbrev start : tie.After-dc_level-level → tie.Start
start c = c.before.before.before.before

abbrev direction : tie.After-dc_level-level → DcPredictionDirection
direction c = c.direction_by-direction.result

abbrev scan_of_lem : tie.After-dc_level-level → ScanType
scan_of_lem c = c.intra_scan-scan_type.result

-- the level of the DC is the sum of its place and its prediction, limited
abbrev unlimited : tie.After-dc_level-level → ℤ
unlimited c =
    let a = (start c).args in
    get_or (up_to a.end a.qfs.now) 0 (pos 0) +ℤ dc_prediction (direction c) (get_or a.n.now 0 (pos 0)) (get_or a.n.now 2 (pos 0)) (dc_scaler a.component a.quantiser_scale)

level-is : (c : tie.After-dc_level-level) → to_z w32 (of_z w32 c.dc_level-level.result) ≡ saturated (unlimited c)
level-is c =
    let a = (start c).args in
    held c.dc_level-level.result c.dc_level-level.type_inv
    ∙ c.dc_level-level.ensures
    ∙ ap (λ (z : ℤ). saturated (z +ℤ dc_prediction (direction c) (get_or a.n.now 0 (pos 0)) (get_or a.n.now 2 (pos 0)) (dc_scaler a.component a.quantiser_scale))) (difference-is c.before)

predict-requires : tie.Need-predict-requires
predict-requires c κs =
    let l = c.before.before.before in
    let s = start l in
    let a = s.args in (
      s.requires.0,
      s.requires.1,
      subst Levelled (sym c.put_scanned.ensures)
          (scanned_levelled (up_to a.end a.qfs.now) (up_to_length a.end a.qfs.now) _ (scan_of_lem l) (ap level_fine (level-is l) ∙ saturated-fine (unlimited l)) s.requires.2),
    )

returns : tie.Need-returns
returns c =
    let p = c.before.before in
    let l = p.before.before in
    let a = (start l).args in
    c.predict.ensures
    ∙ ap (ac_predicted a.ac_pred_flag (direction l) (numbered a.n.now) a.quantiser_scale) p.put_scanned.ensures
    ∙ levels-predicted (up_to a.end a.qfs.now) (up_to_length a.end a.qfs.now) a.component a.quantiser_scale a.ac_pred_flag a.alternate_vertical_scan (numbered a.n.now) (direction l) (scan_of_lem l) _
    l.direction_by-direction.ensures
    l.intra_scan-scan_type.ensures
    (level-is l)

pub put_levels_spec : {M : Type 1} → statement M
put_levels_spec =
    tie.close
    (tie.spec
    direction_by-direction-requires
    intra_scan-scan_type-requires
    first_place-difference-requires
    dc_level-level-requires
    put_scanned-requires
    predict-requires
    returns)
