-- `block::short::rebuild_up_to` meets its contract: 13 by the numbers, then a DC alone or the places. Assumes nothing.
use Rattle.std.proofs.Common.{arith, get_or, length, of_z, pos, rules, sym, to_z, w32, ◌≡◌, ◌∙◌}
use Rattle.std.specs.Prelude.{Ok}
use Rattle.numbers.proofs.Tests.{flag_passes}
use Rattle.coefficients.specs.Needed.{numbered}
use Rattle.prediction.specs.Prediction.{direction_by}
use Rattle.scan_rows.specs.UpTo.{up_to}
use Rattle.assembly.proofs.ContextLaws.{depth-fine, quantiser-fine}
use Rattle.assembly.specs.Answer.{first_bad}
use Rattle.block.proofs.RebuildLaws.{Given}
use Rattle.block.proofs.ShortAnswers.{alone_tells, dc-given, direction_is, direction_never, direction_told}
use Rattle.block.specs.Rebuilt.{handed_tests}
use Rattle.block.proofs.short.rebuild_up_to.Goals as goal
use Rattle.block.proofs.short.rebuild_up_to.Goals.{After-dc_alone, After-select_dc_direction}

-- the direction is not refused
direction : (c : After-select_dc_direction) → c.select_dc_direction.result ≡ Ok (direction_by (numbered c.args.n.now))
direction c =
    let n = c.args.n.now in
    let first : to_z w32 (of_z w32 (get_or n 0 (pos 0))) ≡ get_or n 0 (pos 0) = search rules in
    let second : to_z w32 (of_z w32 (get_or n 1 (pos 0))) ≡ get_or n 1 (pos 0) = search rules in
    let third : to_z w32 (of_z w32 (get_or n 2 (pos 0))) ≡ get_or n 2 (pos 0) = search rules in
    direction_told (numbered n) _ _ _ c.select_dc_direction.result (flag_passes c.needed_fine.ensures c.if-not-needed_fine.false) first second third c.select_dc_direction.ensures.value

-- a DC that stands alone is the block of its first place
alone : (c : After-dc_alone) → let a = c.args in let p = numbered a.n.now in
    Given a.component a.ctx p a.w (up_to a.end a.qfs.now) (first_bad (handed_tests a.component a.ctx p a.w (up_to a.end a.qfs.now))) c.dc_alone.result c.dc_alone.new.spatial a.spatial.now c.dc_alone.new.qf a.qf.now
alone c =
    let a = c.args in
    let h = alone_tells a.end (length a.qfs.now) c.adds_values-adds.result c.if-end-qfs.true in
    let own : to_z w32 (of_z w32 (get_or a.qfs.now 0 (pos 0))) ≡ get_or a.qfs.now 0 (pos 0) = search rules in
    let e = c.dc_alone.ensures in
    dc-given a.component a.ctx a.n.now a.w a.qfs.now (flag_passes c.needed_fine.ensures c.if-not-needed_fine.false) (sym c.adds_values-adds.ensures ∙ h.2) a.end _ c.dc_alone.result _ a.spatial.now _ a.qf.now h.0 own (e.value, (e.samples, e.levels))

pub bounds-qfs-0 : goal.bounds-qfs-0
bounds-qfs-0 c = omega (arith, (alone_tells c.args.end (length c.args.qfs.now) c.adds_values-adds.result c.if-end-qfs.true).1)

pub dc_alone-requires : goal.dc_alone-requires
dc_alone-requires c =
    let a = c.args in (
      quantiser-fine a.ctx a.w c.requires,
      depth-fine a.ctx a.w c.requires,
      flag_passes c.needed_fine.ensures c.if-not-needed_fine.false,
      direction_is c.select_dc_direction.result c.in-Ok.direction _ (direction (goal.at.dc_alone-requires c).After-select_dc_direction) c.in-Ok.is,
    )

pub returns-in_default-clause-value : goal.returns-in_default-clause-value
returns-in_default-clause-value c = absurd (direction_never c.select_dc_direction.result _ _ (direction (goal.at.returns-in_default-clause-value c).After-select_dc_direction) c.in_default.is)

pub returns-in_default-clause-samples : goal.returns-in_default-clause-samples
returns-in_default-clause-samples c = absurd (direction_never c.select_dc_direction.result _ _ (direction (goal.at.returns-in_default-clause-samples c).After-select_dc_direction) c.in_default.is)

pub returns-in_default-clause-levels : goal.returns-in_default-clause-levels
returns-in_default-clause-levels c = absurd (direction_never c.select_dc_direction.result _ _ (direction (goal.at.returns-in_default-clause-levels c).After-select_dc_direction) c.in_default.is)

pub returns-then-end-qfs-clause-value : goal.returns-then-end-qfs-clause-value
returns-then-end-qfs-clause-value c = (alone (goal.at.returns-then-end-qfs-clause-value c).After-dc_alone).0

pub returns-then-end-qfs-clause-samples : goal.returns-then-end-qfs-clause-samples
returns-then-end-qfs-clause-samples c = (alone (goal.at.returns-then-end-qfs-clause-samples c).After-dc_alone).1.0

pub returns-then-end-qfs-clause-levels : goal.returns-then-end-qfs-clause-levels
returns-then-end-qfs-clause-levels c = (alone (goal.at.returns-then-end-qfs-clause-levels c).After-dc_alone).1.1
