-- `needed::needed::put_chosen` meets its contract: the DCs with the side that they choose. Assumes nothing.
use Rattle.std.proofs.Common.{Ok, ap, of_z, refl, sym, to_z, w32, ◌*◌, ◌+◌, ◌∙◌}
use mir.Facts.{to_z-of_z}
use Rattle.coefficients.proofs.HandedLaws.{needed_none, needed_side}
use Rattle.prediction.specs.Stages.{direction_answer}
use Rattle.record.specs.Record.{record_at}
use Rattle.neighbours.specs.Neighbours.{around_by, from, predictors}
use Rattle.needed.specs.Sides.{DcsAre, numbers_at}
use Rattle.needed.proofs.NeededLaws.{above-is, dcs-are, left_is}
use Rattle.needed.proofs.needed.put_chosen.Goals as goal

pub returns-in-Err : goal.returns-in-Err
returns-in-Err c =
    let a = c.args in
    let q = a.p.quantiser_scale in
    let around = around_by a.p a.store.now in
    let own = record_at a.own.now 0 in
    let t = predictors a.p.bits_per_pixel q around own a.i in
    let e : DcsAre t (to_z w32 (of_z w32 a.a)) (to_z w32 (of_z w32 a.b)) (to_z w32 (of_z w32 a.c)) = (to_z-of_z c.ranges.a ∙ c.requires.0, to_z-of_z c.ranges.b ∙ c.requires.1, to_z-of_z c.ranges.c ∙ c.requires.2) in
    let chosen = c.select_dc_direction.ensures.value ∙ (λ j. direction_answer (e.0 j) (e.1 j) (e.2 j)) in
    c.put_none.ensures ∙ dcs-are a.p.bits_per_pixel q around own a.i e ∙ sym (needed_none q t _ refl (sym chosen ∙ c.in-Err.is))

pub returns-in-Ok-FromLeft : goal.returns-in-Ok-FromLeft
returns-in-Ok-FromLeft c =
    let a = c.args in
    let q = a.p.quantiser_scale in
    let around = around_by a.p a.store.now in
    let own = record_at a.own.now 0 in
    let t = predictors a.p.bits_per_pixel q around own a.i in
    let e : DcsAre t (to_z w32 (of_z w32 a.a)) (to_z w32 (of_z w32 a.b)) (to_z w32 (of_z w32 a.c)) = (to_z-of_z c.ranges.a ∙ c.requires.0, to_z-of_z c.ranges.b ∙ c.requires.1, to_z-of_z c.ranges.c ∙ c.requires.2) in
    let chosen = c.select_dc_direction.ensures.value ∙ (λ j. direction_answer (e.0 j) (e.1 j) (e.2 j)) in
    c.put_side.ensures
    ∙ (λ j. numbers_at q (from around own (c.a_source.ensures j)) (15 * c.a_block.ensures.0 j + 8) (to_z w32 (of_z w32 a.a)) (to_z w32 (of_z w32 a.b)) (to_z w32 (of_z w32 a.c)))
    ∙ left_is a.p.bits_per_pixel q around own a.i e
    ∙ sym (needed_side q t _ refl (sym chosen ∙ c.in-Ok-FromLeft.is ∙ ap Ok c.in-Ok-FromLeft.field-0-is))

pub returns-in-Ok-FromAbove : goal.returns-in-Ok-FromAbove
returns-in-Ok-FromAbove c =
    let a = c.args in
    let q = a.p.quantiser_scale in
    let around = around_by a.p a.store.now in
    let own = record_at a.own.now 0 in
    let t = predictors a.p.bits_per_pixel q around own a.i in
    let e : DcsAre t (to_z w32 (of_z w32 a.a)) (to_z w32 (of_z w32 a.b)) (to_z w32 (of_z w32 a.c)) = (to_z-of_z c.ranges.a ∙ c.requires.0, to_z-of_z c.ranges.b ∙ c.requires.1, to_z-of_z c.ranges.c ∙ c.requires.2) in
    let chosen = c.select_dc_direction.ensures.value ∙ (λ j. direction_answer (e.0 j) (e.1 j) (e.2 j)) in
    c.put_side-in-Ok-FromAbove.ensures
    ∙ (λ j. numbers_at q (from around own (c.c_source.ensures j)) (15 * c.c_block.ensures.0 j + 1) (to_z w32 (of_z w32 a.a)) (to_z w32 (of_z w32 a.b)) (to_z w32 (of_z w32 a.c)))
    ∙ above-is a.p.bits_per_pixel q around own a.i e
    ∙ sym (needed_side q t _ refl (sym chosen ∙ c.in-Ok-FromAbove.is ∙ ap Ok c.in-Ok-FromAbove.field-0-is))
