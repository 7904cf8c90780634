-- `needed::stored::stored_fine` meets its contract: the three tests in their order, or the plain way. Assumes nothing.
use Rattle.std.proofs.Common.{Bool, ap, sym, ◌&&◌, ◌∙◌, ◌≡◌}
use Rattle.record.specs.Record.{record_at}
use Rattle.neighbours.specs.Neighbours.{around_by, found}
use Rattle.needed.specs.Stored.{above_fine, above_left_fine, if_there, left_fine}
use Rattle.needed.proofs.StoredLaws.{no-quantiser, three_tests}
use Rattle.needed.proofs.stored.stored_fine.Goals.{else-left_if, then-left_if}
use Rattle.needed.proofs.stored.stored_fine.Goals as goal

pub returns-then-not-fine : goal.returns-then-not-fine
returns-then-not-fine c =
    let p = c.args.p in
    sym (no-quantiser p.bits_per_pixel p.quantiser_scale (around_by p c.args.store.now) (sym c.fine.ensures ∙ c.if-not-fine.true))

pub returns-then-above_left_if : goal.returns-then-above_left_if
returns-then-above_left_if c =
    let p = c.args.p in
    let s = c.args.store.now in
    let left = if_there left_fine (found p.has_left (record_at s p.left)) in
    let above_left = if_there above_left_fine (found p.has_above_left (record_at s p.above_left)) in
    let above = if_there above_fine (found p.has_above (record_at s p.above)) in
    let two : c.if-left_if.value ≡ (left && above_left) =
    elim c.if-left_if.branch [
      | then-left_if w ↦ w.value-is ∙ w.above_left_if.ensures ∙ ap (λ (t : Bool). t && above_left) (sym (sym c.left_if.ensures ∙ w.if-left_if.true))
      | else-left_if w ↦ w.value-is ∙ w.if-left_if.false ∙ ap (λ (t : Bool). t && above_left) (sym (sym c.left_if.ensures ∙ w.if-left_if.false))
    ] in
    c.above_if.ensures
    ∙ ap (λ (t : Bool). t && above) (sym (sym two ∙ c.if-above_left_if.true))
    ∙ sym (three_tests p.bits_per_pixel p.quantiser_scale (around_by p s) (sym c.fine.ensures ∙ c.if-not-fine.false))

pub returns-else-above_left_if : goal.returns-else-above_left_if
returns-else-above_left_if c =
    let p = c.args.p in
    let s = c.args.store.now in
    let left = if_there left_fine (found p.has_left (record_at s p.left)) in
    let above_left = if_there above_left_fine (found p.has_above_left (record_at s p.above_left)) in
    let above = if_there above_fine (found p.has_above (record_at s p.above)) in
    let two : c.if-left_if.value ≡ (left && above_left) =
    elim c.if-left_if.branch [
      | then-left_if w ↦ w.value-is ∙ w.above_left_if.ensures ∙ ap (λ (t : Bool). t && above_left) (sym (sym c.left_if.ensures ∙ w.if-left_if.true))
      | else-left_if w ↦ w.value-is ∙ w.if-left_if.false ∙ ap (λ (t : Bool). t && above_left) (sym (sym c.left_if.ensures ∙ w.if-left_if.false))
    ] in
    c.if-above_left_if.false
    ∙ ap (λ (t : Bool). t && above) (sym (sym two ∙ c.if-above_left_if.false))
    ∙ sym (three_tests p.bits_per_pixel p.quantiser_scale (around_by p s) (sym c.fine.ensures ∙ c.if-not-fine.false))
