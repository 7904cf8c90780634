-- `needed::stored::plainly` meets its contract: a new record and the plain test; or no quantiser, which that test refuses. Assumes nothing.
use Rattle.std.proofs.Common.{List, ap, sym, ℤ, ◌∙◌}
use Rattle.record.specs.Record.{blank, record_at}
use Rattle.record.proofs.RecordLaws.{blank-length, record_whole}
use Rattle.record.proofs.RefusalLaws.{handed_out, quantiser-refused}
use Rattle.neighbours.specs.Neighbours.{around_by, neighbours_fine}
use Rattle.needed.proofs.StoredLaws.{no-quantiser}
use Rattle.needed.proofs.stored.plainly.Goals as goal

pub returns-in-Err : goal.returns-in-Err
returns-in-Err c =
    let p = c.args.p in
    let refused = quantiser-refused p.quantiser_scale _ (sym c.new_record.ensures.value.0 ∙ c.in-Err.is) in
    sym (no-quantiser p.bits_per_pixel p.quantiser_scale (around_by p c.args.store.now) refused)

pub returns-in-Ok : goal.returns-in-Ok
returns-in-Ok c =
    let p = c.args.p in
    let q = p.quantiser_scale in
    let begun = c.new_record.ensures.value.1 ∙ handed_out _ _ (sym c.new_record.ensures.value.0 ∙ c.in-Ok.is) in
    c.neighbours_fine.ensures
    ∙ ap (λ (own : List ℤ). neighbours_fine p.bits_per_pixel q (around_by p c.args.store.now) own)
    (ap (λ (l : List ℤ). record_at l 0) begun ∙ record_whole (blank q) (blank-length q))
