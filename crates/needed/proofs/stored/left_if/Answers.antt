-- `needed::stored::left_if` meets its contract: the part of the store that the record is. Assumes nothing.
use Rattle.std.proofs.Common.{ap, length, ◌∙◌}
use Rattle.record.proofs.RecordLaws.{part_built}
use Rattle.needed.specs.Stored.{left_fine}
use Rattle.needed.proofs.StoredLaws.{there-lies}
use Rattle.needed.proofs.stored.left_if.Goals as goal

pub returns-else-not-there : goal.returns-else-not-there
returns-else-not-there c =
    let a = c.args in
    let h = there-lies (length a.store.now) a.at c.if-not-there.false c.requires in
    rw c.if-not-there.false (c.left_fine.ensures ∙ ap left_fine (part_built a.store.now a.at 91 h))
