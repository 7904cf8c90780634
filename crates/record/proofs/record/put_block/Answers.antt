-- `record::record::put_block` meets its contract: the fifteen numbers are written over the block's place. Assumes nothing.
use Rattle.std.proofs.Common.{ap, sym, ℤ, ◌*◌, ◌∙◌}
use Rattle.std.proofs.lemmas.Slice.{put_mid-paste}
use native.Mathlib.Omega.{arith}
use mir.Facts.{to_z-of_z}
use Rattle.record.specs.Record.{fifteen}
use Rattle.record.proofs.RecordLaws.{fifteen-length, with_block_is}
use Rattle.record.proofs.record.put_block.Goals as goal

pub returns : goal.returns
returns c =
    let a = c.args in
    let e = c.copy_from_slice.ensures.after ∙ c.kept_numbers-numbers.ensures ∙ ap (λ (d : ℤ). fifteen d a.qf) (to_z-of_z c.ranges.dc) in
    put_mid-paste (15 * a.i) _ a.own.now c.copy_from_slice.new.self (fifteen a.dc a.qf) 15 e (omega arith) (sym (fifteen-length a.dc a.qf))
    ∙ sym (with_block_is a.own.now a.i a.dc a.qf c.requires.0)
