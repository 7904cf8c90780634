-- `record::store::put_record` meets its contract: the record is written at its place, or does not lie in the store. Assumes nothing.
use Rattle.std.proofs.Common.{length, refl, sym, ◌+◌, ◌∙◌}
use Rattle.std.proofs.lemmas.Slice.{put_mid-paste}
use native.Mathlib.Omega.{arith}
use borrow.Author.Tests.{lt-leb}
use Rattle.record.proofs.RecordLaws.{stored_is, stored_not}
use Rattle.record.proofs.RefusalLaws.{store_passes}
use Rattle.record.proofs.store.put_record.Goals as goal

pub returns-then-store-start-clause-value : goal.returns-then-store-start-clause-value
returns-then-store-start-clause-value c =
    let a = c.args in
    let s = a.store.now in
    (rw (lt-leb (a.at + 91) (length s) c.if-store-start.true) refl, sym (stored_not s a.at a.r c.if-store-start.true))

pub returns-clause-value : goal.returns-clause-value
returns-clause-value c =
    let a = c.args in
    let s = a.store.now in
    let h = c.if-store-start.false in (
      sym (store_passes (length s) a.at h),
      put_mid-paste a.at _ s c.copy_from_slice.new.self a.r 91 c.copy_from_slice.ensures.after (omega arith) (omega arith) ∙ sym (stored_is s a.at a.r h),
    )
