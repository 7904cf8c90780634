-- `picture::reconstruct::reconstruct` meets its contract: six turns, then the record into the store. Assumes nothing.
use Rattle.std.proofs.Common.{arith}
use Rattle.picture.proofs.TurnLaws.{all_turned, none_turned, turn_ready, turned}
use Rattle.picture.proofs.reconstruct.reconstruct.Goals as goal

pub loop-i-init : goal.loop-i-init
loop-i-init c =
    let a = c.args in
    none_turned a.due.context a.w a.due.place a.store.now a.rows.now _ a.samples.now c.requires _ c.new_record.ensures.value.1

pub one_block-requires : goal.one_block-requires
one_block-requires c =
    let l = c.loop-i in
    let a = c.args in
    turn_ready a.due.context a.w a.due.place a.store.now a.rows.now _ a.samples.now c.requires l.i l.own l.samples l.invariant _ c.loop-i-test.true

pub loop-i-preserved : goal.loop-i-preserved
loop-i-preserved c =
    let l = c.loop-i in
    let a = c.args in
    turned a.due.context a.w a.due.place a.store.now a.rows.now _ a.samples.now c.requires l.i l.own l.samples l.invariant c.loop-i-test.true c.one_block.ensures.record c.one_block.ensures.samples

pub returns-clause-samples : goal.returns-clause-samples
returns-clause-samples c =
    let l = c.loop-i in
    let a = c.args in
    (all_turned a.due.context a.w a.due.place a.store.now a.rows.now _ a.samples.now c.requires l.i l.own l.samples l.invariant _ (omega arith) c.put_record.ensures.value.1).0
