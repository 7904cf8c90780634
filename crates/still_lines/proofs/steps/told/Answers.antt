-- `still_lines::steps::told` meets its contract: kept, skipped, ended. Assumes nothing.
use mathlib.Core.Path.{sym}
use lib.ListN.{length}
use lib.Seq.{length-take-le}
use Rattle.still_lines.proofs.StepLaws.{ended_fits, told-ended, told-kept, told-skipped}
use Rattle.still_lines.proofs.steps.told.Goals as goal

pub slice_bounds-ended-end : goal.slice_bounds-ended-end
slice_bounds-ended-end c =
    sym (length-take-le _ c.args.line.now (ended_fits (length c.args.line.now) c.requires.0 c.in-Ended.is))

pub returns-in-Kept : goal.returns-in-Kept
returns-in-Kept c =
    let a = c.args in
    let t = told-kept a.s a.samples.now a.store.now a.«data».now a.out.now a.line.now c.in-Kept.is in
    record { still_value = t.0; bytes = t.1.0; samples = t.1.1.0; store = t.1.1.1.0; out = t.1.1.1.1 }

pub returns-in-Skipped : goal.returns-in-Skipped
returns-in-Skipped c =
    let a = c.args in
    let t = told-skipped a.s a.samples.now a.store.now a.«data».now a.out.now a.line.now c.in-Skipped.is in
    record { still_value = t.0; bytes = t.1.0; samples = t.1.1.0; store = t.1.1.1.0; out = t.1.1.1.1 }

pub returns-in-Ended : goal.returns-in-Ended
returns-in-Ended c =
    let a = c.args in
    let e = c.ended.ensures in
    let t = told-ended a.s a.samples.now a.store.now a.«data».now a.out.now a.line.now c.in-Ended.is (e.still_value, (e.bytes, (e.samples, (e.store, e.out)))) in
    record { still_value = t.0; bytes = t.1.0; samples = t.1.1.0; store = t.1.1.1.0; out = t.1.1.1.1 }
