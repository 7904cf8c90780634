-- `window_reader::six::end_of` meets its contract: a place after the first is not 0, or all are. Assumes nothing.
use Rattle.std.proofs.Common.{ap, arith, below_more, drop, get_or, length, sym, take, ◌+◌, ◌≡◌, ◌∙◌}
use lib.IntN.{pos, ℤ}
use lib.ListN.{length-drop}
use Rattle.std.proofs.lemmas.List.{length-take}
use mir.Syntax.{w32}
use mir.Val.{of_z}
use Rattle.numbers.proofs.Magnitudes.{zero_of_abs}
use Rattle.numbers.proofs.Words.{fits_ok, zero-abs}
use Rattle.window_reader.proofs.EndLaws.{after_first, all_after, end_some}
use Rattle.window_reader.proofs.six.end_of.Goals as goal

pub returns-then-q-ne0 : goal.returns-then-q-ne0
returns-then-q-ne0 c =
    let qfs = c.args.qfs in
    let i = c.loop-q.q-index in
    let n = length-take 63 (drop 1 qfs) in
    sym (end_some qfs (1 + i) (omega arith) (omega arith) (λ e. c.if-q-ne0.true (ap (of_z w32) (after_first qfs i (omega arith) ∙ e))))

pub loop-q-preserved : goal.loop-q-preserved
loop-q-preserved c =
    let z : ℤ = get_or (take 63 (drop 1 c.args.qfs)) c.loop-q.q-index (pos 0) in
    below_more _ _ c.loop-q.invariant (zero_of_abs z (zero-abs (fits_ok w32 z c.t15-1.given) c.if-q-ne0.false))

pub returns : goal.returns
returns c =
    let qfs = c.args.qfs in
    let m : length qfs ≡ 64 = c.well_formed.0.1.0.1 in
    let d = length-drop 1 qfs in
    let n = length-take 63 (drop 1 qfs) in
    sym (all_after qfs (λ k h. c.loop-q.invariant k (omega arith)))
