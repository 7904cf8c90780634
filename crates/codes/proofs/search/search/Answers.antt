-- `codes::search` meets its contract: after each turn the search goes on from row i. Assumes nothing.
use Rattle.std.proofs.Common.{arith, sym, ◌≡◌, ◌∙◌}
use Rattle.codes.proofs.SearchLaws.{seek_end, seek-no, seek_yes}
use Rattle.codes.specs.Table.{hit_at}
use Rattle.codes.proofs.search.search.Goals as goal

pub returns-then-hits : goal.returns-then-hits
returns-then-hits c =
    let a = c.args in
    sym (c.loop-i.invariant ∙ seek_yes (hit_at a.codes.now a.lens.now a.window a.n) a.to c.loop-i.i (omega arith) (sym c.hits.ensures ∙ c.if-hits.true))

pub loop-i-preserved : goal.loop-i-preserved
loop-i-preserved c =
    let a = c.args in
    c.loop-i.invariant ∙ seek-no (hit_at a.codes.now a.lens.now a.window a.n) a.to c.loop-i.i (omega arith) (sym c.hits.ensures ∙ c.if-hits.false)

pub returns : goal.returns
returns c =
    let a = c.args in
    let e : c.loop-i.i ≡ a.to = omega arith in
    sym (c.loop-i.invariant ∙ seek_end (hit_at a.codes.now a.lens.now a.window a.n) a.to c.loop-i.i (omega arith) ∙ e)
