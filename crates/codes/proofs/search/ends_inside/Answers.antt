-- `codes::ends_inside` meets its contract: after each turn the search goes on from row i. Assumes nothing.
use Rattle.std.proofs.Common.{ap, arith, length, ltb, min, sym, ℕ, ◌≡◌, ◌∙◌}
use borrow.Author.Tests.{le-ltb, lt-ltb}
use native.Mathlib.Nat.{sub-zero}
use Rattle.codes.proofs.SearchLaws.{seek_end, seek-no, seek_yes}
use Rattle.codes.proofs.search.ends_inside.Invariants.{at}
use Rattle.codes.specs.Table.{cut_in, seek}
use Rattle.codes.proofs.search.ends_inside.Goals as goal
use Rattle.codes.proofs.search.ends_inside.Goals.{After-min-to}

-- as many rows as both lists have
most : (c : After-min-to) → c.min-to.result ≡ min c.args.rows (min (length c.args.codes.now) (length c.args.lens.now))
most c = c.min-to.ensures ∙ ap (min c.args.rows) c.min.ensures

pub loop-i-init : goal.loop-i-init
loop-i-init c =
    let a = c.args in
    ap (λ (k : ℕ). seek (at a.codes.now a.lens.now a.window a.n) k 0) (sym (sub-zero c.min-to.result))

pub returns-then-ends_in : goal.returns-then-ends_in
returns-then-ends_in c =
    let a = c.args in
    let m = c.min-to.result in
    let f = at a.codes.now a.lens.now a.window a.n in
    let i : seek f m 0 ≡ c.loop-i.i = c.loop-i.invariant ∙ seek_yes f m c.loop-i.i (omega arith) (sym c.ends_in.ensures ∙ c.if-ends_in.true) in
    sym (ap (λ (x : ℕ). cut_in a.codes.now a.lens.now x a.window a.n) (sym (most (goal.at.returns-then-ends_in c).After-min-to)) ∙ ap (λ (x : ℕ). ltb x m) i ∙ lt-ltb c.loop-i.i m (omega arith))

pub loop-i-preserved : goal.loop-i-preserved
loop-i-preserved c =
    let a = c.args in
    c.loop-i.invariant ∙ seek-no (at a.codes.now a.lens.now a.window a.n) c.min-to.result c.loop-i.i (omega arith) (sym c.ends_in.ensures ∙ c.if-ends_in.false)

pub returns : goal.returns
returns c =
    let a = c.args in
    let m = c.min-to.result in
    let f = at a.codes.now a.lens.now a.window a.n in
    let i : seek f m 0 ≡ c.loop-i.i = c.loop-i.invariant ∙ seek_end f m c.loop-i.i (omega arith) in
    sym (ap (λ (x : ℕ). cut_in a.codes.now a.lens.now x a.window a.n) (sym (most (goal.at.returns c).After-min-to)) ∙ ap (λ (x : ℕ). ltb x m) i ∙ le-ltb c.loop-i.i m (omega arith))
