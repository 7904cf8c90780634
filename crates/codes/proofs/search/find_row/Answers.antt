-- `codes::find_row` meets its contract: a search finds a row or none, wherever it begins. Assumes nothing.
use Rattle.std.proofs.Common.{ap, arith, length, min, subst, sym, ℕ, ◌<◌, ◌≡◌, ◌≤◌, ◌∙◌}
use native.Mathlib.Nat.{sub-zero}
use Rattle.codes.proofs.SearchLaws.{seek-from}
use Rattle.codes.specs.Table.{Found, hit_at, seek}
use Rattle.codes.proofs.search.find_row.Goals as goal
use Rattle.codes.proofs.search.find_row.Goals.{After-min-most}

-- as many rows as both lists have
most : (c : After-min-most) → c.min-most.result ≡ min c.args.rows (min (length c.args.codes.now) (length c.args.lens.now))
most c = c.min-most.ensures ∙ ap (min c.args.rows) c.min.ensures

pub returns-then-row-most : goal.returns-then-row-most
returns-then-row-most c =
    let a = c.args in
    let m = c.min-most.result in
    let f = c.min-from.result in
    let r = c.search-row.result in
    let h : r < m = c.if-row-most.true in
    let l : f ≤ m = omega (arith, c.min-from.ensures) in
    subst (λ (k : ℕ). Found a.codes.now a.lens.now k a.window a.n r) (most (goal.at.returns-then-row-most c).After-min-most)
    (λ (g : r < m). seek-from (hit_at a.codes.now a.lens.now a.window a.n) m f r l c.search-row.ensures h, λ (g : m ≤ r). absurd (omega arith))

pub returns : goal.returns
returns c =
    let a = c.args in
    let m = c.min-most.result in
    let r = c.search.result in
    let test = hit_at a.codes.now a.lens.now a.window a.n in
    subst (λ (k : ℕ). Found a.codes.now a.lens.now k a.window a.n r) (most (goal.at.returns c).After-min-most)
    (λ (g : r < m). seek-from test m 0 r (omega arith) c.search.ensures g, λ (g : m ≤ r). ap (λ (k : ℕ). seek test k 0) (sym (sub-zero m)) ∙ sym c.search.ensures)
