-- `coefficients::handed::seven_in` meets its contract: seven reads, one after the other. Assumes nothing.
use mathlib.Core.List.{[], ◌∷◌}
use lib.IntN.{pos}
use lib.ListN.{get_or}
use borrow.Author.Rules.{rules}
use Rattle.numbers.specs.Grid.{build}
use Rattle.numbers.proofs.Words.{held}
use Rattle.coefficients.proofs.handed.seven_in.Statement.{statement}
use Rattle.coefficients.proofs.handed.seven_in.Tie as tie

bounds-n-4 : tie.Need-bounds-n-4
bounds-n-4 c = search rules

bounds-n-5 : tie.Need-bounds-n-5
bounds-n-5 c = search rules

bounds-n-6 : tie.Need-bounds-n-6
bounds-n-6 c = search rules

bounds-n-7 : tie.Need-bounds-n-7
bounds-n-7 c = search rules

bounds-n-8 : tie.Need-bounds-n-8
bounds-n-8 c = search rules

bounds-n-9 : tie.Need-bounds-n-9
bounds-n-9 c = search rules

bounds-n-10 : tie.Need-bounds-n-10
bounds-n-10 c = search rules

returns : tie.Need-returns
unfolding build
returns c =
    let n = c.args.n.now in
    λ i.
    held (get_or n 4 (pos 0)) c.result-1.given i ∷
    held (get_or n 5 (pos 0)) c.result-2-1.given i ∷
    held (get_or n 6 (pos 0)) c.result-3-1.given i ∷
    held (get_or n 7 (pos 0)) c.result-4-1.given i ∷
    held (get_or n 8 (pos 0)) c.result-5-1.given i ∷
    held (get_or n 9 (pos 0)) c.result-6-1.given i ∷
    held (get_or n 10 (pos 0)) c.result-7-1.given i ∷
    []

pub seven_in_spec : {M : Type 1} → statement M
seven_in_spec =
    tie.close
    (tie.spec
    bounds-n-4
    bounds-n-5
    bounds-n-6
    bounds-n-7
    bounds-n-8
    bounds-n-9
    bounds-n-10
    returns)
