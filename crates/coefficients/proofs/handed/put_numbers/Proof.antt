-- `coefficients::handed::put_numbers` meets its contract: eleven numbers in one store. Assumes nothing.
use mathlib.Core.List.{[], ◌∷◌}
use mathlib.Core.Path.{◌≡◌, ◌∙◌}
use lib.IntN.{pos}
use lib.ListN.{get_or}
use mir.Syntax.{w32}
use mir.Val.{of_z, to_z}
use borrow.Author.Rules.{rules}
use Rattle.numbers.specs.Grid.{build}
use Rattle.numbers.proofs.Words.{held}
use Rattle.coefficients.proofs.handed.put_numbers.Statement.{statement}
use Rattle.coefficients.proofs.handed.put_numbers.Tie as tie

told_as-q-requires : tie.Need-told_as-q-requires
told_as-q-requires c κs = search rules

bounds-v-0 : tie.Need-bounds-v-0
bounds-v-0 c = search rules

bounds-v-1 : tie.Need-bounds-v-1
bounds-v-1 c = search rules

bounds-v-2 : tie.Need-bounds-v-2
bounds-v-2 c = search rules

bounds-v-3 : tie.Need-bounds-v-3
bounds-v-3 c = search rules

bounds-v-4 : tie.Need-bounds-v-4
bounds-v-4 c = search rules

bounds-v-5 : tie.Need-bounds-v-5
bounds-v-5 c = search rules

bounds-v-6 : tie.Need-bounds-v-6
bounds-v-6 c = search rules

returns : tie.Need-returns
unfolding build
returns c =
    let d = c.before.before.before.before.before.before.before.before in
    let a = d.args in
    let g = d.well_formed in
    let fa : to_z w32 (of_z w32 a.fa) ≡ a.fa = search rules in
    let fb : to_z w32 (of_z w32 a.fb) ≡ a.fb = search rules in
    let fc : to_z w32 (of_z w32 a.fc) ≡ a.fc = search rules in
    let q = held d.told_as-q.result d.told_as-q.type_inv ∙ d.told_as-q.ensures in
    λ i.
    fa i ∷
    fb i ∷
    fc i ∷
    q i ∷
    held (get_or a.v 0 (pos 0)) c.numbers-1.given i ∷
    held (get_or a.v 1 (pos 0)) c.numbers-2-1.given i ∷
    held (get_or a.v 2 (pos 0)) c.numbers-3-1.given i ∷
    held (get_or a.v 3 (pos 0)) c.numbers-4-1.given i ∷
    held (get_or a.v 4 (pos 0)) c.numbers-5-1.given i ∷
    held (get_or a.v 5 (pos 0)) c.numbers-6-1.given i ∷
    held (get_or a.v 6 (pos 0)) c.numbers-7-1.given i ∷
    []

pub put_numbers_spec : {M : Type 1} → statement M
put_numbers_spec =
    tie.close
    (tie.spec
    told_as-q-requires
    bounds-v-0
    bounds-v-1
    bounds-v-2
    bounds-v-3
    bounds-v-4
    bounds-v-5
    bounds-v-6
    returns)
