-- `vaxembro::lent::picture_of` meets its contract. Assumes nothing.
use mathlib.Core.Path.{refl}
use borrow.Author.Rules.{rules}
use Rattle.vaxembro.specs.Lent.{picture_of}
use Rattle.vaxembro.proofs.lent.picture_of.Statement.{statement}
use Rattle.vaxembro.proofs.lent.picture_of.Tie as tie

bounds-state-0 : tie.Need-bounds-state-0
bounds-state-0 c = search rules

bounds-state-1 : tie.Need-bounds-state-1
bounds-state-1 c = search rules

bounds-state-2 : tie.Need-bounds-state-2
bounds-state-2 c = search rules

bounds-state-3 : tie.Need-bounds-state-3
bounds-state-3 c = search rules

bounds-state-4 : tie.Need-bounds-state-4
bounds-state-4 c = search rules

returns : tie.Need-returns
unfolding picture_of
returns c = refl

pub picture_of_spec : {M : Type 1} → statement M
picture_of_spec =
    tie.close
    (tie.spec
    bounds-state-0
    bounds-state-1
    bounds-state-2
    bounds-state-3
    bounds-state-4
    returns)
