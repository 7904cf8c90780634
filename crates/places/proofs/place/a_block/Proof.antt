-- `places::place::a_block` meets its contract: the two tables are the same, and have no block above 5. Assumes nothing.
use mathlib.Core.Path.{subst⁻¹}
use Prim.Native.Nat.{ℕ, ◌<◌}
use borrow.Author.Rules.{rules}
use Rattle.places.proofs.PlaceLaws.{a_below}
use Rattle.places.proofs.place.a_block.Statement.{statement}
use Rattle.places.proofs.place.a_block.Tie as tie

entry-requires : tie.Need-entry-requires
entry-requires c κs = search rules

returns : tie.Need-returns
returns c = let e = c.entry.ensures in (e, subst⁻¹ (λ (b : ℕ). b < 6) e (a_below c.args.i))

pub a_block_spec : {M : Type 1} → statement M
a_block_spec = tie.close (tie.spec entry-requires returns)
