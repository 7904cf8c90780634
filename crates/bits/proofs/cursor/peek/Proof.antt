-- `bits::peek` meets its contract: no bits are 0, and the bytes that are read hold the others. Assumes nothing.
use mathlib.Core.Path.{sym, ap}
use Prim.Native.Nat.{ℕ}
use lib.ListN.{take}
use borrow.Author.Rules.{rules}
use Rattle.bits.proofs.cursor.peek.Statement.{statement}
use Rattle.bits.specs.Bits.{val, bits_from}
use Rattle.bits.proofs.cursor.peek.Tie as tie

returns-then-n-eq0 : tie.Need-returns-then-n-eq0
unfolding val
returns-then-n-eq0 c = let a = c.args in sym (ap (λ (k : ℕ). val (take k (bits_from a.«data».now a.at))) c.if-n-eq0.true)

overflow_add-at : tie.Need-overflow_add-at
overflow_add-at c = search rules

cut-requires : tie.Need-cut-requires
cut-requires c κs = search rules

returns-then-at-data : tie.Need-returns-then-at-data
returns-then-at-data c = search rules

overflow_add-at-2 : tie.Need-overflow_add-at-2
overflow_add-at-2 c = search rules

overflow_add-at-3 : tie.Need-overflow_add-at-3
overflow_add-at-3 c = search rules

cut-requires-2 : tie.Need-cut-requires-2
cut-requires-2 c κs = search rules

returns : tie.Need-returns
returns c = search rules

pub peek_spec : {M : Type 1} → statement M
peek_spec =
    tie.close
    (tie.spec returns-then-n-eq0 overflow_add-at cut-requires returns-then-at-data overflow_add-at-2 overflow_add-at-3 cut-requires-2 returns)
