-- `vaxembro::header::scale_of` meets its contract: a quantiser below 32 is itself. Assumes nothing.
use native.Mathlib.Omega.{arith}
use borrow.Author.Rules.{rules}
use borrow.Author.Tests.{le-ltb, lt-ltb}
use mir.Facts.{to_z_pos}
use mir.Syntax.{w32}
use Rattle.vaxembro.proofs.RoomLaws.{long-is, short_is}
use Rattle.vaxembro.proofs.header.scale_of.Statement.{statement}
use Rattle.vaxembro.proofs.header.scale_of.Tie as tie

overflow_cast-result : tie.Need-overflow_cast-result
overflow_cast-result c = search rules

returns-then-q-lt32 : tie.Need-returns-then-q-lt32
returns-then-q-lt32 c = let h = c.if-q-lt32.true in long-is _ (lt-ltb _ 32 h) (to_z_pos w32 (omega arith))

returns : tie.Need-returns
returns c = short_is _ (le-ltb _ 32 c.if-q-lt32.false)

pub scale_of_spec : {M : Type 1} → statement M
scale_of_spec = tie.close (tie.spec overflow_cast-result returns-then-q-lt32 returns)
