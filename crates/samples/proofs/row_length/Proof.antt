-- `samples::row_length` meets its contract: 16 for luma, 8 for Cb and Cr. Assumes nothing.
use borrow.Author.Tests.{le-ltb, lt-ltb}
use Rattle.samples.proofs.row_length.Statement.{statement}
use Rattle.samples.proofs.row_length.Tie as tie

returns-then-i-lt4 : tie.Need-returns-then-i-lt4
returns-then-i-lt4 c = rw (lt-ltb _ _ c.if-i-lt4.true)

returns : tie.Need-returns
returns c = rw (le-ltb _ _ c.if-i-lt4.false)

pub row_length_spec : {M : Type 1} → statement M
row_length_spec = tie.close (tie.spec returns-then-i-lt4 returns)
