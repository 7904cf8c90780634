-- `samples::begin_of` meets its contract: i is known in each arm. Assumes nothing.
use mathlib.Core.Path.{◌≡◌}
use native.Mathlib.Omega.{arith}
use Rattle.samples.proofs.begin_of.Statement.{statement}
use Rattle.samples.proofs.begin_of.Tie as tie

returns-in-0 : tie.Need-returns-in-0
returns-in-0 c = let e : c.args.i ≡ 0 = omega arith in rw e

returns-in-1 : tie.Need-returns-in-1
returns-in-1 c = let e : c.args.i ≡ 1 = omega arith in rw e

returns-in-2 : tie.Need-returns-in-2
returns-in-2 c = let e : c.args.i ≡ 2 = omega arith in rw e

returns-in-3 : tie.Need-returns-in-3
returns-in-3 c = let e : c.args.i ≡ 3 = omega arith in rw e

returns-in-4 : tie.Need-returns-in-4
returns-in-4 c = let e : c.args.i ≡ 4 = omega arith in rw e

returns-in_default : tie.Need-returns-in_default
returns-in_default c = let e : c.args.i ≡ 5 = omega arith in rw e

pub begin_of_spec : {M : Type 1} → statement M
begin_of_spec = tie.close (tie.spec returns-in-0 returns-in-1 returns-in-2 returns-in-3 returns-in-4 returns-in_default)
