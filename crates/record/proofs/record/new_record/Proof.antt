-- `record::record::new_record` meets its contract: zeros and a quantiser that is one. Assumes nothing.
use mathlib.Core.Bool.{true}
use mathlib.Core.Path.{◌≡◌, refl}
use native.Mathlib.Omega.{arith}
use mir.Facts.{to_z_pos}
use mir.Syntax.{w32}
use borrow.Author.Rules.{rules}
use Rattle.numbers.proofs.OutcomeLaws.{also}
use Rattle.numbers.proofs.Tests.{flag_passes, flag_refuses}
use Rattle.ranges.specs.Range.{quantiser_fine}
use Rattle.ranges.proofs.RangeLaws.{quantiser_range}
use Rattle.record.specs.Record.{blank}
use Rattle.record.specs.Refusals.{recorded_outcome}
use Rattle.record.proofs.OutcomeLaws.{quantiser_due_lem}
use Rattle.record.proofs.record.new_record.Statement.{statement}
use Rattle.record.proofs.record.new_record.Tie as tie

fine-requires : tie.Need-fine-requires
fine-requires c κs = search rules

returns-then-not-fine : tie.Need-returns-then-not-fine
returns-then-not-fine c =
    let q = c.args.quantiser_scale in
    also recorded_outcome (rw (flag_refuses c.fine.ensures c.if-not-fine.true) (refl, refl)) (quantiser_due_lem q)

is_one : (c : tie.Else-not-fine) → quantiser_fine c.args.quantiser_scale ≡ true
is_one c = flag_passes c.fine.ensures c.if-not-fine.false

overflow_cast-fresh : tie.Need-overflow_cast-fresh
overflow_cast-fresh c = omega (arith, (quantiser_range c.args.quantiser_scale (is_one c)).1)

bounds-fresh-90 : tie.Need-bounds-fresh-90
bounds-fresh-90 c = search rules

returns : tie.Need-returns
unfolding blank
returns c =
    let q = c.args.quantiser_scale in
    also recorded_outcome (rw (is_one c, to_z_pos w32 {n = q} (omega (arith, (quantiser_range q (is_one c)).1))) (refl, refl)) (quantiser_due_lem q)

pub new_record_spec : {M : Type 1} → statement M
new_record_spec =
    tie.close (tie.spec fine-requires returns-then-not-fine overflow_cast-fresh bounds-fresh-90 returns)
