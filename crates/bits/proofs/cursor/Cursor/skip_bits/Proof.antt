-- `bits::Cursor::skip_bits` meets its contract: its tests are the definition's. Assumes nothing.
use mathlib.Core.Bool.{true}
use mathlib.Core.Path.{◌≡◌, ◌∙◌, sym}
use Prim.Native.Nat.{◌*◌, ◌≤◌}
use native.Mathlib.Omega.{arith}
use lib.ListN.{length}
use borrow.Author.Rules.{rules}
use borrow.Author.Tests.{le-leb, lt-leb}
use Rattle.bits.proofs.BitLaws.{length-bits_from}
use Rattle.bits.proofs.CursorLaws.{in_data_yes}
use Rattle.bits.proofs.cursor.Cursor.skip_bits.Statement.{statement}
use Rattle.bits.specs.Cursor.{in_data}
use Rattle.numbers.proofs.OutcomeLaws.{both}
use Rattle.bits.specs.Outcomes.{moved_outcome}
use Rattle.bits.proofs.OutcomeLaws.{skip_due_lem}
use Rattle.bits.proofs.cursor.Cursor.skip_bits.Tie as tie

in_data-requires : tie.Need-in_data-requires
in_data-requires c κs = search rules

returns-then-not-in_data : tie.Need-returns-then-not-in_data
returns-then-not-in_data c =
    let args = c.args in
    both moved_outcome (simp (sym c.in_data.ensures ∙ c.if-not-in_data.true)) (skip_due_lem args.«data».now args.self.bit_pos args.n)

-- the data may be read from the position on
readable : (c : tie.Else-not-in_data) → in_data (length c.args.«data».now) c.args.self.bit_pos ≡ true
readable c = sym c.in_data.ensures ∙ c.if-not-in_data.false

limits : (c : tie.Else-not-in_data) → (length c.args.«data».now ≤ 1048576) × (c.args.self.bit_pos ≤ 8 * length c.args.«data».now)
limits c = in_data_yes (length c.args.«data».now) c.args.self.bit_pos (readable c)

overflow_mul-data : tie.Need-overflow_mul-data
overflow_mul-data c = omega (arith, limits c)

overflow_sub-data : tie.Need-overflow_sub-data
overflow_sub-data c = omega (arith, limits c)

returns-then-data-at : tie.Need-returns-then-data-at
returns-then-data-at c =
    let args = c.args in
    both moved_outcome (simp (readable c.before, length-bits_from, lt-leb _ _ c.if-data-at.true)) (skip_due_lem args.«data».now args.self.bit_pos args.n)

overflow_add-result : tie.Need-overflow_add-result
overflow_add-result c = omega (arith, limits c.before)

returns : tie.Need-returns
returns c =
    let args = c.args in
    both moved_outcome (simp (readable c.before, length-bits_from, le-leb _ _ c.if-data-at.false)) (skip_due_lem args.«data».now args.self.bit_pos args.n)

pub skip_bits_spec : {M : Type 1} → statement M
skip_bits_spec = tie.close (tie.spec in_data-requires returns-then-not-in_data overflow_mul-data overflow_sub-data returns-then-data-at overflow_add-result returns)
