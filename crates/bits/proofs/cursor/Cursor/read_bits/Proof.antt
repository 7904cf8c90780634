-- `bits::Cursor::read_bits` meets its contract: its tests are the definition's, and the number is `peek`'s. Assumes nothing.
use mathlib.Core.Bool.{true}
use mathlib.Core.Path.{◌≡◌, ◌∙◌, sym}
use Prim.Native.Nat.{◌*◌, ◌≤◌}
use native.Mathlib.Omega.{arith}
use lib.ListN.{length}
use borrow.Author.Rules.{rules}
use borrow.Author.Tests.{le-leb, lt-leb}
use Rattle.bits.proofs.BitLaws.{length-bits_from}
use Rattle.bits.proofs.CursorLaws.{in_data_yes}
use Rattle.bits.proofs.cursor.Cursor.read_bits.Statement.{statement}
use Rattle.bits.specs.Cursor.{in_data, read_bits}
use Rattle.numbers.proofs.OutcomeLaws.{both}
use Rattle.bits.specs.Outcomes.{bits_outcome}
use Rattle.bits.proofs.OutcomeLaws.{read_due_lem}
use Rattle.bits.proofs.cursor.Cursor.read_bits.Tie as tie

in_data-requires : tie.Need-in_data-requires
in_data-requires c κs = search rules

returns-then-not-in_data : tie.Need-returns-then-not-in_data
unfolding read_bits
returns-then-not-in_data c =
    let args = c.args in
    both bits_outcome (simp (sym c.in_data.ensures ∙ c.if-not-in_data.true)) (read_due_lem args.«data».now args.self.bit_pos args.n)

-- the data may be read from the position on
readable : (c : tie.Else-not-in_data) → in_data (length c.args.«data».now) c.args.self.bit_pos ≡ true
readable c = sym c.in_data.ensures ∙ c.if-not-in_data.false

limits : (c : tie.Else-not-in_data) → (length c.args.«data».now ≤ 1048576) × (c.args.self.bit_pos ≤ 8 * length c.args.«data».now)
limits c = in_data_yes (length c.args.«data».now) c.args.self.bit_pos (readable c)

returns-then-n-gt-MOST_BITS : tie.Need-returns-then-n-gt-MOST_BITS
unfolding read_bits
returns-then-n-gt-MOST_BITS c =
    let args = c.args in
    both bits_outcome (simp (readable c.before, lt-leb _ _ c.if-n-gt-MOST_BITS.true)) (read_due_lem args.«data».now args.self.bit_pos args.n)

overflow_mul-data : tie.Need-overflow_mul-data
overflow_mul-data c = omega (arith, limits c.before)

overflow_sub-data : tie.Need-overflow_sub-data
overflow_sub-data c = omega (arith, limits c.before)

returns-then-data-at : tie.Need-returns-then-data-at
unfolding read_bits
returns-then-data-at c =
    let args = c.args in
    both bits_outcome (simp (readable c.before.before, le-leb _ _ c.if-n-gt-MOST_BITS.false, length-bits_from, lt-leb _ _ c.if-data-at.true)) (read_due_lem args.«data».now args.self.bit_pos args.n)

peek-requires : tie.Need-peek-requires
peek-requires c κs = omega (arith, limits c.before.before)

overflow_add-result : tie.Need-overflow_add-result
overflow_add-result c = omega (arith, limits c.before.before.before)

returns : tie.Need-returns
unfolding read_bits
returns c =
    let args = c.args in
    both bits_outcome (simp (readable c.before.before.before, le-leb _ _ c.if-n-gt-MOST_BITS.false, length-bits_from, le-leb _ _ c.if-data-at.false, c.peek.ensures)) (read_due_lem args.«data».now args.self.bit_pos args.n)

pub read_bits_spec : {M : Type 1} → statement M
read_bits_spec = tie.close (tie.spec in_data-requires returns-then-not-in_data returns-then-n-gt-MOST_BITS overflow_mul-data overflow_sub-data returns-then-data-at peek-requires overflow_add-result returns)
