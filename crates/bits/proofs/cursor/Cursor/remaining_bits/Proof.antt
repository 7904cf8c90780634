-- `bits::Cursor::remaining_bits` meets its contract: eight bits a byte, less the position. Assumes nothing.
use mathlib.Core.Bool.{true}
use mathlib.Core.Path.{◌≡◌, ◌∙◌, sym}
use Prim.Native.Nat.{◌*◌, ◌≤◌}
use native.Mathlib.Omega.{arith}
use lib.ListN.{length}
use borrow.Author.Rules.{rules}
use Rattle.bits.proofs.BitLaws.{length-bits_from}
use Rattle.bits.proofs.CursorLaws.{in_data_yes}
use Rattle.bits.proofs.cursor.Cursor.remaining_bits.Statement.{statement}
use Rattle.bits.specs.Cursor.{in_data}
use Rattle.numbers.proofs.OutcomeLaws.{both}
use Rattle.bits.specs.Outcomes.{count_outcome}
use Rattle.bits.proofs.OutcomeLaws.{remaining_due_lem}
use Rattle.bits.proofs.cursor.Cursor.remaining_bits.Tie as tie

in_data-requires : tie.Need-in_data-requires
in_data-requires c κs = search rules

returns-then-not-in_data : tie.Need-returns-then-not-in_data
returns-then-not-in_data c =
    let args = c.args in
    both count_outcome (simp (sym c.in_data.ensures ∙ c.if-not-in_data.true)) (remaining_due_lem args.«data».now args.self.bit_pos)

-- the data may be read from the position on
readable : (c : tie.Else-not-in_data) → in_data (length c.args.«data».now) c.args.self.bit_pos ≡ true
readable c = sym c.in_data.ensures ∙ c.if-not-in_data.false

limits : (c : tie.Else-not-in_data) → (length c.args.«data».now ≤ 1048576) × (c.args.self.bit_pos ≤ 8 * length c.args.«data».now)
limits c = in_data_yes (length c.args.«data».now) c.args.self.bit_pos (readable c)

overflow_mul-result : tie.Need-overflow_mul-result
overflow_mul-result c = omega (arith, limits c)

overflow_sub-result : tie.Need-overflow_sub-result
overflow_sub-result c = omega (arith, limits c)

returns : tie.Need-returns
returns c =
    let args = c.args in
    both count_outcome (simp (readable c, length-bits_from)) (remaining_due_lem args.«data».now args.self.bit_pos)

pub remaining_bits_spec : {M : Type 1} → statement M
remaining_bits_spec = tie.close (tie.spec in_data-requires returns-then-not-in_data overflow_mul-result overflow_sub-result returns)
