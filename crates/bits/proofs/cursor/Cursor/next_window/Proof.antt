-- `bits::Cursor::next_window` meets its contract: its tests are the definition's, and the number is `peek`'s. Assumes nothing.
use mathlib.Core.Bool.{true, false}
use mathlib.Core.Path.{◌≡◌, ◌∙◌, sym, ap}
use Prim.Native.Nat.{◌*◌, ◌≤◌, min, ℕ}
use native.Mathlib.Omega.{arith}
use lib.Dec.{eqb}
use lib.ListN.{length, length-take, take}
use borrow.Author.Rules.{rules}
use borrow.Author.Tests.{eq-eqb, le-leb, lt-leb, ne_eqb}
use Rattle.bits.proofs.BitLaws.{length-bits_from}
use Rattle.bits.proofs.CursorLaws.{in_data_yes, take_least}
use Rattle.bits.proofs.cursor.Cursor.next_window.Statement.{statement}
use Rattle.bits.specs.Bits.{bits_from, val}
use Rattle.bits.specs.Cursor.{in_data, next_window}
use Rattle.numbers.proofs.OutcomeLaws.{both}
use Rattle.bits.specs.Outcomes.{window_outcome}
use Rattle.bits.proofs.OutcomeLaws.{window_due_lem}
use Rattle.bits.proofs.cursor.Cursor.next_window.Tie as tie

in_data-requires : tie.Need-in_data-requires
in_data-requires c κs = search rules

returns-then-not-in_data : tie.Need-returns-then-not-in_data
unfolding next_window
returns-then-not-in_data c =
    let args = c.args in
    both window_outcome (simp (sym c.in_data.ensures ∙ c.if-not-in_data.true)) (window_due_lem args.«data».now args.self.bit_pos args.most)

-- the data may be read from the position on
readable : (c : tie.Else-not-in_data) → in_data (length c.args.«data».now) c.args.self.bit_pos ≡ true
readable c = sym c.in_data.ensures ∙ c.if-not-in_data.false

limits : (c : tie.Else-not-in_data) → (length c.args.«data».now ≤ 1048576) × (c.args.self.bit_pos ≤ 8 * length c.args.«data».now)
limits c = in_data_yes (length c.args.«data».now) c.args.self.bit_pos (readable c)

returns-then-most-gt-MOST_BITS : tie.Need-returns-then-most-gt-MOST_BITS
unfolding next_window
returns-then-most-gt-MOST_BITS c =
    let args = c.args in
    both window_outcome (simp (readable c.before, lt-leb _ _ c.if-most-gt-MOST_BITS.true)) (window_due_lem args.«data».now args.self.bit_pos args.most)

overflow_mul-left : tie.Need-overflow_mul-left
overflow_mul-left c = omega (arith, limits c.before)

overflow_sub-left : tie.Need-overflow_sub-left
overflow_sub-left c = omega (arith, limits c.before)

returns-then-left-eq0 : tie.Need-returns-then-left-eq0
unfolding next_window
returns-then-left-eq0 c =
    let args = c.args in
    both window_outcome (simp (readable c.before.before, le-leb _ _ c.if-most-gt-MOST_BITS.false, length-bits_from, eq-eqb _ _ c.if-left-eq0.true)) (window_due_lem args.«data».now args.self.bit_pos args.most)

min-n-requires : tie.Need-min-n-requires
min-n-requires c κs = search rules

peek-requires : tie.Need-peek-requires
peek-requires c κs = omega (arith, limits c.before.before.before, c.min-n.ensures)

overflow_cast-result : tie.Need-overflow_cast-result
overflow_cast-result c = search rules

returns : tie.Need-returns
unfolding next_window
returns c =
    let args = c.args in
    both window_outcome (let s = c.before.before.before.before.before.before.before in
    let b = bits_from s.args.«data».now s.args.self.bit_pos in
    let n : c.min-n.result ≡ min s.args.most (length b) = c.min-n.ensures ∙ ap (min s.args.most) (sym (length-bits_from s.args.«data».now s.args.self.bit_pos)) in
    let Some : eqb (length b) 0 ≡ false = ne_eqb (length b) 0 (λ e. c.if-left-eq0.false (sym (length-bits_from s.args.«data».now s.args.self.bit_pos) ∙ e)) in
    let v : c.peek.result ≡ val (take s.args.most b) = c.peek.ensures ∙ ap (λ (k : ℕ). val (take k b)) n ∙ ap val (take_least s.args.most b) in
    simp (readable c.before.before.before.before, le-leb _ _ c.if-most-gt-MOST_BITS.false, Some, v, n, length-take)) (window_due_lem args.«data».now args.self.bit_pos args.most)

pub next_window_spec : {M : Type 1} → statement M
next_window_spec = tie.close (tie.spec in_data-requires returns-then-not-in_data returns-then-most-gt-MOST_BITS overflow_mul-left overflow_sub-left returns-then-left-eq0 min-n-requires peek-requires overflow_cast-result returns)
