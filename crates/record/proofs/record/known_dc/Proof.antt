-- `record::record::known_dc` meets its contract. Assumes nothing.
use mathlib.Core.Path.{sym, ◌∙◌}
use Prim.Native.Nat.{◌*◌}
use lib.IntN.{pos}
use lib.Seq.{get_or-drop}
use borrow.Author.Rules.{rules}
use Rattle.numbers.proofs.Words.{held}
use Rattle.record.proofs.record.known_dc.Statement.{statement}
use Rattle.record.proofs.record.known_dc.Tie as tie

overflow_mul-b : tie.Need-overflow_mul-b
overflow_mul-b c = search rules

overflow_add-at : tie.Need-overflow_add-at
overflow_add-at c = search rules

number-requires : tie.Need-number-requires
number-requires c κs = search rules

returns : tie.Need-returns
returns c =
    let a = c.args in
    held c.number.result c.number.type_inv ∙ c.number.ensures ∙ sym (get_or-drop a.at a.s.now (15 * a.b) (pos 0))

pub known_dc_spec : {M : Type 1} → statement M
known_dc_spec = tie.close (tie.spec overflow_mul-b overflow_add-at number-requires returns)
