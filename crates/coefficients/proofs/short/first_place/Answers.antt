-- `coefficients::short::first_place` meets its contract: the first place, where there is one below the end. Assumes nothing.
use mathlib.Core.List.{List}
use mathlib.Core.Path.{ap, sym, ◌∙◌}
use Prim.Native.Nat.{min}
use native.Mathlib.Omega.{arith}
use lib.IntN.{ℤ, pos}
use lib.ListN.{get_or, length}
use borrow.Author.Rules.{rules}
use Rattle.numbers.proofs.Words.{held}
use Rattle.scan_rows.proofs.UpToLaws.{up_to_above, up_to_below, up_to_least}
use Rattle.coefficients.proofs.short.first_place.Goals as goal

pub returns-then-min-eq0 : goal.returns-then-min-eq0
returns-then-min-eq0 c =
    let a = c.args in
    sym (ap (λ (l : List ℤ). get_or l 0 (pos 0)) (sym (up_to_least a.end a.qfs.now)) ∙ up_to_above (min 64 (min a.end (length a.qfs.now))) a.qfs.now 0 (omega (arith, c.min.ensures)))

pub returns-else-min-eq0 : goal.returns-else-min-eq0
returns-else-min-eq0 c =
    let a = c.args in
    held (get_or a.qfs.now 0 (pos 0)) (search rules) ∙ sym (up_to_below a.end a.qfs.now 0 (omega arith) (omega (arith, c.min.ensures)))
