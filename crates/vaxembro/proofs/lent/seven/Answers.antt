-- `vaxembro::lent::seven` meets its contract: number after number. Assumes nothing.
use Rattle.std.proofs.Common.{◌∙◌, ◌+◌, ◌<◌, ℕ, ℤ, List, ap, arith, get_or, pos}
use lib.Seq.{get_or-drop, get_or-take}
use Rattle.numbers.proofs.Fill.{is-build}
use Rattle.vaxembro.proofs.lent.seven.Goals as goal

pub returns : goal.returns
returns c =
    let s = c.args.lent.now in
    let at = c.args.at in
    is-build (pos 0) c.copy_from_slice.new.self 7 (λ (k : ℕ). get_or s (at + k) (pos 0)) c.copy_from_slice.ensures.len
    (λ (i : ℕ) (h : i < 7). ap (λ (xs : List ℤ). get_or xs i (pos 0)) c.copy_from_slice.ensures.after ∙ get_or-take _ _ i (pos 0) (omega arith) ∙ get_or-drop at s i (pos 0))
