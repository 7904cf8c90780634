-- `scan_rows::up_to` meets its contract: the places that there are below the end are copied. Assumes nothing.
use mathlib.Core.List.{List, ◌++◌}
use mathlib.Core.Path.{◌≡◌, ap, ◌∙◌}
use Prim.Native.Nat.{ℕ, min}
use native.Mathlib.Omega.{arith}
use lib.IntN.{ℤ, pos}
use lib.ListN.{drop, length, replicate}
use Rattle.scan_rows.specs.UpTo.{up_to}
use Rattle.scan_rows.proofs.UpToLaws.{up_to_copied, up_to_least}
use Rattle.scan_rows.proofs.up_to.Goals as goal

pub returns : goal.returns
returns c =
    let a = c.args in
    let n = c.min-last.result in
    let e : n ≡ min 64 (min a.end (length a.qfs.now)) = omega (arith, c.min.ensures, c.min-last.ensures) in
    ap (λ (l : List ℤ). l ++ drop n (replicate 64 (pos 0))) c.copy_from_slice.ensures.after
    ∙ up_to_copied n a.qfs.now (omega arith) (omega arith)
    ∙ ap (λ (k : ℕ). up_to k a.qfs.now) e
    ∙ up_to_least a.end a.qfs.now
