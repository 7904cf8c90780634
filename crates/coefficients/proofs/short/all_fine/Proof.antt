-- `coefficients::short::all_fine` meets its contract: another number of places tells at once, and of 64 it is what is told so far, with the tests that are left. Assumes nothing.
use mathlib.Core.Bool.{◌&&◌}
use mathlib.Core.Path.{◌≡◌, refl, ap, ◌∙◌}
use Prim.Native.Nat.{◌-◌, ◌≤◌}
use native.Mathlib.Omega.{arith}
use lib.IntN.{pos}
use lib.ListN.{drop, get_or, length}
use borrow.Author.Tests.{eq-eqb, ne_eqb}
use Rattle.numbers.specs.Every.{every}
use Rattle.numbers.proofs.Words.{held}
use Rattle.ranges.specs.Range.{level_fine}
use Rattle.numbers.proofs.EveryLaws.{test_done, test_more}
use Rattle.coefficients.proofs.short.all_fine.Statement.{statement}
use Rattle.coefficients.proofs.short.all_fine.Tie as tie

abbrev invariant-loop-k : tie.invariant-loop-k
invariant-loop-k qfs fine₀ k₀ fine k = (1 ≤ k) × (k ≤ 64) × (every level_fine (drop 1 qfs) ≡ (fine && every level_fine (drop k qfs)))

abbrev decreases-loop-k : tie.decreases-loop-k
decreases-loop-k qfs fine₀ k₀ fine k = 64 - k

returns-then-qfs-ne64 : tie.Need-returns-then-qfs-ne64 invariant-loop-k decreases-loop-k
returns-then-qfs-ne64 c = let qfs = c.args.qfs.now in rw (ne_eqb (length qfs) 64 c.if-qfs-ne64.true)

loop-k-init : tie.Need-loop-k-init invariant-loop-k decreases-loop-k
loop-k-init c = (omega arith, omega arith, refl)

offset_bounds-qfs-k : tie.Need-offset_bounds-qfs-k invariant-loop-k decreases-loop-k
offset_bounds-qfs-k c = omega arith

bounds-qfs-k : tie.Need-bounds-qfs-k invariant-loop-k decreases-loop-k
bounds-qfs-k c = omega arith

fine-level-requires : tie.Need-fine-level-requires invariant-loop-k decreases-loop-k
fine-level-requires c κs = tt

overflow_step-k : tie.Need-overflow_step-k invariant-loop-k decreases-loop-k
overflow_step-k c = omega arith

loop-k-smaller : tie.Need-loop-k-smaller invariant-loop-k decreases-loop-k
loop-k-smaller c = omega arith

loop-k-preserved : tie.Need-loop-k-preserved invariant-loop-k decreases-loop-k
loop-k-preserved c =
    let e = c.before.before.before.before in
    let qfs = e.args.qfs.now in
    let l = c.loop-k in (
      omega arith,
      omega arith,
      test_more level_fine (pos 0) qfs (every level_fine (drop 1 qfs)) l.k l.fine c.fine-level.result (omega arith) l.invariant.2
          (c.fine-level.ensures ∙ ap level_fine (held (get_or qfs l.k (pos 0)) c.fine-arg-1.given)),
    )

returns : tie.Need-returns invariant-loop-k decreases-loop-k
returns c =
    let e = c.before.before in
    let qfs = e.args.qfs.now in
    let l = c.loop-k in
    rw (eq-eqb (length qfs) 64 e.if-qfs-ne64.false) (test_done level_fine (pos 0) qfs (every level_fine (drop 1 qfs)) l.k l.fine (omega arith) l.invariant.2)

pub all_fine_spec : {M : Type 1} → statement M
all_fine_spec =
    tie.close
    (tie.spec
    invariant-loop-k
    decreases-loop-k
    returns-then-qfs-ne64
    loop-k-init
    offset_bounds-qfs-k
    bounds-qfs-k
    fine-level-requires
    overflow_step-k
    loop-k-smaller
    loop-k-preserved
    returns)
