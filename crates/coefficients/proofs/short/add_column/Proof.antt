-- `coefficients::short::add_column` meets its contract: each turn stores a level of the first column with its prediction, limited. Assumes nothing.
use mathlib.Core.Path.{◌≡◌, ap, ◌∙◌}
use Prim.Native.Nat.{ℕ, ◌+◌, ◌-◌, ◌≤◌}
use native.Mathlib.Omega.{arith}
use lib.IntN.{pos}
use lib.ListN.{get_or}
use mir.Syntax.{w32}
use Rattle.numbers.specs.Grid.{cell}
use Rattle.numbers.proofs.Expressions.{Sx, loc, ◌⊞◌, fits, back}
use Rattle.numbers.proofs.Words.{held}
use Rattle.coefficients.specs.Level.{saturated}
use Rattle.coefficients.specs.Short.{column_added}
use Rattle.coefficients.proofs.SideLaws.{column-abs, column-more, column-none}
use Rattle.coefficients.proofs.short.add_column.Statement.{statement}
use Rattle.coefficients.proofs.short.add_column.Tie as tie

abbrev invariant-loop-k : tie.invariant-loop-k
invariant-loop-k qf₀ more k₀ qf k = (k ≤ 7) × (qf ≡ column_added k more qf₀)

abbrev decreases-loop-k : tie.decreases-loop-k
decreases-loop-k qf₀ more k₀ qf k = 7 - k

loop-k-init : tie.Need-loop-k-init invariant-loop-k decreases-loop-k
loop-k-init c = (omega arith, column-none c.args.qf.now c.requires.0 c.args.more)

overflow_add-k : tie.Need-overflow_add-k invariant-loop-k decreases-loop-k
overflow_add-k c = omega arith

offset_bounds-qf-k : tie.Need-offset_bounds-qf-k invariant-loop-k decreases-loop-k
offset_bounds-qf-k c = omega arith

bounds-qf-k : tie.Need-bounds-qf-k invariant-loop-k decreases-loop-k
bounds-qf-k c = omega arith

bounds-qf-0 : tie.Need-bounds-qf-0 invariant-loop-k decreases-loop-k
bounds-qf-0 c = omega arith

offset_bounds-more-k : tie.Need-offset_bounds-more-k invariant-loop-k decreases-loop-k
offset_bounds-more-k c = omega arith

bounds-more-k : tie.Need-bounds-more-k invariant-loop-k decreases-loop-k
bounds-more-k c = omega arith

-- the level, and its prediction
abbrev sum : tie.After-saturate_qf-arg-in-loop-k-1 invariant-loop-k decreases-loop-k → Sx w32
sum c =
    let s = c.before.before.before.before in
    let l = c.loop-k in
    let h = c.loop-k-test.true in
    loc (cell l.qf (l.k + 1) 0) 2048 (column-abs s.args.qf.now s.requires.0 s.args.more l.k h l.qf l.invariant.1)
    ⊞ loc (get_or s.args.more l.k (pos 0)) 1046528 (s.requires.1 l.k h)

overflow_add-qf : tie.Need-overflow_add-qf invariant-loop-k decreases-loop-k
overflow_add-qf c = fits (sum c) tt

saturate_qf-requires : tie.Need-saturate_qf-requires invariant-loop-k decreases-loop-k
saturate_qf-requires c κs = tt

overflow_add-k-in-loop-k : tie.Need-overflow_add-k-in-loop-k invariant-loop-k decreases-loop-k
overflow_add-k-in-loop-k c = omega arith

offset_bounds-qf-k-in-loop-k : tie.Need-offset_bounds-qf-k-in-loop-k invariant-loop-k decreases-loop-k
offset_bounds-qf-k-in-loop-k c = omega arith

bounds-qf-k-in-loop-k : tie.Need-bounds-qf-k-in-loop-k invariant-loop-k decreases-loop-k
bounds-qf-k-in-loop-k c = omega arith

bounds-qf-0-in-loop-k : tie.Need-bounds-qf-0-in-loop-k invariant-loop-k decreases-loop-k
bounds-qf-0-in-loop-k c = omega arith

overflow_step-k : tie.Need-overflow_step-k invariant-loop-k decreases-loop-k
overflow_step-k c = omega arith

loop-k-smaller : tie.Need-loop-k-smaller invariant-loop-k decreases-loop-k
loop-k-smaller c = omega arith

loop-k-preserved : tie.Need-loop-k-preserved invariant-loop-k decreases-loop-k
loop-k-preserved c =
    let s = c.before.before.before.before.before in
    let l = c.loop-k in (
      omega arith,
      column-more s.args.qf.now s.requires.0 s.args.more l.k c.loop-k-test.true l.qf _ l.invariant.1
          (held c.saturate_qf.result c.saturate_qf.type_inv ∙ c.saturate_qf.ensures ∙ ap saturated (back (sum c.before) tt)),
    )

returns : tie.Need-returns invariant-loop-k decreases-loop-k
returns c =
    let s = c.before.before in
    let l = c.loop-k in
    let e : l.k ≡ 7 = omega arith in
    l.invariant.1 ∙ ap (λ (n : ℕ). column_added n s.args.more s.args.qf.now) e

pub add_column_spec : {M : Type 1} → statement M
add_column_spec =
    tie.close
    (tie.spec
    invariant-loop-k
    decreases-loop-k
    loop-k-init
    overflow_add-k
    offset_bounds-qf-k
    bounds-qf-k
    bounds-qf-0
    offset_bounds-more-k
    bounds-more-k
    overflow_add-qf
    saturate_qf-requires
    overflow_add-k-in-loop-k
    offset_bounds-qf-k-in-loop-k
    bounds-qf-k-in-loop-k
    bounds-qf-0-in-loop-k
    overflow_step-k
    loop-k-smaller
    loop-k-preserved
    returns)
