-- `idct::short::kept_rows` meets its contract, one row a turn. Assumes nothing.
use mathlib.Core.Path.{◌≡◌, sym, subst, ◌∙◌}
use Prim.Native.Nat.{ℕ, ◌+◌, ◌-◌, ◌≤◌}
use native.Mathlib.Omega.{arith}
use Rattle.numbers.proofs.Tests.{true-T}
use Rattle.idct.specs.ShortWays.{Kept}
use Rattle.idct.proofs.KeptLaws.{kept_more, kept-none, kept_same, kept_skip}
use Rattle.idct.proofs.short.kept_rows.Lts.{then-not-zero_row, else-not-zero_row}
use Rattle.idct.proofs.short.kept_rows.Statement.{statement}
use Rattle.idct.proofs.short.kept_rows.Tie as tie

abbrev invariant-loop-v : tie.invariant-loop-v
invariant-loop-v f table terms₀ which₀ n₀ v₀ terms which n v = (v ≤ 8) × Kept f v terms which n

abbrev decreases-loop-v : tie.decreases-loop-v
decreases-loop-v f table terms₀ which₀ n₀ v₀ terms which n v = 8 - v

loop-v-init : tie.Need-loop-v-init invariant-loop-v decreases-loop-v
loop-v-init c = (omega arith, kept-none c.args.f.now _ _ c.requires.2 c.requires.3)

offset_bounds-f-v : tie.Need-offset_bounds-f-v invariant-loop-v decreases-loop-v
offset_bounds-f-v c = omega arith

bounds-f-v : tie.Need-bounds-f-v invariant-loop-v decreases-loop-v
bounds-f-v c = omega arith

zero_row-requires : tie.Need-zero_row-requires invariant-loop-v decreases-loop-v
zero_row-requires c κs = tt

row_terms-more-requires : tie.Need-row_terms-more-requires invariant-loop-v decreases-loop-v
row_terms-more-requires c κs = c.requires.0

offset_bounds-terms-n : tie.Need-offset_bounds-terms-n invariant-loop-v decreases-loop-v
offset_bounds-terms-n c = omega arith

bounds-terms-n : tie.Need-bounds-terms-n invariant-loop-v decreases-loop-v
bounds-terms-n c = omega arith

offset_bounds-which-n : tie.Need-offset_bounds-which-n invariant-loop-v decreases-loop-v
offset_bounds-which-n c = omega arith

bounds-which-n : tie.Need-bounds-which-n invariant-loop-v decreases-loop-v
bounds-which-n c = omega arith

overflow_add-n : tie.Need-overflow_add-n invariant-loop-v decreases-loop-v
overflow_add-n c = omega arith

overflow_step-v : tie.Need-overflow_step-v invariant-loop-v decreases-loop-v
overflow_step-v c = omega arith

loop-v-smaller : tie.Need-loop-v-smaller invariant-loop-v decreases-loop-v
loop-v-smaller c = omega arith

loop-v-preserved : tie.Need-loop-v-preserved invariant-loop-v decreases-loop-v
loop-v-preserved c =
    let l = c.args.f.now in
    let v = c.loop-v.v in (
      omega arith,
      elim c.if-not-zero_row.branch [
        | then-not-zero_row w ↦ kept_same l (v + 1) c.if-not-zero_row.terms _ c.if-not-zero_row.which _ c.if-not-zero_row.n _ w.terms-is w.which-is w.n-is (kept_more l v c.loop-v.terms c.loop-v.which c.loop-v.n w.row_terms-more.result w.row_terms-more.ensures c.loop-v-test.true c.loop-v.invariant.1)
        | else-not-zero_row w ↦ kept_same l (v + 1) c.if-not-zero_row.terms _ c.if-not-zero_row.which _ c.if-not-zero_row.n _ w.terms-is w.which-is w.n-is (kept_skip l v c.loop-v.terms c.loop-v.which c.loop-v.n (true-T _ (sym c.zero_row.ensures ∙ w.if-not-zero_row.false)) c.loop-v.invariant.1)
      ],
    )

returns : tie.Need-returns invariant-loop-v decreases-loop-v
returns c =
    let h : c.loop-v.v ≡ 8 = omega (arith, c.loop-v.invariant.0, c.loop-v-test.false) in
    subst (λ (v : ℕ). Kept c.args.f.now v c.loop-v.terms c.loop-v.which c.loop-v.n) h c.loop-v.invariant.1

pub kept_rows_spec : {M : Type 1} → statement M
kept_rows_spec =
    tie.close
    (tie.spec
    invariant-loop-v
    decreases-loop-v
    loop-v-init
    offset_bounds-f-v
    bounds-f-v
    zero_row-requires
    row_terms-more-requires
    offset_bounds-terms-n
    bounds-terms-n
    offset_bounds-which-n
    bounds-which-n
    overflow_add-n
    overflow_step-v
    loop-v-smaller
    loop-v-preserved
    returns)
