-- `idct::short::even_rows` meets its contract, one row a turn. Assumes nothing.
use mathlib.Core.Bool.{true}
use mathlib.Core.List.{List, []}
use mathlib.Core.Path.{◌≡◌, sym, subst, ◌∙◌}
use Prim.Native.Nat.{ℕ, ◌+◌, ◌-◌, ◌*◌, ◌≤◌, ◌<◌}
use native.Mathlib.Omega.{arith}
use lib.IntN.{ℤ, pos}
use lib.ListN.{get_or}
use mir.Facts.{to_z-of_z}
use mir.Syntax.{w32}
use mir.Val.{SFits, of_z, to_z}
use Rattle.numbers.proofs.Every.{every_fails}
use Rattle.numbers.specs.Every.{every}
use Rattle.ranges.specs.Range.{within}
use Rattle.exact_transform.specs.EvenOdd.{Half}
use Rattle.idct.proofs.EvenOddLaws.{half_kept_at, half-kept-none, half-kept-same, half_skip_at, within_at}
use Rattle.idct.proofs.KeptLaws.{zeros_within}
use Rattle.numbers.proofs.Tests.{true-T}
use Rattle.idct.proofs.short.even_rows.Lts.{then-not-zero_row+else-not-row_within, else-not-zero_row}
use Rattle.idct.proofs.short.even_rows.Statement.{statement}
use Rattle.idct.proofs.short.even_rows.Tie as tie

abbrev invariant-loop-k : tie.invariant-loop-k
invariant-loop-k f table least most terms₀ which₀ n₀ k₀ terms which n k = (k ≤ 4) × Half 0 f k terms which n × ((i : ℕ) → i < k → every (within (to_z w32 least) (to_z w32 most)) (get_or f (2 * i + 0) []) ≡ true)

abbrev decreases-loop-k : tie.decreases-loop-k
decreases-loop-k f table least most terms₀ which₀ n₀ k₀ terms which n k = 4 - k

loop-k-init : tie.Need-loop-k-init invariant-loop-k decreases-loop-k
loop-k-init c = (omega arith, half-kept-none 0 c.args.f.now _ _ c.requires.2 c.requires.3, λ i h. absurd (omega arith))

overflow_mul-v : tie.Need-overflow_mul-v invariant-loop-k decreases-loop-k
overflow_mul-v c = omega arith

offset_bounds-f-v : tie.Need-offset_bounds-f-v invariant-loop-k decreases-loop-k
offset_bounds-f-v c = omega arith

bounds-f-v : tie.Need-bounds-f-v invariant-loop-k decreases-loop-k
bounds-f-v c = omega arith

zero_row-requires : tie.Need-zero_row-requires invariant-loop-k decreases-loop-k
zero_row-requires c κs = tt

row_within-requires : tie.Need-row_within-requires invariant-loop-k decreases-loop-k
row_within-requires c κs = tt

-- the limits, read back
module _ (least most : ℤ) (fits_least : SFits w32 least) (fits_most : SFits w32 most) where
  row_back : (l : List ℤ) → every (within (to_z w32 (of_z w32 least)) (to_z w32 (of_z w32 most))) l ≡ every (within least most) l
  row_back l =
      let lo = to_z-of_z {w = w32} {z = least} fits_least in
      let hi = to_z-of_z {w = w32} {z = most} fits_most in
      λ i. every (within (lo i) (hi i)) l

  back : (l : List (List ℤ)) → every (every (within (to_z w32 (of_z w32 least)) (to_z w32 (of_z w32 most)))) l ≡ every (every (within least most)) l
  back l =
      let lo = to_z-of_z {w = w32} {z = least} fits_least in
      let hi = to_z-of_z {w = w32} {z = most} fits_most in
      λ i. every (every (within (lo i) (hi i))) l

  zero_back : within (to_z w32 (of_z w32 least)) (to_z w32 (of_z w32 most)) (pos 0) ≡ within least most (pos 0)
  zero_back =
      let lo = to_z-of_z {w = w32} {z = least} fits_least in
      let hi = to_z-of_z {w = w32} {z = most} fits_most in
      λ i. within (lo i) (hi i) (pos 0)

returns-then-not-row_within : tie.Need-returns-then-not-row_within invariant-loop-k decreases-loop-k
returns-then-not-row_within c =
    let l = c.args.f.now in
    sym (back c.args.least c.args.most c.ranges.least c.ranges.most l) ∙ every_fails (every (within (to_z w32 (of_z w32 c.args.least)) (to_z w32 (of_z w32 c.args.most)))) [] l (2 * c.loop-k.k) (omega (arith, c.requires.1, c.loop-k-test.true)) (sym c.row_within.ensures ∙ c.if-not-row_within.true)

offset_bounds-f-v-then-not-zero_row : tie.Need-offset_bounds-f-v-then-not-zero_row invariant-loop-k decreases-loop-k
offset_bounds-f-v-then-not-zero_row c = omega arith

bounds-f-v-then-not-zero_row : tie.Need-bounds-f-v-then-not-zero_row invariant-loop-k decreases-loop-k
bounds-f-v-then-not-zero_row c = omega arith

offset_bounds-terms-n : tie.Need-offset_bounds-terms-n invariant-loop-k decreases-loop-k
offset_bounds-terms-n c = omega arith

bounds-terms-n : tie.Need-bounds-terms-n invariant-loop-k decreases-loop-k
bounds-terms-n c = omega arith

paired_terms-requires : tie.Need-paired_terms-requires invariant-loop-k decreases-loop-k
paired_terms-requires c κs = c.requires.0

offset_bounds-which-n : tie.Need-offset_bounds-which-n invariant-loop-k decreases-loop-k
offset_bounds-which-n c = omega arith

bounds-which-n : tie.Need-bounds-which-n invariant-loop-k decreases-loop-k
bounds-which-n c = omega arith

overflow_add-n : tie.Need-overflow_add-n invariant-loop-k decreases-loop-k
overflow_add-n c = omega arith

overflow_step-k : tie.Need-overflow_step-k invariant-loop-k decreases-loop-k
overflow_step-k c = omega arith

loop-k-smaller : tie.Need-loop-k-smaller invariant-loop-k decreases-loop-k
loop-k-smaller c = omega arith

loop-k-preserved : tie.Need-loop-k-preserved invariant-loop-k decreases-loop-k
loop-k-preserved c =
    let l = c.args.f.now in
    let k = c.loop-k.k in
    let lo = to_z w32 (of_z w32 c.args.least) in
    let hi = to_z w32 (of_z w32 c.args.most) in
    let zero = zero_back c.args.least c.args.most c.ranges.least c.ranges.most ∙ c.requires.4 in
    let v = 2 * k in
    let z : v ≡ 2 * k + 0 = omega arith in
    let more : every (within lo hi) (get_or l v []) ≡ true → (j : ℕ) → j < k + 1 → every (within lo hi) (get_or l (2 * j + 0) []) ≡ true = λ e j q. within_at 0 l k v z lo hi e c.loop-k.invariant.2 j q in (
      omega arith,
      elim c.if-not-zero_row.branch [
        | then-not-zero_row+else-not-row_within w ↦ half-kept-same 0 l (k + 1) c.if-not-zero_row.terms _ c.if-not-zero_row.which _ c.if-not-zero_row.n _ w.terms-is w.which-is w.n-is (half_kept_at 0 l k v z c.loop-k.terms c.loop-k.which c.loop-k.n _ w.paired_terms.ensures c.loop-k-test.true (omega arith) c.loop-k.invariant.1)
        | else-not-zero_row w ↦ half-kept-same 0 l (k + 1) c.if-not-zero_row.terms _ c.if-not-zero_row.which _ c.if-not-zero_row.n _ w.terms-is w.which-is w.n-is (half_skip_at 0 l k v z c.loop-k.terms c.loop-k.which c.loop-k.n (true-T _ (sym c.zero_row.ensures ∙ w.if-not-zero_row.false)) c.loop-k.invariant.1)
      ],
      elim c.if-not-zero_row.branch [
        | then-not-zero_row+else-not-row_within w ↦ more (sym w.row_within.ensures ∙ w.if-not-row_within.false)
        | else-not-zero_row w ↦ more (zeros_within lo hi (get_or l v []) zero (sym c.zero_row.ensures ∙ w.if-not-zero_row.false))
      ],
    )

returns : tie.Need-returns invariant-loop-k decreases-loop-k
returns c =
    let l = c.args.f.now in
    let h : c.loop-k.k ≡ 4 = omega (arith, c.loop-k.invariant.0, c.loop-k-test.false) in
    (λ i q. sym (row_back c.args.least c.args.most c.ranges.least c.ranges.most (get_or l (2 * i + 0) [])) ∙ c.loop-k.invariant.2 i (omega arith), subst (λ (k : ℕ). Half 0 l k c.loop-k.terms c.loop-k.which c.loop-k.n) h c.loop-k.invariant.1)

pub even_rows_spec : {M : Type 1} → statement M
even_rows_spec =
    tie.close
    (tie.spec
    invariant-loop-k
    decreases-loop-k
    loop-k-init
    overflow_mul-v
    offset_bounds-f-v
    bounds-f-v
    zero_row-requires
    row_within-requires
    returns-then-not-row_within
    offset_bounds-f-v-then-not-zero_row
    bounds-f-v-then-not-zero_row
    offset_bounds-terms-n
    bounds-terms-n
    paired_terms-requires
    offset_bounds-which-n
    bounds-which-n
    overflow_add-n
    overflow_step-k
    loop-k-smaller
    loop-k-preserved
    returns)
