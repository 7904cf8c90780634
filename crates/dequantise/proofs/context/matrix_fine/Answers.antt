-- `dequantise::context::matrix_fine` meets its contract, one test a turn: what is told so far, with the tests that are left of the row, and the rows that are left. Assumes nothing.
use Rattle.std.proofs.Common.{[], Bool, List, ap, drop, refl, slice_index_or, sym, ℕ, ◌&&◌, ◌+◌, ◌∙◌}
use native.Mathlib.Omega.{arith}
use denote.Builtin.{u8}
use Rattle.numbers.specs.Every.{every}
use Rattle.numbers.proofs.EveryLaws.{test_done, test_more}
use Rattle.scan.proofs.BlockLaws.{Square, square_owned}
use Rattle.dequantise.specs.Methods.{non_zero}
use Rattle.dequantise.proofs.context.matrix_fine.Goals as goal

pub loop-row-init : goal.loop-row-init
loop-row-init c = refl

pub loop-x-init : goal.loop-x-init
loop-x-init c = refl

pub loop-x-preserved : goal.loop-x-preserved
loop-x-preserved c =
    let g = c.well_formed.0 in
    let q : Square c.args.w = square_owned u8 c.args.w g.0 g.1.0.1 g.1.1 in
    let v = c.loop-row.row-index in
    let row : List ℕ = slice_index_or c.args.w v [] in
    let l = c.loop-x in
    test_more non_zero 0 row (c.loop-row.fine && every non_zero row) l.x-index l.fine (non_zero (slice_index_or row l.x-index 0)) (omega (arith, q.wide v c.loop-row-test.true)) l.invariant refl

pub loop-row-preserved : goal.loop-row-preserved
loop-row-preserved c =
    let g = c.well_formed.0 in
    let q : Square c.args.w = square_owned u8 c.args.w g.0 g.1.0.1 g.1.1 in
    let w = c.args.w in
    let v = c.loop-row.row-index in
    let row : List ℕ = slice_index_or w v [] in
    let b = c.loop-row.fine in
    let l = c.loop-x in
    let told = test_done non_zero 0 row (b && every non_zero row) l.x-index l.fine (omega (arith, q.wide v c.loop-row-test.true)) l.invariant in
    test_more (every non_zero) [] w (every (every non_zero) w) v b (every non_zero row) (omega (arith, q.long)) c.loop-row.invariant refl
    ∙ ap (λ (t : Bool). t && every (every non_zero) (drop (v + 1) w)) (sym told)

pub returns : goal.returns
returns c =
    let g = c.well_formed.0 in
    let q : Square c.args.w = square_owned u8 c.args.w g.0 g.1.0.1 g.1.1 in
    let l = c.loop-row in
    test_done (every non_zero) [] c.args.w (every (every non_zero) c.args.w) l.row-index l.fine (omega (arith, q.long)) l.invariant
