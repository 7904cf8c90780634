-- `coefficients::level::predictors_fine` meets its contract: its seven tests are the definition's. Assumes nothing.
use mathlib.Core.Bool.{true}
use mathlib.Core.Path.{◌≡◌, ap, ◌∙◌}
use mir.Syntax.{w32}
use mir.Val.{of_z, to_z}
use borrow.Author.Rules.{rules}
use Rattle.numbers.proofs.Tests.{flag_passes, flag_refuses}
use Rattle.coefficients.proofs.level.predictors_fine.Statement.{statement}
use Rattle.prediction.specs.Refusal.{values_fine}
use Rattle.prediction.specs.declared.predictor.BlockPredictors.{BlockPredictors}
use Rattle.ranges.specs.Range.{dc_fine, quantiser_fine}
use Rattle.coefficients.proofs.level.predictors_fine.Tie as tie

-- the predictors, from each place where a test is decided
abbrev p1 : tie.After-fine → BlockPredictors
p1 c = c.args.p

abbrev p2 : tie.After-fine-2 → BlockPredictors
p2 c = p1 c.before.before.before

abbrev p3 : tie.After-fine-3 → BlockPredictors
p3 c = p2 c.before.before.before

abbrev p4 : tie.After-fine-4 → BlockPredictors
p4 c = p3 c.before.before

abbrev p5 : tie.After-fine-5 → BlockPredictors
p5 c = p4 c.before.before

abbrev p6 : tie.After-values_fine → BlockPredictors
p6 c = p5 c.before.before

-- the flags of the three DCs are the definition's tests
a_is : (c : tie.After-fine) → c.fine.result ≡ dc_fine (p1 c).fa_dc
a_is c =
    let g = c.struct_told-1.given in
    let e : to_z w32 (of_z w32 (p1 c).fa_dc) ≡ (p1 c).fa_dc = search rules in
    c.fine.ensures ∙ ap dc_fine e

b_is : (c : tie.After-fine-2) → c.fine-2.result ≡ dc_fine (p2 c).fb_dc
b_is c =
    let g = c.struct_told-2-1.given in
    let e : to_z w32 (of_z w32 (p2 c).fb_dc) ≡ (p2 c).fb_dc = search rules in
    c.fine-2.ensures ∙ ap dc_fine e

c-is : (c : tie.After-fine-3) → c.fine-3.result ≡ dc_fine (p3 c).fc_dc
c-is c =
    let g = c.struct_told-3-1.given in
    let e : to_z w32 (of_z w32 (p3 c).fc_dc) ≡ (p3 c).fc_dc = search rules in
    c.fine-3.ensures ∙ ap dc_fine e

-- a test that passed
a_ok : (c : tie.Else-not-fine) → dc_fine (p1 c.before).fa_dc ≡ true
a_ok c = flag_passes (a_is c.before) c.if-not-fine.false

b_ok : (c : tie.Else-not-fine-2) → dc_fine (p2 c.before).fb_dc ≡ true
b_ok c = flag_passes (b_is c.before) c.if-not-fine-2.false

c-ok : (c : tie.Else-not-fine-3) → dc_fine (p3 c.before).fc_dc ≡ true
c-ok c = flag_passes (c-is c.before) c.if-not-fine-3.false

qa_ok : (c : tie.Else-not-fine-4) → quantiser_fine (p4 c.before).qp_a ≡ true
qa_ok c = flag_passes c.fine-4.ensures c.if-not-fine-4.false

qc_ok : (c : tie.Else-not-fine-5) → quantiser_fine (p5 c.before).qp_c ≡ true
qc_ok c = flag_passes c.fine-5.ensures c.if-not-fine-5.false

column-ok : (c : tie.Else-not-values_fine) → values_fine (p6 c.before).a_has_column (p6 c.before).a_first_column ≡ true
column-ok c = flag_passes c.values_fine.ensures c.if-not-values_fine.false

-- from a test that passed, the one before it
abbrev e1 : tie.Else-not-fine-2 → tie.Else-not-fine
e1 c = c.before.before.before

abbrev e2 : tie.Else-not-fine-3 → tie.Else-not-fine-2
e2 c = c.before.before.before

abbrev e3 : tie.Else-not-fine-4 → tie.Else-not-fine-3
e3 c = c.before.before

abbrev e4 : tie.Else-not-fine-5 → tie.Else-not-fine-4
e4 c = c.before.before

abbrev e5 : tie.Else-not-values_fine → tie.Else-not-fine-5
e5 c = c.before.before

fine-requires : tie.Need-fine-requires
fine-requires c κs = search rules

returns-then-not-fine : tie.Need-returns-then-not-fine
returns-then-not-fine c = rw (flag_refuses (a_is c.before) c.if-not-fine.true)

fine-requires-2 : tie.Need-fine-requires-2
fine-requires-2 c κs = search rules

returns-then-not-fine-2 : tie.Need-returns-then-not-fine-2
returns-then-not-fine-2 c = let d = c.before.before.before in rw (a_ok d, flag_refuses (b_is c.before) c.if-not-fine-2.true)

fine-requires-3 : tie.Need-fine-requires-3
fine-requires-3 c κs = search rules

returns-then-not-fine-3 : tie.Need-returns-then-not-fine-3
returns-then-not-fine-3 c = let d = c.before.before.before in rw (a_ok (e1 d), b_ok d, flag_refuses (c-is c.before) c.if-not-fine-3.true)

fine-requires-4 : tie.Need-fine-requires-4
fine-requires-4 c κs = search rules

returns-then-not-fine-4 : tie.Need-returns-then-not-fine-4
returns-then-not-fine-4 c =
    let d = c.before.before in
    rw (a_ok (e1 (e2 d)), b_ok (e2 d), c-ok d, flag_refuses c.fine-4.ensures c.if-not-fine-4.true)

fine-requires-5 : tie.Need-fine-requires-5
fine-requires-5 c κs = search rules

returns-then-not-fine-5 : tie.Need-returns-then-not-fine-5
returns-then-not-fine-5 c =
    let d = c.before.before in
    rw (a_ok (e1 (e2 (e3 d))), b_ok (e2 (e3 d)), c-ok (e3 d), qa_ok d, flag_refuses c.fine-5.ensures c.if-not-fine-5.true)

values_fine-requires : tie.Need-values_fine-requires
values_fine-requires c κs = search rules

returns-then-not-values_fine : tie.Need-returns-then-not-values_fine
returns-then-not-values_fine c =
    let d = c.before.before in
    rw (a_ok (e1 (e2 (e3 (e4 d)))), b_ok (e2 (e3 (e4 d))), c-ok (e3 (e4 d)), qa_ok (e4 d), qc_ok d, flag_refuses c.values_fine.ensures c.if-not-values_fine.true)

values_fine-requires-2 : tie.Need-values_fine-requires-2
values_fine-requires-2 c κs = search rules

returns : tie.Need-returns
returns c =
    let d = c.before in
    rw (a_ok (e1 (e2 (e3 (e4 (e5 d))))), b_ok (e2 (e3 (e4 (e5 d)))), c-ok (e3 (e4 (e5 d))), qa_ok (e4 (e5 d)), qc_ok (e5 d), column-ok d) c.values_fine-2.ensures

pub predictors_fine_spec : {M : Type 1} → statement M
predictors_fine_spec =
    tie.close
    (tie.spec
    fine-requires
    returns-then-not-fine
    fine-requires-2
    returns-then-not-fine-2
    fine-requires-3
    returns-then-not-fine-3
    fine-requires-4
    returns-then-not-fine-4
    fine-requires-5
    returns-then-not-fine-5
    values_fine-requires
    returns-then-not-values_fine
    values_fine-requires-2
    returns)
