-- `idct::depth::at_depth` meets its contract, arm by arm. Assumes nothing.
use mathlib.Core.Bool.{cond, false, true}
use mathlib.Core.Path.{◌≡◌, ap, ◌∙◌}
use Prim.Native.Nat.{◌+◌}
use lib.IntN.{ℤ, pos}
use mir.Syntax.{w32}
use mir.Val.{of_z, to_z}
use borrow.Author.Rules.{rules}
use Rattle.numbers.proofs.Words.{held}
use Rattle.ranges.proofs.DepthLaws.{samples_never}
use Rattle.ranges.specs.Range.{depth_fine, highest, lowest}
use Rattle.idct.specs.Limits.{values_fine}
use Rattle.idct.specs.ShortWays.{samples_in}
use Rattle.idct.proofs.ClippedArms.{all_taken, bottom_told, depth_lost, left_old, limits_told, modest_taken, no-depth, no_value, taken-samples, top_told, values-told, zero-taken}
use Rattle.idct.proofs.depth.at_depth.Goals as goal
use Rattle.idct.proofs.depth.at_depth.Goals.{After-transform, In-Some}

-- what the limits of values tell
limits : (c : In-Some) → let d = c.args.bits_per_pixel in (depth_fine d ≡ true) × (to_z w32 (of_z w32 c.in-Some.least) ≡ lowest (d + 3)) × (to_z w32 (of_z w32 c.in-Some.most) ≡ highest (d + 3))
limits c = limits_told c.args.bits_per_pixel _ c.value_limits.ensures c.in-Some.least c.in-Some.most c.in-Some.is (search rules) (search rules)

pub transform-requires : goal.transform-requires
transform-requires c =
    let l = limits (goal.at.transform-requires c).In-Some in
    (c.half_table-table.ensures, c.requires, zero-taken c.args.bits_per_pixel _ _ l.1 l.2, modest_taken c.args.bits_per_pixel _ _ l.1 l.2 l.0 c.args.f.now)

pub returns-in_default-clause-result_value : goal.returns-in_default-clause-result_value
returns-in_default-clause-result_value c =
    let d = c.args.bits_per_pixel in
    no-depth d (values_fine d c.args.f.now) (depth_lost d _ c.value_limits.ensures c.in_default.is)

pub returns-in_default-saturation_limits-clause-result_value : goal.returns-in_default-saturation_limits-clause-result_value
returns-in_default-saturation_limits-clause-result_value c =
    let l = limits (goal.at.returns-in_default-saturation_limits-clause-result_value c).In-Some in
    absurd (samples_never c.args.bits_per_pixel _ l.0 c.saturation_limits.ensures c.in_default-saturation_limits.is)

pub returns-then-not-transform-clause-result_value : goal.returns-then-not-transform-clause-result_value
returns-then-not-transform-clause-result_value c =
    let l = limits (goal.at.returns-then-not-transform-clause-result_value c).In-Some in
    let d = c.args.bits_per_pixel in
    no_value d (values_fine d c.args.f.now) l.0 (values-told d _ _ l.1 l.2 c.args.f.now c.transform.result false c.transform.ensures.0 c.if-not-transform.true)

pub returns-then-not-transform-clause-block : goal.returns-then-not-transform-clause-block
returns-then-not-transform-clause-block c =
    left_old c.transform.result (samples_in c.args.rounding (to_z w32 (of_z w32 c.least_sample-low.result)) (to_z w32 (of_z w32 c.in-Some-saturation_limits.hi)) c.args.f.now) _ _ c.transform.ensures.1 c.if-not-transform.true

-- a transform that was done found each value within them
taken : (c : After-transform) → (to_z w32 (of_z w32 c.in-Some.least) ≡ lowest (c.args.bits_per_pixel + 3)) × (to_z w32 (of_z w32 c.in-Some.most) ≡ highest (c.args.bits_per_pixel + 3))
    → c.transform.result ≡ true → values_fine c.args.bits_per_pixel c.args.f.now ≡ true
taken c l e = values-told c.args.bits_per_pixel _ _ l.0 l.1 c.args.f.now c.transform.result true c.transform.ensures.0 e

pub returns-clause-result_value : goal.returns-clause-result_value
returns-clause-result_value c =
    let f = goal.at.returns-clause-result_value c in
    let d = c.args.bits_per_pixel in
    let l = limits f.In-Some in
    all_taken d (values_fine d c.args.f.now) l.0 (taken f.After-transform (l.1, l.2) c.if-not-transform.false)

pub returns-clause-block : goal.returns-clause-block
returns-clause-block c =
    let f = goal.at.returns-clause-block c in
    let d = c.args.bits_per_pixel in
    let l = limits f.In-Some in
    let b = c.saturation_limits in
    let m = c.in-Some-saturation_limits in
    let bottom = bottom_told d b.result l.0 b.ensures m.lo m.hi m.is (search rules) in
    let top = top_told d b.result l.0 b.ensures m.lo m.hi m.is (search rules) in
    let r = c.least_sample-low in
    let low = held r.result r.type_inv ∙ r.ensures ∙ ap (λ (z : ℤ). cond c.args.signed z (pos 0)) bottom in
    let e = c.transform.ensures in
    taken-samples d c.args.rounding _ _ _ _ _ c.args.f.now c.transform.result _ _ (taken f.After-transform (l.1, l.2) c.if-not-transform.false) l.1 l.2 low top e.0 e.1
