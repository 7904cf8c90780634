-- `idct::clipped::idct_dc_clipped` meets its contract: one sample, at every place. Assumes nothing.
use mathlib.Core.Bool.{true}
use mathlib.Core.Path.{◌≡◌, sym, ◌∙◌}
use Prim.Native.Nat.{◌+◌}
use lib.IntN.{pos}
use mir.Facts.{to_z-of_z}
use mir.Syntax.{w32}
use mir.Val.{of_z, to_z}
use borrow.Author.Rules.{rules}
use Rattle.numbers.proofs.Words.{held}
use Rattle.numbers.specs.Grid.{build}
use Rattle.numbers.specs.Limit.{clamp_z}
use Rattle.ranges.proofs.DepthLaws.{samples_never}
use Rattle.ranges.specs.Range.{depth_fine, highest, lowest}
use Rattle.rounding.specs.Rounding.{whole_of}
use Rattle.idct.specs.Limits.{in_bounds}
use Rattle.idct.proofs.ClippedArms.{all_taken, depth_lost, limits_told, no-depth, no_value, top_told, value_test}
use Rattle.idct.proofs.DcAlone.{dc_value, dc_bounded, dc-samples-are, dc_value_lem}
use Rattle.idct.proofs.ShortBlocks.{dc_modest}
use Rattle.idct.proofs.clipped.idct_dc_clipped.Goals as goal
use Rattle.idct.proofs.clipped.idct_dc_clipped.Goals.{After-dc_pass-value, After-inside, In-Some, In-Some-saturation_limits}

-- what the limits of values tell
limits : (c : In-Some) → let d = c.args.bits_per_pixel in (depth_fine d ≡ true) × (to_z w32 (of_z w32 c.in-Some.least) ≡ lowest (d + 3)) × (to_z w32 (of_z w32 c.in-Some.most) ≡ highest (d + 3))
limits c = limits_told c.args.bits_per_pixel _ c.value_limits.ensures c.in-Some.least c.in-Some.most c.in-Some.is (search rules) (search rules)

-- and those of samples
top : (c : In-Some-saturation_limits) → depth_fine c.args.bits_per_pixel ≡ true → to_z w32 (of_z w32 c.in-Some-saturation_limits.hi) ≡ highest c.args.bits_per_pixel
top c l =
    let m = c.in-Some-saturation_limits in
    top_told c.args.bits_per_pixel _ l c.saturation_limits.ensures _ m.hi m.is (search rules)

-- the test of the DC
tested : (c : After-inside) → c.inside.result ≡ in_bounds (c.args.bits_per_pixel + 3) c.args.dc
tested c =
    let l = limits c.before in
    c.inside.ensures ∙ value_test c.args.bits_per_pixel _ _ l.1 l.2 c.args.dc _ (to_z-of_z {w = w32} {z = c.args.dc} c.ranges.dc)

-- the value at every place
value : (c : After-dc_pass-value) → c.dc_pass-value.result ≡ dc_value c.args.dc
value c = dc_value_lem c.args.dc _ c.dc_pass.result c.dc_pass-value.result (to_z-of_z {w = w32} {z = c.args.dc} c.ranges.dc) c.dc_pass.ensures c.dc_pass-value.ensures

pub returns-in_default-clause-result_value : goal.returns-in_default-clause-result_value
returns-in_default-clause-result_value c =
    let d = c.args.bits_per_pixel in
    no-depth d (in_bounds (d + 3) c.args.dc) (depth_lost d _ c.value_limits.ensures c.in_default.is)

pub returns-then-not-inside-clause-result_value : goal.returns-then-not-inside-clause-result_value
returns-then-not-inside-clause-result_value c =
    let f = goal.at.returns-then-not-inside-clause-result_value c in
    let d = c.args.bits_per_pixel in
    no_value d (in_bounds (d + 3) c.args.dc) (limits f.In-Some).0 (sym (tested f.After-inside) ∙ c.if-not-inside.true)

pub ruled_sample-sample-requires : goal.ruled_sample-sample-requires
ruled_sample-sample-requires c =
    let f = goal.at.ruled_sample-sample-requires c in
    let h = sym (tested f.After-inside) ∙ c.if-not-inside.false in
    dc_bounded c.args.dc c.dc_pass-value.result (dc_modest c.args.bits_per_pixel c.args.dc h (limits f.In-Some).0) (value f.After-dc_pass-value)

pub returns-in_default-saturation_limits-clause-result_value : goal.returns-in_default-saturation_limits-clause-result_value
returns-in_default-saturation_limits-clause-result_value c =
    let f = goal.at.returns-in_default-saturation_limits-clause-result_value c in
    absurd (samples_never c.args.bits_per_pixel _ (limits f.In-Some).0 c.saturation_limits.ensures c.in_default-saturation_limits.is)

pub returns-clause-result_value : goal.returns-clause-result_value
returns-clause-result_value c =
    let f = goal.at.returns-clause-result_value c in
    let d = c.args.bits_per_pixel in
    all_taken d (in_bounds (d + 3) c.args.dc) (limits f.In-Some).0 (sym (tested f.After-inside) ∙ c.if-not-inside.false)

pub returns-clause-block : goal.returns-clause-block
unfolding build
returns-clause-block c =
    let f = goal.at.returns-clause-block c in
    let r = c.ruled_sample-sample in
    let v = c.dc_pass-value.result in
    dc-samples-are c.args.dc (pos 0) (highest c.args.bits_per_pixel) c.args.rounding v _ (value f.After-dc_pass-value)
    (held r.result r.type_inv ∙ r.ensures ∙ (λ i. clamp_z (whole_of c.args.rounding v) (pos 0) (top f.In-Some-saturation_limits (limits f.In-Some).0 i)))
