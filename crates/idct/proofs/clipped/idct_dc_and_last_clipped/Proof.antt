-- `idct::clipped::idct_dc_and_last_clipped` meets its contract: its values are within the limits where the DC is. Assumes nothing.
use mathlib.Core.Bool.{Bool}
use mathlib.Core.List.{List, [], ◌∷◌}
use mathlib.Core.Path.{ap, ◌∙◌}
use lib.IntN.{ℤ, pos}
use mir.Facts.{to_z-of_z}
use mir.Syntax.{w32}
use borrow.Author.Rules.{rules}
use Rattle.numbers.specs.Grid.{build}
use Rattle.numbers.specs.Outcome.{accepted, checked}
use Rattle.ranges.specs.Range.{depth_fine, highest}
use Rattle.idct.specs.Limits.{block_after, values_fine}
use Rattle.idct.specs.ShortWays.{samples_in}
use Rattle.idct.proofs.ShortBlocks.{last_stored, last-values, stored}
use Rattle.idct.proofs.clipped.idct_dc_and_last_clipped.Statement.{statement}
use Rattle.idct.proofs.clipped.idct_dc_and_last_clipped.Tie as tie

bounds-f-0 : tie.Need-bounds-f-0
bounds-f-0 c = search rules

bounds-f-0-2 : tie.Need-bounds-f-0-2
bounds-f-0-2 c = search rules

bounds-f-7 : tie.Need-bounds-f-7
bounds-f-7 c = search rules

bounds-f-7-2 : tie.Need-bounds-f-7-2
bounds-f-7-2 c = search rules

at_depth-requires : tie.Need-at_depth-requires
at_depth-requires c κs = search rules

returns : tie.Need-returns
unfolding build
returns c =
    let s = c.before.before.before in
    let d = s.args.bits_per_pixel in
    let dc = s.args.dc in
    let r = c.at_depth.result in
    let e = c.at_depth.ensures in
    let made = ap stored (to_z-of_z {w = w32} {z = dc} s.ranges.dc) ∙ last_stored dc in (
      e.0 ∙ ap (λ (b : Bool). checked ((depth_fine d, 12) ∷ (b, 13) ∷ []) (accepted tt)) (ap (values_fine d) made ∙ last-values d dc),
      e.1 ∙ ap (λ (l : List (List ℤ)). block_after r (samples_in s.args.rounding (pos 0) (highest d) l) s.args.out.now) made,
    )

pub idct_dc_and_last_clipped_spec : {M : Type 1} → statement M
idct_dc_and_last_clipped_spec =
    tie.close (tie.spec bounds-f-0 bounds-f-0-2 bounds-f-7 bounds-f-7-2 at_depth-requires returns)
