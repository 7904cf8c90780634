-- `samples::write_all` meets its contract: six writes, one after the other. Assumes nothing.
use mathlib.Core.Path.{refl, ◌∙◌}
use borrow.Author.Rules.{rules}
use Rattle.samples.proofs.SixBlocks.{put_step, six_right}
use Rattle.samples.proofs.write_all.Statement.{statement}
use Rattle.samples.proofs.write_all.Tie as tie

slice_bounds-write_block-count : tie.Need-slice_bounds-write_block-count
slice_bounds-write_block-count c = search rules

slice_bounds-write_block-start : tie.Need-slice_bounds-write_block-start
slice_bounds-write_block-start c = search rules

slice_bounds-write_block-end : tie.Need-slice_bounds-write_block-end
slice_bounds-write_block-end c = search rules

bounds-blocks-0 : tie.Need-bounds-blocks-0
bounds-blocks-0 c = search rules

write_block-requires : tie.Need-write_block-requires
write_block-requires c κs = search rules

slice_bounds-write_block-count-2 : tie.Need-slice_bounds-write_block-count-2
slice_bounds-write_block-count-2 c = search rules

slice_bounds-write_block-start-2 : tie.Need-slice_bounds-write_block-start-2
slice_bounds-write_block-start-2 c = search rules

slice_bounds-write_block-end-2 : tie.Need-slice_bounds-write_block-end-2
slice_bounds-write_block-end-2 c = search rules

bounds-blocks-1 : tie.Need-bounds-blocks-1
bounds-blocks-1 c = search rules

write_block-requires-2 : tie.Need-write_block-requires-2
write_block-requires-2 c κs = search rules

slice_bounds-write_block-count-3 : tie.Need-slice_bounds-write_block-count-3
slice_bounds-write_block-count-3 c = search rules

slice_bounds-write_block-start-3 : tie.Need-slice_bounds-write_block-start-3
slice_bounds-write_block-start-3 c = search rules

slice_bounds-write_block-end-3 : tie.Need-slice_bounds-write_block-end-3
slice_bounds-write_block-end-3 c = search rules

bounds-blocks-2 : tie.Need-bounds-blocks-2
bounds-blocks-2 c = search rules

write_block-requires-3 : tie.Need-write_block-requires-3
write_block-requires-3 c κs = search rules

slice_bounds-write_block-count-4 : tie.Need-slice_bounds-write_block-count-4
slice_bounds-write_block-count-4 c = search rules

slice_bounds-write_block-start-4 : tie.Need-slice_bounds-write_block-start-4
slice_bounds-write_block-start-4 c = search rules

slice_bounds-write_block-end-4 : tie.Need-slice_bounds-write_block-end-4
slice_bounds-write_block-end-4 c = search rules

bounds-blocks-3 : tie.Need-bounds-blocks-3
bounds-blocks-3 c = search rules

write_block-requires-4 : tie.Need-write_block-requires-4
write_block-requires-4 c κs = search rules

slice_bounds-write_block-count-5 : tie.Need-slice_bounds-write_block-count-5
slice_bounds-write_block-count-5 c = search rules

slice_bounds-write_block-start-5 : tie.Need-slice_bounds-write_block-start-5
slice_bounds-write_block-start-5 c = search rules

slice_bounds-write_block-end-5 : tie.Need-slice_bounds-write_block-end-5
slice_bounds-write_block-end-5 c = search rules

bounds-blocks-4 : tie.Need-bounds-blocks-4
bounds-blocks-4 c = search rules

write_block-requires-5 : tie.Need-write_block-requires-5
write_block-requires-5 c κs = search rules

slice_bounds-write_block-count-6 : tie.Need-slice_bounds-write_block-count-6
slice_bounds-write_block-count-6 c = search rules

slice_bounds-write_block-start-6 : tie.Need-slice_bounds-write_block-start-6
slice_bounds-write_block-start-6 c = search rules

slice_bounds-write_block-end-6 : tie.Need-slice_bounds-write_block-end-6
slice_bounds-write_block-end-6 c = search rules

bounds-blocks-5 : tie.Need-bounds-blocks-5
bounds-blocks-5 c = search rules

write_block-requires-6 : tie.Need-write_block-requires-6
write_block-requires-6 c κs = search rules

shape_of-samples : tie.Need-shape_of-samples
shape_of-samples c = search rules

returns : tie.Need-returns
returns c =
    let c₅ = c.before in
    let c₄ = c₅.before.before.before.before in
    let c₃ = c₄.before.before.before.before in
    let c₂ = c₃.before.before.before.before in
    let c₁ = c₂.before.before.before.before in
    let c₀ = c₁.before.before.before.before in
    let s = c₀.before.before.before in
    let e₀ = put_step 0 256 16 _ s.args.samples.now _ _ refl c₀.write_block.ensures in
    let e₁ = put_step 8 248 16 _ _ _ _ e₀ c₁.write_block-2.ensures in
    let e₂ = put_step 128 128 16 _ _ _ _ e₁ c₂.write_block-3.ensures in
    let e₃ = put_step 136 120 16 _ _ _ _ e₂ c₃.write_block-4.ensures in
    let e₄ = put_step 256 64 8 _ _ _ _ e₃ c₄.write_block-5.ensures in
    let e₅ = put_step 320 64 8 _ _ _ _ e₄ c₅.write_block-6.ensures in
    e₅ ∙ six_right _ _ s.requires

pub write_all_spec : {M : Type 1} → statement M
write_all_spec =
    tie.close
    (tie.spec
    slice_bounds-write_block-count
    slice_bounds-write_block-start
    slice_bounds-write_block-end
    bounds-blocks-0
    write_block-requires
    slice_bounds-write_block-count-2
    slice_bounds-write_block-start-2
    slice_bounds-write_block-end-2
    bounds-blocks-1
    write_block-requires-2
    slice_bounds-write_block-count-3
    slice_bounds-write_block-start-3
    slice_bounds-write_block-end-3
    bounds-blocks-2
    write_block-requires-3
    slice_bounds-write_block-count-4
    slice_bounds-write_block-start-4
    slice_bounds-write_block-end-4
    bounds-blocks-3
    write_block-requires-4
    slice_bounds-write_block-count-5
    slice_bounds-write_block-start-5
    slice_bounds-write_block-end-5
    bounds-blocks-4
    write_block-requires-5
    slice_bounds-write_block-count-6
    slice_bounds-write_block-start-6
    slice_bounds-write_block-end-6
    bounds-blocks-5
    write_block-requires-6
    shape_of-samples
    returns)
