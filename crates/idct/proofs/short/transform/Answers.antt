-- `idct::short::transform` meets its contract: the samples by near numbers, or by the rule where one is in doubt. Assumes nothing.
use mathlib.Core.Path.{refl, sym}
use mir.Facts.{to_z-of_z}
use mir.Syntax.{w32}
use Rattle.exact_transform.proofs.EvenOddBounds.{both_bounded}
use Rattle.idct.proofs.EvenOddArms.{all_within, half-kept, half-not, half-within, near-are, ruled_between}
use Rattle.idct.proofs.short.transform.Goals as goal

pub near_samples-requires : goal.near_samples-requires
near_samples-requires c =
    let evens = half-kept 0 c.args.f.now _ _ c.args.least c.args.most _ _ c.even_rows.result (to_z-of_z {w = w32} {z = c.args.least} c.ranges.least) (to_z-of_z {w = w32} {z = c.args.most} c.ranges.most) c.even_rows.ensures c.in-Some.m c.in-Some.is in
    let odds = half-kept 1 c.args.f.now _ _ c.args.least c.args.most _ _ c.odd_rows.result (to_z-of_z {w = w32} {z = c.args.least} c.ranges.least) (to_z-of_z {w = w32} {z = c.args.most} c.ranges.most) c.odd_rows.ensures c.in-Some-odd_rows.n c.in-Some-odd_rows.is in
    let fine =
    all_within c.args.f.now c.args.least c.args.most c.requires.1
    (half-within 0 c.args.f.now _ _ c.args.least c.args.most _ _ c.even_rows.result (to_z-of_z {w = w32} {z = c.args.least} c.ranges.least) (to_z-of_z {w = w32} {z = c.args.most} c.ranges.most) c.even_rows.ensures c.in-Some.m c.in-Some.is)
    (half-within 1 c.args.f.now _ _ c.args.least c.args.most _ _ c.odd_rows.result (to_z-of_z {w = w32} {z = c.args.least} c.ranges.least) (to_z-of_z {w = w32} {z = c.args.most} c.ranges.most) c.odd_rows.ensures c.in-Some-odd_rows.n c.in-Some-odd_rows.is) in
    (c.requires.0, evens.few, odds.few, evens.below, odds.below, λ y x p q. both_bounded c.args.f.now (c.requires.3 fine) _ _ _ _ _ _ evens odds y x p q)

pub returns-else-not-near_samples : goal.returns-else-not-near_samples
returns-else-not-near_samples c =
    let evens = half-kept 0 c.args.f.now _ _ c.args.least c.args.most _ _ c.even_rows.result (to_z-of_z {w = w32} {z = c.args.least} c.ranges.least) (to_z-of_z {w = w32} {z = c.args.most} c.ranges.most) c.even_rows.ensures c.in-Some.m c.in-Some.is in
    let odds = half-kept 1 c.args.f.now _ _ c.args.least c.args.most _ _ c.odd_rows.result (to_z-of_z {w = w32} {z = c.args.least} c.ranges.least) (to_z-of_z {w = w32} {z = c.args.most} c.ranges.most) c.odd_rows.ensures c.in-Some-odd_rows.n c.in-Some-odd_rows.is in
    let fine =
    all_within c.args.f.now c.args.least c.args.most c.requires.1
    (half-within 0 c.args.f.now _ _ c.args.least c.args.most _ _ c.even_rows.result (to_z-of_z {w = w32} {z = c.args.least} c.ranges.least) (to_z-of_z {w = w32} {z = c.args.most} c.ranges.most) c.even_rows.ensures c.in-Some.m c.in-Some.is)
    (half-within 1 c.args.f.now _ _ c.args.least c.args.most _ _ c.odd_rows.result (to_z-of_z {w = w32} {z = c.args.least} c.ranges.least) (to_z-of_z {w = w32} {z = c.args.most} c.ranges.most) c.odd_rows.ensures c.in-Some-odd_rows.n c.in-Some-odd_rows.is) in
    let e = c.near_samples.ensures in
    (sym fine, near-are c.args.f.now (c.requires.3 fine) _ _ _ _ _ _ evens odds c.args.rounding _ _ c.args.lo c.args.hi _ (to_z-of_z {w = w32} {z = c.args.lo} c.ranges.lo) (to_z-of_z {w = w32} {z = c.args.hi} c.ranges.hi) e.out_after (e.sure c.if-not-near_samples.false))

pub slow-requires : goal.slow-requires
slow-requires c =
    let fine =
    all_within c.args.f.now c.args.least c.args.most c.requires.1
    (half-within 0 c.args.f.now _ _ c.args.least c.args.most _ _ c.even_rows.result (to_z-of_z {w = w32} {z = c.args.least} c.ranges.least) (to_z-of_z {w = w32} {z = c.args.most} c.ranges.most) c.even_rows.ensures c.in-Some.m c.in-Some.is)
    (half-within 1 c.args.f.now _ _ c.args.least c.args.most _ _ c.odd_rows.result (to_z-of_z {w = w32} {z = c.args.least} c.ranges.least) (to_z-of_z {w = w32} {z = c.args.most} c.ranges.most) c.odd_rows.ensures c.in-Some-odd_rows.n c.in-Some-odd_rows.is) in
    (c.requires.1, c.requires.3 fine)

pub returns-in_default : goal.returns-in_default
returns-in_default c =
    let k = c.even_rows in
    (sym (half-not 0 c.args.f.now _ _ c.args.least c.args.most _ _ k.result (to_z-of_z {w = w32} {z = c.args.least} c.ranges.least) (to_z-of_z {w = w32} {z = c.args.most} c.ranges.most) k.ensures c.in_default.is), refl)

pub returns-in_default-odd_rows : goal.returns-in_default-odd_rows
returns-in_default-odd_rows c =
    let k = c.odd_rows in
    (sym (half-not 1 c.args.f.now _ _ c.args.least c.args.most _ _ k.result (to_z-of_z {w = w32} {z = c.args.least} c.ranges.least) (to_z-of_z {w = w32} {z = c.args.most} c.ranges.most) k.ensures c.in_default-odd_rows.is), refl)

pub returns-then-not-near_samples : goal.returns-then-not-near_samples
returns-then-not-near_samples c =
    let fine =
    all_within c.args.f.now c.args.least c.args.most c.requires.1
    (half-within 0 c.args.f.now _ _ c.args.least c.args.most _ _ c.even_rows.result (to_z-of_z {w = w32} {z = c.args.least} c.ranges.least) (to_z-of_z {w = w32} {z = c.args.most} c.ranges.most) c.even_rows.ensures c.in-Some.m c.in-Some.is)
    (half-within 1 c.args.f.now _ _ c.args.least c.args.most _ _ c.odd_rows.result (to_z-of_z {w = w32} {z = c.args.least} c.ranges.least) (to_z-of_z {w = w32} {z = c.args.most} c.ranges.most) c.odd_rows.ensures c.in-Some-odd_rows.n c.in-Some-odd_rows.is) in
    (sym fine, ruled_between c.args.f.now c.args.rounding _ _ c.args.lo c.args.hi _ (to_z-of_z {w = w32} {z = c.args.lo} c.ranges.lo) (to_z-of_z {w = w32} {z = c.args.hi} c.ranges.hi) c.slow.ensures)
