-- `scan_rows::put_scanned` meets its contract: the level alone, or fewer places than 64, or all of them by the rows of their scan. Assumes nothing.
use mathlib.Core.List.{List}
use mathlib.Core.Path.{◌≡◌, refl, sym, ◌∙◌}
use Prim.Native.Nat.{ℕ, ◌≤◌}
use native.Mathlib.Omega.{arith}
use lib.IntN.{ℤ}
use lib.ListN.{length, set}
use mir.Facts.{to_z-of_z}
use mir.Syntax.{w32}
use mir.Val.{of_z, to_z}
use Rattle.numbers.specs.Grid.{build}
use Rattle.scan.specs.Scan.{scanned}
use Rattle.scan.specs.declared.ScanType.{ScanType}
use Rattle.scan_rows.specs.UpTo.{up_to}
use Rattle.scan_rows.proofs.RowLaws.{all_scanned, level-alone}
use Rattle.scan_rows.proofs.put_scanned.Goals as goal

pub returns-then-end-le1 : goal.returns-then-end-le1
unfolding build
returns-then-end-le1 c =
    let a = c.args in
    level-alone a.level a.end a.qfs.now a.scan_type (omega arith) _ _ refl (to_z-of_z c.ranges.level)

-- the places by the scan that an arm is of
by_scan : (level : ℤ) (qfs : List ℤ) (s t : ScanType) (end : ℕ) → to_z w32 (of_z w32 level) ≡ level → 64 ≤ length qfs → 64 ≤ end → s ≡ t
    → scanned (set qfs 0 (to_z w32 (of_z w32 level))) t ≡ scanned (set (up_to end qfs) 0 level) s
by_scan level qfs s t end h l m e = (λ i. scanned (set qfs 0 (h i)) (sym e i)) ∙ all_scanned level qfs s l end m

pub by_horizontal-requires : goal.by_horizontal-requires
unfolding build
by_horizontal-requires c = (omega (arith, c.min.ensures), refl)

pub by_vertical-requires : goal.by_vertical-requires
unfolding build
by_vertical-requires c = (omega (arith, c.min.ensures), refl)

pub by_zigzag-requires : goal.by_zigzag-requires
unfolding build
by_zigzag-requires c = (omega (arith, c.min.ensures), refl)

pub returns-in-AlternateHorizontal : goal.returns-in-AlternateHorizontal
returns-in-AlternateHorizontal c =
    let a = c.args in
    c.by_horizontal.ensures ∙ by_scan a.level a.qfs.now a.scan_type _ a.end (to_z-of_z c.ranges.level) (omega (arith, c.min.ensures)) (omega (arith, c.min.ensures)) c.in-AlternateHorizontal.is

pub returns-in-AlternateVertical : goal.returns-in-AlternateVertical
returns-in-AlternateVertical c =
    let a = c.args in
    c.by_vertical.ensures ∙ by_scan a.level a.qfs.now a.scan_type _ a.end (to_z-of_z c.ranges.level) (omega (arith, c.min.ensures)) (omega (arith, c.min.ensures)) c.in-AlternateVertical.is

pub returns-in-Zigzag : goal.returns-in-Zigzag
returns-in-Zigzag c =
    let a = c.args in
    c.by_zigzag.ensures ∙ by_scan a.level a.qfs.now a.scan_type _ a.end (to_z-of_z c.ranges.level) (omega (arith, c.min.ensures)) (omega (arith, c.min.ensures)) c.in-Zigzag.is
