-- `scan::select_scan_type` meets its contract: each way's tests and direction pick the definition's case. Assumes nothing.
use borrow.Author.Rules.{rules}
use borrow.Author.Tests.{not-false, not-true}
use Rattle.scan.proofs.select_scan_type.Statement.{statement}
use Rattle.scan.proofs.select_scan_type.Tie as tie

returns-then-not-is_intra : tie.Need-returns-then-not-is_intra
returns-then-not-is_intra c = simp c.if-not-is_intra.true

returns-then-not-ac_pred_flag : tie.Need-returns-then-not-ac_pred_flag
returns-then-not-ac_pred_flag c = simp (c.if-not-is_intra.false, c.if-not-ac_pred_flag.true)

enum_told-1 : tie.Need-enum_told-1
enum_told-1 c = search rules

enum_told-in-FromAbove : tie.Need-enum_told-in-FromAbove
enum_told-in-FromAbove c = search rules

returns-in-FromLeft : tie.Need-returns-in-FromLeft
returns-in-FromLeft c =
    let s = c.before.before.before in
    simp (c.if-not-is_intra.false, c.if-not-ac_pred_flag.false, c.in-FromLeft.is)

returns-in-FromAbove : tie.Need-returns-in-FromAbove
returns-in-FromAbove c =
    let s = c.before.before.before in
    simp (c.if-not-is_intra.false, c.if-not-ac_pred_flag.false, c.in-FromAbove.is)

pub select_scan_type_spec : {M : Type 1} → statement M
select_scan_type_spec = tie.close (tie.spec returns-then-not-is_intra returns-then-not-ac_pred_flag enum_told-1 enum_told-in-FromAbove returns-in-FromLeft returns-in-FromAbove)
