-- `fields::code::read_code` meets its contract: the row that the search finds in the window begins the bits. Assumes nothing.
use Rattle.std.proofs.Common.{Err, arith, sym, ap, ap₂, ◌∙◌, ◌≡◌, ◌+◌, ◌≤◌, ◌<◌, min, length, get_or, take}
use Rattle.bits.specs.Bits.{bits_from, val}
use Rattle.codes.specs.Table.{row_in}
use Rattle.fields.proofs.CodeLaws.{Shown, ends_at, found_at, found_small, row-is-found, row_missing, row-no-window, row-there, window-is}
use Rattle.fields.proofs.OutcomeLaws.{code_both}
use Rattle.fields.specs.Answer.{FoundAt, rows_of}
use Rattle.fields.specs.Inside.{invalid}
use Rattle.numbers.proofs.Parts.{err_by}
use Rattle.fields.proofs.code.read_code.Goals as goal
use Rattle.fields.proofs.code.read_code.Goals.{After-find_row-row}

-- the rows that are asked
most : (f : After-find_row-row) → f.min-most.result ≡ rows_of f.args.codes.now f.args.lens.now f.args.rows
most f = f.min-most.ensures ∙ ap₂ min f.min.ensures f.min-2.ensures

-- the window shows bits
shown : (f : After-find_row-row) → Shown f.args.«data».now f.args.c.bit_pos f.args.width f.in_ok-window.window f.in_ok-window.n
shown f = window-is f.args.«data».now f.args.c.bit_pos f.args.width _ _ (sym f.in_ok-window.was ∙ f.next_window.ensures.value)

-- and the row that is found in it begins them
found : (f : After-find_row-row) → FoundAt f.args.«data».now f.args.c.bit_pos f.args.codes.now f.args.lens.now f.args.width f.args.rows f.find_row-row.result
found f = found_at f.args.«data».now f.args.c.bit_pos f.args.codes.now f.args.lens.now f.args.width f.args.rows (shown f) _ f.min-most.result (most f) f.find_row-row.ensures

-- the code ends not far behind the data
small : (f : After-find_row-row) → f.find_row-row.result < f.min-most.result → f.args.c.bit_pos + get_or f.args.lens.now f.find_row-row.result 0 ≤ 8388640
small f k =
    let h = most f in
    found_small f.args.«data».now f.args.c.bit_pos f.args.codes.now f.args.lens.now f.args.width f.args.rows (shown f) _ (found f) (omega arith)

pub overflow_cast-result-then-row-most : goal.overflow_cast-result-then-row-most
overflow_cast-result-then-row-most c = omega (arith, small (goal.at.overflow_cast-result-then-row-most c).After-find_row-row c.if-row-most.true)

pub overflow_add-result : goal.overflow_add-result
overflow_add-result c = omega (arith, small (goal.at.overflow_add-result c).After-find_row-row c.if-row-most.true)

pub returns-in_err-window-clause-code_read : goal.returns-in_err-window-clause-code_read
returns-in_err-window-clause-code_read c =
    let a = c.args in
    let b = bits_from a.«data».now a.c.bit_pos in
    let i = row_in a.codes.now a.lens.now (rows_of a.codes.now a.lens.now a.rows) (val (take a.width b)) (length (take a.width b)) in (
      i,
      (
        row-is-found a.codes.now a.lens.now (rows_of a.codes.now a.lens.now a.rows) (val (take a.width b)) (length (take a.width b)),
        err_by c.from_residual.ensures ∙ row-no-window a.«data».now a.c.bit_pos a.width a.codes.now a.lens.now (rows_of a.codes.now a.lens.now a.rows) (invalid a.kind) _ (sym c.in_err-window.was ∙ c.next_window.ensures.value) i,
      ),
    )

pub returns-in_err-window-clause-outcome : goal.returns-in_err-window-clause-outcome
returns-in_err-window-clause-outcome c =
    let a = c.args in
    (code_both a.«data».now a.c.bit_pos a.codes.now a.lens.now a.width a.rows (invalid a.kind) _ (returns-in_err-window-clause-code_read c)).1

pub returns-then-row-most-clause-code_read : goal.returns-then-row-most-clause-code_read
returns-then-row-most-clause-code_read c =
    let f = (goal.at.returns-then-row-most-clause-code_read c).After-find_row-row in
    let a = c.args in
    let h = most f in
    let k = c.if-row-most.true in
    (c.find_row-row.result, (found f, row-there a.«data».now a.c.bit_pos a.width a.codes.now a.lens.now (rows_of a.codes.now a.lens.now a.rows) (invalid a.kind) (shown f) c.find_row-row.result (omega arith)))

pub returns-then-row-most-clause-outcome : goal.returns-then-row-most-clause-outcome
returns-then-row-most-clause-outcome c =
    let a = c.args in
    (code_both a.«data».now a.c.bit_pos a.codes.now a.lens.now a.width a.rows (invalid a.kind) _ (returns-then-row-most-clause-code_read c)).1

pub returns-clause-code_read : goal.returns-clause-code_read
returns-clause-code_read c =
    let f = (goal.at.returns-clause-code_read c).After-find_row-row in
    let a = c.args in
    let h = most f in
    let k = c.if-row-most.false in (
      c.find_row-row.result,
      (
        found f,
        ap Err c.no_code.ensures ∙ row_missing a.«data».now a.c.bit_pos a.width a.codes.now a.lens.now (rows_of a.codes.now a.lens.now a.rows) (invalid a.kind) (shown f) c.find_row-row.result (omega arith)
            c.ends_inside-ends_inside.result (c.ends_inside-ends_inside.ensures ∙ ends_at a.codes.now a.lens.now a.rows _ _ c.min-most.result h),
      ),
    )

pub returns-clause-outcome : goal.returns-clause-outcome
returns-clause-outcome c =
    let a = c.args in
    (code_both a.«data».now a.c.bit_pos a.codes.now a.lens.now a.width a.rows (invalid a.kind) _ (returns-clause-code_read c)).1
